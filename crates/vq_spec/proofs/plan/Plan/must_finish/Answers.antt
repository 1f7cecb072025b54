use Rattle.std.proofs.Common.{◌∙◌, ◌-◌, ap, arith, length, take}
use Rattle.vq_plan_laws.proofs.Cited.{plan_well_formed}
use Rattle.vq_spec.proofs.EdgeParts.{edges_count, firsts_are}
use Rattle.vq_spec.proofs.plan.Plan.must_finish.Goals as goal

pub slice_bounds-result-count : goal.slice_bounds-result-count
slice_bounds-result-count c =
    let p = c.args.self.now in
    let count = edges_count p (plan_well_formed p c.script-script.ensures.plan) c.args.j in
    omega (arith, ap length c.edges-edges.ensures, ap length c.awaited.ensures)

pub returns : goal.returns
returns c =
    let p = c.args.self.now in
    (λ i. take (length (c.edges-edges.ensures i) - length (c.awaited.ensures i)) (c.edges-edges.ensures i))
    ∙ firsts_are p (plan_well_formed p c.script-script.ensures.plan) c.args.j
