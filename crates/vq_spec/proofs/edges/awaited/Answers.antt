use Rattle.std.proofs.Common.{◌∙◌, ap, sym, get_or}
use Rattle.std.specs.List.{slice_get}
use Rattle.std.proofs.lemmas.Option.{slice_get-get_or}
use Rattle.vq_model.specs.declared.plan.Need.{Need}
use Rattle.vq_model.specs.Lowering.{plan_of}
use Rattle.vq_spec.proofs.PlanEdges.{resolving_push}
use Rattle.vq_spec.proofs.edges.awaited.Goals as goal

pub loop-need-preserved : goal.loop-need-preserved
loop-need-preserved c =
    let none : Need = record { line = 0; chain = 0; value = 0; from = 0 } in
    let i = c.loop-need.need-index in
    resolving_push (plan_of c.args.script.now) c.loop-need.ops.items _ c.args.job.now.needs i
    (get_or c.as_slice-need-items.result.now i none)
    (ap (λ ns. slice_get ns i) (sym c.as_slice-need-items.ensures)
    ∙ slice_get-get_or c.as_slice-need-items.result.now i none c.loop-need-test.true)
    c.loop-need.invariant (c.in_ok-push_resolving.ensures {u = tt})
