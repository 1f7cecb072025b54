use Rattle.std.proofs.Common.{◌≡◌, sym, ap, ◌∙◌, arith}
use Rattle.vq_model.proofs.Plans.{op_exists}
use Rattle.vq_model.specs.Plan.{Plan, signals_of}
use Rattle.vq_plan_laws.proofs.Cited.{plan_lanes, plan_well_formed}
use Rattle.vq_clocks.proofs.RowLaws.{ends_some, ends_none, last_of_job, last_none}
use Rattle.vq_clocks.proofs.clocks.table.ops_end.Goals as goal

pub overflow_add-result : goal.overflow_add-result
overflow_add-result c =
    let p = c.args.run.now in
    let x = c.in-Some.op.now in
    let s : signals_of p c.args.j ≡ c.signals_of.result.now = ap (λ (q : Plan). signals_of q c.args.j) (sym c.plan.ensures.value) ∙ sym c.signals_of.ensures in
    let l = op_exists p x c.args.j (last_of_job p (plan_well_formed p c.plan.ensures.complete.plan) c.args.j x c.signals_of.result.now s (sym c.in-Some.ensures.value)) in
    let few = (plan_lanes p c.plan.ensures.complete.plan).few_ops in
    omega arith

pub returns-in-Some : goal.returns-in-Some
returns-in-Some c =
    let p = c.args.run.now in
    let s : signals_of p c.args.j ≡ c.signals_of.result.now = ap (λ (q : Plan). signals_of q c.args.j) (sym c.plan.ensures.value) ∙ sym c.signals_of.ensures in
    ends_some p (plan_lanes p c.plan.ensures.complete.plan) (plan_well_formed p c.plan.ensures.complete.plan) c.args.j c.in-Some.op.now c.signals_of.result.now s (sym c.in-Some.ensures.value)

pub returns-in-None : goal.returns-in-None
returns-in-None c =
    let p = c.args.run.now in
    let s : signals_of p c.args.j ≡ c.signals_of.result.now = ap (λ (q : Plan). signals_of q c.args.j) (sym c.plan.ensures.value) ∙ sym c.signals_of.ensures in
    ends_none p (plan_well_formed p c.plan.ensures.complete.plan) c.args.j (s ∙ last_none c.signals_of.result.now c.in-None.ensures.value)
