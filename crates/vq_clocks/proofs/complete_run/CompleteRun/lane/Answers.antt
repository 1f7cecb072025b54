use Rattle.std.proofs.Common.{◌≡◌, Option, ap, ◌∙◌, sym, arith}
use Rattle.std.specs.Option.{option_map_or}
use Rattle.vq_plan_laws.proofs.Cited.{plan_lanes}
use Rattle.vq_model.specs.declared.plan.PlanJob.{PlanJob}
use Rattle.vq_model.specs.Lanes.{lane_at, lane_number}
use Rattle.vq_model.specs.Plan.{Plan}
use Rattle.vq_clocks.proofs.complete_run.CompleteRun.lane.Goals as goal

pub returns-clause-exists : goal.returns-clause-exists
returns-clause-exists c =
    let p = c.args.self.now in
    let at : lane_at p c.args.j ≡ c.number.result =
    ap (λ (q : Plan). lane_at q c.args.j) (sym c.plan.ensures.value)
    ∙ (ap (λ (o : Option PlanJob). option_map_or (λ x. lane_number x.lane) o 0) c.job.ensures ∙ sym c.number.ensures) in
    let l = (plan_lanes p c.plan.ensures.complete.plan).lane_exists c.args.j in
    omega arith
