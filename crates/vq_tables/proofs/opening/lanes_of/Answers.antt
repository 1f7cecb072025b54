use Rattle.std.proofs.Common.{◌≡◌, ◌∙◌, ◌+◌, ◌++◌, ◌∷◌, [], ℕ, length, get_or, set, sym, subst, arith, ap}
use Rattle.std.specs.Option.{option_map_or}
use Rattle.std.proofs.lemmas.List.{length-set, length-replicate}
use Rattle.vq_model.specs.declared.plan.PlanJob.{PlanJob}
use Rattle.vq_model.specs.declared.script.Script.{Script}
use Rattle.vq_model.specs.Lanes.{lane_number}
use Rattle.vq_plan_laws.proofs.Cited.{plan_lanes}
use Rattle.vq_tables.specs.Lanes.{no_lane}
use Rattle.vq_tables.specs.Opening.{HasLanesUpTo}
use Rattle.vq_tables.proofs.OpeningLaws.{lanes_none, lanes_more, lanes_open}
use Rattle.vq_tables.proofs.opening.lanes_of.Goals as goal

pub loop-job-init : goal.loop-job-init
loop-job-init c =
    let p = c.args.plan.now in
    let made = c.in_ok-lanes.ensures {u = tt} in
    let n = length c.as_slice.result.now + 1 in
    let queues = ap length c.as_slice.ensures in
    let script = ap (λ (x : Script). length x.queues) c.script.ensures.script in
    let size = length-replicate n no_lane in
    (ap length made ∙ (omega arith), subst (HasLanesUpTo p 0) (sym made) (lanes_none p n))

pub push-requires : goal.push-requires
push-requires c =
    let p = c.args.plan.now in
    let x = c.job.result.now in
    let e = (plan_lanes p c.requires).lane_exists c.loop-job.job in
    let own = ap (λ o. option_map_or (λ (y : PlanJob). lane_number y.lane) o 0) c.job.ensures in
    let is = c.number.ensures in
    let n = c.loop-job.invariant.0 in
    omega arith

pub loop-job-preserved : goal.loop-job-preserved
loop-job-preserved c =
    let p = c.args.plan.now in
    let x = c.job.result.now in
    let e = (plan_lanes p c.requires).lane_exists c.loop-job.job in
    let own = ap (λ o. option_map_or (λ (y : PlanJob). lane_number y.lane) o 0) c.job.ensures in
    let n = c.loop-job.invariant.0 in
    let more = lanes_more p c.loop-job.job x c.job.ensures c.loop-job.lanes c.loop-job.invariant.1 (omega arith) in
    let is = c.in_ok-push.ensures {u = tt} ∙ ap (λ (k : ℕ). set c.loop-job.lanes k (record (get_or c.loop-job.lanes k
    no_lane) { jobs = (get_or c.loop-job.lanes k no_lane).jobs ++ c.loop-job.job ∷ [] })) c.number.ensures in (
      ap length is ∙ (length-set c.loop-job.lanes (lane_number x.lane) (record (get_or c.loop-job.lanes (lane_number
          x.lane) no_lane) {
            jobs = (get_or c.loop-job.lanes (lane_number x.lane) no_lane).jobs ++ c.loop-job.job ∷
                [];
          }) ∙ n),
      subst (HasLanesUpTo p (c.loop-job.job + 1)) (sym is) more,
    )

pub returns : goal.returns
returns c =
    let p = c.args.plan.now in
    let test = c.loop-job-test.false in
    let end_ = c.loop-job.auto.job-end in
    let jobs = c.jobs-job-end.ensures in
    let all : c.loop-job.job ≡ length p.jobs = omega arith in
    lanes_open p (plan_lanes p c.requires) c.loop-job.lanes c.loop-job.invariant.0 (subst (λ (n : ℕ). HasLanesUpTo p
    n c.loop-job.lanes) all c.loop-job.invariant.1)
