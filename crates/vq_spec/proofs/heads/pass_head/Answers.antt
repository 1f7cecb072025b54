use Rattle.std.proofs.Common.{◌≡◌, ◌≢◌, ◌<◌, ◌++◌, ◌∷◌, [], ℕ, length, get_or, subst, sym, ap, ◌∙◌, arith}
use Rattle.std.proofs.Math.ListN.{set}
use Rattle.std.specs.Option.{option_map_or}
use Rattle.vq_model.specs.Lanes.{lane_number, lane_at}
use Rattle.vq_plan_laws.proofs.Cited.{plan_lanes}
use Rattle.vq_spec.specs.SlowProgress.{AreHeads}
use Rattle.vq_spec.proofs.SlowHeads.{ready_first, ready_is_head}
use Rattle.vq_spec.proofs.SlowSteps.{heads_push}
use Rattle.vq_spec.proofs.heads.pass_head.Goals as goal

pub overflow_add-j : goal.overflow_add-j
overflow_add-j c =
    let few = (plan_lanes c.args.plan.now c.requires.plan).few_jobs in
    omega (arith, c.requires.exists)

pub returns : goal.returns
returns c =
    let p = c.args.plan.now in
    let j = c.args.j in
    let heads = c.args.heads.now in
    let next = c.next_in_lane.result in
    let lanes = plan_lanes p c.requires.plan in
    let own : lane_at p j ≡ lane_number c.job.result.now.lane =
    ap (λ o. option_map_or (λ x. lane_number x.lane) o 0) c.job.ensures in
    let e : c.number-lane.result ≡ lane_at p j = c.number-lane.ensures ∙ sym own in
    let up = c.next_in_lane.ensures.at in
    let none : (i : ℕ) → j < i → i < next → lane_at p i ≢ lane_at p j =
    λ i a b q. c.next_in_lane.ensures.none i (omega arith) b (q ∙ sym e) in
    let in_lane : next < length p.jobs → lane_at p next ≡ lane_at p j =
    λ l. c.next_in_lane.ensures.in_lane l ∙ e in
    λ done closed ready right. (
    let new = (ready_first p lanes done closed j ready).0 in
    let here = ready_is_head p lanes done closed j (get_or heads (lane_at p j) 0) c.requires.exists ready (right.each (lane_at p j) (lanes.lane_exists j)) in
    subst (λ z. AreHeads p (done ++ j ∷ []) (set heads z next)) (sym e)
    (heads_push p lanes done closed j c.requires.exists new heads next right here c.next_in_lane.ensures.within (omega arith) none in_lane)
    )
