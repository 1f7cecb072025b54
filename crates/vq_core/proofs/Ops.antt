-- Where an operation stands in its chain's timeline.
use Rattle.std.proofs.Common.{◌≡◌, ℕ, ◌<◌, Bool, length, Some, option_map, sym, ap, ◌∙◌, arith, inl, inr}
use Rattle.std.specs.Prelude.{nat_lt}
use Rattle.std.specs.List.{slice_get}
use Rattle.std.proofs.lemmas.Bool.{cases_lt, lt-ltb, le-ltb}
use Rattle.std.proofs.lemmas.List.{length-map}
use Rattle.vq_model.specs.declared.plan.Op.{Op}
use Rattle.vq_model.specs.Plan.{Plan, chain, chain_of, job_of, value}
use Rattle.vq_ground.proofs.Gets.{get_within}
use Rattle.vq_point_laws.specs.Points.{PointState}
use Rattle.vq_point_laws.specs.Timeline.{Timeline, point_at}
use Rattle.vq_core_laws.specs.Firsts.{AreFirst}
use Rattle.vq_core_laws.specs.TimelineOf.{IsTimelineOf}
use Rattle.vq_core_laws.proofs.Cited.{Facts}

module _ (p : Plan) (f : Facts p) (e : ℕ) (o : Op) (at : slice_get p.ops e ≡ Some o) where
  pub of_chain : chain_of p e ≡ Some o.chain
  of_chain = ap (option_map (λ (x : Op). x.chain)) at

  pub of_job : job_of p e ≡ Some o.job
  of_job = ap (option_map (λ (x : Op). x.job)) at

  pub job_exists : o.job < length p.jobs
  job_exists = f.lanes.job_exists e o.job of_job

  pub chain_exists : o.chain < length p.chains
  chain_exists =
      let l = f.semaphores.op_chain e o.chain of_chain in
      let n = f.semaphores.chains in
      omega arith

  pub here : slice_get (chain p o.chain) o.index ≡ Some e
  here = f.place e o at

  pub first_is : (done : ℕ → Bool) (n : ℕ) → AreFirst done (chain p o.chain) n → nat_lt o.index n ≡ done e
  first_is done n first = elim (cases_lt o.index n) [
    | inl l ↦ lt-ltb o.index n l ∙ sym (first.before o.index e here l)
    | inr l ↦ le-ltb o.index n l ∙ sym (first.after o.index e here l)
  ]

  module _ (w : PointState) (l : Timeline) (is : IsTimelineOf p w o.chain l) where
    pub index_exists : o.index < length l.values
    index_exists =
        let m = get_within (chain p o.chain) o.index e here in
        let n = ap length is.values in
        let k = length-map (chain p o.chain) (value p) in
        omega arith

    pub point_is : point_at l o.index ≡ w.point_of e
    point_is = is.points o.index e here
