-- The next job of a lane, and the next one to be released.
use Rattle.std.proofs.Common.{
  ◌≡◌,
  ℕ,
  suc,
  ◌+◌,
  Bool,
  true,
  false,
  List,
  [],
  filter,
  get_or,
  Option,
  Some,
  None,
  ◌<◌,
  length,
  refl,
  sym,
  ap,
  ◌∙◌,
  subst,
  arith,
}
use Rattle.std.specs.Prelude.{nat_lt, IfSome}
use Rattle.std.specs.List.{slice_get, list_all}
use Rattle.std.specs.Option.{option_map_or}
use Rattle.vq_model.specs.declared.script.ActorName.{ActorName}
use Rattle.vq_model.specs.declared.plan.Lane.{Lane}
use Rattle.vq_model.specs.declared.plan.Lane.TheVariants.{Host as HostLane, Queue as QueueLane}
use Rattle.vq_model.specs.declared.plan.PlanJob.{PlanJob}
use Rattle.vq_model.specs.Lanes.{lane_number}
use Rattle.vq_model.specs.Machine.{next}
use Rattle.vq_model.specs.Plan.{Plan}
use Rattle.vq_ground.specs.Lists.{has, AreRising}
use Rattle.vq_ground.proofs.Gets.{get_within}
use Rattle.vq_point_laws.specs.Points.{PointState, next_job, Reference, jobs_of_lane, earlier_in_queue}
use Rattle.vq_core_laws.proofs.Cited.{next_of, next_is, turn_first, first_turn, lane_rises, lane_has}
use Rattle.vq_tables.specs.declared.lanes.LaneState.{LaneState}
use Rattle.vq_tables.specs.Lanes.{AreLanes, IsLane, lane_named, no_lane}

module _ (p : Plan) (released finished : ℕ →
    Bool) (held : List Reference) (xs : List LaneState) (are : AreLanes p released finished held xs) (n : ℕ) where
  pub lane_next : slice_get (get_or xs n no_lane).jobs (get_or xs n no_lane).finished ≡ next finished (jobs_of_lane p
      (lane_named n))
  lane_next =
      let k = are.each n in
      sym (next_is finished (get_or xs n no_lane).jobs (get_or xs n no_lane).finished k.first_finished)
      ∙ ap (next finished) k.jobs

  pub lane_unreleased : slice_get (get_or xs n no_lane).jobs (get_or xs n no_lane).released ≡ next released
      (jobs_of_lane p (lane_named n))
  lane_unreleased =
      let k = are.each n in
      sym (next_is released (get_or xs n no_lane).jobs (get_or xs n no_lane).released k.first_released)
      ∙ ap (next released) k.jobs

-- the lane of a job, by its number
pub named : (l : Lane) → lane_named (lane_number l) ≡ l
named HostLane = refl
named (QueueLane q) = let e : q + 1 ≡ suc q = omega arith in ap lane_named e

module _ (p : Plan) (released finished : ℕ →
    Bool) (held : List Reference) (xs : List LaneState) (are : AreLanes p released finished held xs) (j : ℕ) (x :
    PlanJob) (at : slice_get p.jobs j ≡ Some x) where
  pub own : IsLane p released finished held x.lane (get_or xs (lane_number x.lane) no_lane)
  own = subst (λ (l : Lane). IsLane p released finished held l (get_or xs (lane_number x.lane) no_lane)) (named
      x.lane) (are.each (lane_number x.lane))

  rises : AreRising (get_or xs (lane_number x.lane) no_lane).jobs
  rises = subst AreRising (sym own.jobs) (lane_rises p x.lane)

  earlier_is : filter (λ i. nat_lt i j) (get_or xs (lane_number x.lane) no_lane).jobs ≡ earlier_in_queue p j
  earlier_is =
      ap (filter (λ i. nat_lt i j)) own.jobs
      ∙ sym (ap (λ o. option_map_or (λ (y : PlanJob). filter (λ i. nat_lt i j) (jobs_of_lane p y.lane)) o []) at)

  pub is_turn : slice_get (get_or xs (lane_number x.lane) no_lane).jobs (get_or xs (lane_number x.lane)
      no_lane).released ≡ Some j → (released j ≡ false) × (list_all released (earlier_in_queue p j) ≡ true)
  is_turn h =
      let r = turn_first released (get_or xs (lane_number x.lane) no_lane).jobs (get_or xs (lane_number x.lane)
      no_lane).released own.first_released rises j h in
      (r.0, ap (list_all released) (sym earlier_is) ∙ r.1)

  pub has_turn : released j ≡ false → list_all released (earlier_in_queue p j) ≡ true →
      slice_get (get_or xs (lane_number x.lane) no_lane).jobs (get_or xs (lane_number x.lane) no_lane).released ≡ Some j
  has_turn idle all =
      first_turn released (get_or xs (lane_number x.lane) no_lane).jobs (get_or xs (lane_number x.lane)
      no_lane).released own.first_released rises j
      (subst (λ js. has js j ≡ true) (sym own.jobs) (lane_has p j x (get_within p.jobs j x at) at)) idle (ap
      (list_all released) earlier_is ∙ all)

pub next_exists : (p : Plan) (w : PointState) (a : ActorName) (o : Option ℕ) → o ≡ next_job p w a →
    IfSome o (λ (j : ℕ). j < length p.jobs)
next_exists p w a None e = tt
next_exists p w a (Some j) e = (next_of p w a j (sym e)).of_lane.exists
