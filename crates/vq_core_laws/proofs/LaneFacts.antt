-- Lanes, their actors, and the next job of each.
use Rattle.std.proofs.Common.{
  ◌≡◌,
  ℕ,
  ◌<◌,
  Bool,
  true,
  false,
  not,
  List,
  [],
  ◌∷◌,
  length,
  Option,
  Some,
  None,
  refl,
  sym,
  ap,
  ◌∙◌,
  inl,
  inr,
  arith,
}
use Rattle.std.specs.List.{slice_get, range_with_len}
use Rattle.std.specs.Option.{option_map_or}
use Rattle.std.proofs.lemmas.Bool.{cond-true, cond-false, false≢true, eq-eqb, eqb-true, cases_eq}
use Rattle.vq_model.specs.declared.script.ActorName.{ActorName}
use Rattle.vq_model.specs.declared.script.ActorName.TheVariants.{
  Host as HostActor,
  Submit as SubmitActor,
  Ring as
      RingActor,
}
use Rattle.vq_model.specs.declared.plan.Lane.{Lane}
use Rattle.vq_model.specs.declared.plan.Lane.TheVariants.{Host as HostLane, Queue as QueueLane}
use Rattle.vq_model.specs.declared.plan.PlanJob.{PlanJob}
use Rattle.vq_model.specs.Plan.{Plan, of_job, same_lane}
use Rattle.vq_ground.specs.Lists.{has, AreRising}
use Rattle.vq_model.specs.Machine.{next, put}
use Rattle.vq_model.specs.Lanes.{lane_number, lane_at}
use Rattle.vq_ground.proofs.Filters.{filter-has_cases, filter-has, rising_filter}
use Rattle.vq_ground.proofs.Numbers.{rising_range, has-range_cases, range-has}
use Rattle.vq_model.proofs.Puts.{put_here, put_there}
use Rattle.vq_ground.proofs.Searches.{find_member}
use Rattle.vq_model.specs.Naming.{same_actor}
use Rattle.vq_model.proofs.Actors.{same_lane_is}
use Rattle.vq_point_laws.specs.Points.{PointState, jobs_of_lane, lane_of_actor, next_job, actor_of_lane}
use Rattle.vq_core_laws.specs.Firsts.{StandOnce}
use Rattle.vq_core_laws.proofs.Firsts.{rising_once}

pub lane_rises : (p : Plan) (lane : Lane) → AreRising (jobs_of_lane p lane)
lane_rises p lane = rising_filter (λ j. of_job (λ x. same_lane lane x.lane) false p j) (range_with_len 0 (length
    p.jobs)) (rising_range (length p.jobs) 0)

pub lane_once : (p : Plan) (lane : Lane) → StandOnce (jobs_of_lane p lane)
lane_once p lane = rising_once (jobs_of_lane p lane) (lane_rises p lane)

pub same_lane_self : (l : Lane) → same_lane l l ≡ true
same_lane_self HostLane = refl
same_lane_self (QueueLane q) = eq-eqb q q refl

-- a job of a lane
pub record InLane (p : Plan) (lane : Lane) (j : ℕ) : Type 0 where
  pub exists : j < length p.jobs
  pub job : PlanJob
  pub at : slice_get p.jobs j ≡ Some job
  pub lane_is : job.lane ≡ lane

pub in_lane : (p : Plan) (lane : Lane) (j : ℕ) → has (jobs_of_lane p lane) j ≡ true → InLane p lane j
in_lane p lane j m =
    let c = filter-has_cases (λ j. of_job (λ x. same_lane lane x.lane) false p j) (range_with_len 0 (length p.jobs))
    j m in
    let r = has-range_cases (length p.jobs) 0 j c.0 in
    let l = r.1 in
    by_job (slice_get p.jobs j) refl c.1 (omega arith)
  where
    by_job : (o : Option PlanJob) → slice_get p.jobs j ≡ o →
        option_map_or (λ x. same_lane lane x.lane) o false ≡ true → j < length p.jobs → InLane p lane j
    by_job None is h l = absurd (false≢true h)
    by_job (Some x) is h l = record { exists = l; job = x; at = is; lane_is = sym (same_lane_is lane x.lane h) }

pub lane_has : (p : Plan) (j : ℕ) (x : PlanJob) → j < length p.jobs → slice_get p.jobs j ≡ Some x →
    has (jobs_of_lane p x.lane) j ≡ true
lane_has p j x l e =
    filter-has (λ j. of_job (λ y. same_lane x.lane y.lane) false p j) (range_with_len 0 (length p.jobs)) j (range-has
    (length p.jobs) 0 j (omega arith) (omega arith))
    (ap (λ o. option_map_or (λ y. same_lane x.lane y.lane) o false) e ∙ same_lane_self x.lane)

pub lane_at_is : (p : Plan) (lane : Lane) (j : ℕ) → InLane p lane j → lane_at p j ≡ lane_number lane
lane_at_is p lane j k = ap (λ o. option_map_or (λ x. lane_number x.lane) o 0) k.at ∙ ap lane_number k.lane_is

-- the next job of an actor is of its lane
pub record IsNextOf (p : Plan) (w : PointState) (a : ActorName) (j : ℕ) : Type 0 where
  pub lane : Lane
  pub of_actor : lane_of_actor a ≡ Some lane
  pub actor_is : actor_of_lane lane ≡ a
  pub is_next : next w.machine.progress.finished (jobs_of_lane p lane) ≡ Some j
  pub of_lane : InLane p lane j

pub next_of : (p : Plan) (w : PointState) (a : ActorName) (j : ℕ) → next_job p w a ≡ Some j → IsNextOf p w a j
next_of p w HostActor j h =
    record {
      lane = HostLane;
      of_actor = refl;
      actor_is = refl;
      is_next = h;
      of_lane = in_lane p HostLane j
          (find_member (λ x. not (w.machine.progress.finished x)) (jobs_of_lane p HostLane) j h);
    }
next_of p w (RingActor q) j h =
    record {
      lane = QueueLane q;
      of_actor = refl;
      actor_is = refl;
      is_next = h;
      of_lane = in_lane p (QueueLane q) j
          (find_member (λ x. not (w.machine.progress.finished x)) (jobs_of_lane p (QueueLane q)) j h);
    }
next_of p w (SubmitActor q) j h = absurd (let z : None ≡ Some j = h in cc)

-- the next one stays where another one is done
pub next_put : (done : ℕ → Bool) (xs : List ℕ) (i j : ℕ) → next done xs ≡ Some i → (i ≡ j → ⊥) →
    next (put done j true) xs ≡ Some i
next_put done [] i j h n = absurd (let z = h in cc)
next_put done (x ∷ xs) i j h n = by_test (done x) refl (next_put done xs i j)
  where
    by_test : (b : Bool) → done x ≡ b → (next done xs ≡ Some i → (i ≡ j → ⊥) →
        next (put done j true) xs ≡ Some i) → next (put done j true) (x ∷ xs) ≡ Some i
    by_test true e f =
        let h' : next done xs ≡ Some i = sym (cond-false (not (done x)) (Some x) (next done xs) (ap not e)) ∙ h in
        let still : put done j true x ≡ true = elim (cases_eq x j) [
          | inl s ↦ ap (put done j true) s ∙ put_here done j true
          | inr d ↦ put_there done j true x d ∙ e
        ] in
        cond-false (not (put done j true x)) (Some x) (next (put done j true) xs) (ap not still) ∙ f h' n
    by_test false e f =
        let h' : Some x ≡ Some i = sym (cond-true (not (done x)) (Some x) (next done xs) (ap not e)) ∙ h in
        let s : x ≡ i = cc in
        let still : put done j true x ≡ false = put_there done j true x (λ z. n (sym s ∙ z)) ∙ e in
        cond-true (not (put done j true x)) (Some x) (next (put done j true) xs) (ap not still) ∙ h'

-- where all are done, they stay so
pub next_none : (done : ℕ → Bool) (xs : List ℕ) (j : ℕ) → next done xs ≡ None → next (put done j true) xs ≡ None
next_none done [] j h = refl
next_none done (x ∷ xs) j h = by_test (done x) refl (next_none done xs j)
  where
    by_test : (b : Bool) → done x ≡ b → (next done xs ≡ None → next (put done j true) xs ≡ None) →
        next (put done j true) (x ∷ xs) ≡ None
    by_test true e f =
        let h' : next done xs ≡ None = sym (cond-false (not (done x)) (Some x) (next done xs) (ap not e)) ∙ h in
        let still : put done j true x ≡ true = elim (cases_eq x j) [
          | inl s ↦ ap (put done j true) s ∙ put_here done j true
          | inr d ↦ put_there done j true x d ∙ e
        ] in
        cond-false (not (put done j true x)) (Some x) (next (put done j true) xs) (ap not still) ∙ f h'
    by_test false e f = absurd (let z = sym (cond-true (not (done x)) (Some x) (next done xs) (ap not e)) ∙ h in cc)
