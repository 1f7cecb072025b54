-- Facts that the events' proofs share.
use Rattle.std.proofs.Common.{◌≡◌, ℕ, ◌+◌, ◌<◌, ◌≤◌, Bool, true, false, List, length, get_or, Option, Some, None, is_some, refl, sym, ap, ◌∙◌, inl, inr, subst, arith}
use Rattle.std.specs.Prelude.{count_by, Result, Ok, Err, IsOk, IsErr, OnOk, IsSome}
use Rattle.std.specs.List.{slice_get, range_with_len}
use Rattle.std.proofs.lemmas.Bool.{cases_lt, false≢true}
use Rattle.std.proofs.lemmas.List.{get_or_read}
use Rattle.std.proofs.lemmas.List.FromFn.{length-range_with_len}
use Rattle.std.proofs.lemmas.List.Sums.{count_by-le-length}
use Rattle.vq_model.specs.declared.plan.PlanJob.{PlanJob}
use Rattle.vq_model.specs.Lanes.{lane_number}
use Rattle.vq_model.specs.Plan.{Plan, chain, chain_of}
use Rattle.vq_ground.specs.Lists.{has, AreRising}
use Rattle.vq_ground.proofs.Lists.{has_here}
use Rattle.vq_point_laws.specs.Points.{PointState, Reference, CanSubmit, CanTake, after_event}
use Rattle.vq_model.specs.declared.plan.Event.TheVariants.{Signal}
use Rattle.vq_model.specs.Machine.{with_signal}
use Rattle.vq_model.proofs.Plans.{batch_exists}
use Rattle.vq_ground.proofs.Gets.{first_is}
use Rattle.vq_point_laws.specs.Timeline.{Timeline, KeepsLists}
use Rattle.vq_core_laws.specs.TimelineOf.{IsTimelineOf}
use Rattle.vq_history_laws.specs.Histories.{points_after}
use Rattle.vq_core_laws.proofs.Cited.{count_below, free_below, lane_rises, rising_at_least}
use Rattle.vq_tables.specs.declared.lanes.LaneState.{LaneState}
use Rattle.vq_core.specs.declared.state.Core.TheInside.{Inside}
use Rattle.vq_core.specs.Kept.{IsCore, Tells}
use Rattle.vq_tables.specs.Lanes.{AreLanes, no_lane}
use Rattle.vq_tables.specs.Tables.{no_timeline, batches_before}
use Rattle.vq_tables.proofs.Cited.{own}
use Rattle.vq_core.proofs.SubmitLaws.{next_batch, submit_batches}
use Rattle.vq_core.proofs.Pushes.{inside_facts, inside_keeps}

-- a job's place in its lane is small
pub small_place : (p : Plan) (released finished : ℕ → Bool) (held : List Reference) (xs : List LaneState) →
    AreLanes p released finished held xs → (j : ℕ) (x : PlanJob) → slice_get p.jobs j ≡ Some x → (n : ℕ) →
    slice_get (get_or xs (lane_number x.lane) no_lane).jobs n ≡ Some j → j < 4294967296 → n + 1 < 18446744073709551616
small_place p released finished held xs are j x at n here l =
    let k = own p released finished held xs are j x at in
    let r = rising_at_least (get_or xs (lane_number x.lane) no_lane).jobs (subst AreRising (sym k.jobs) (lane_rises p
    x.lane)) n j here in
    omega arith

pub timeline_read : (xs : List Timeline) (t : ℕ) (l : Timeline) → t < length xs → l ≡ get_or xs t l →
    l ≡ get_or xs t no_timeline
timeline_read xs t l b e = get_or_read xs t l b e no_timeline

module _ (a : Inside) (k : IsCore a) where
  w : PointState
  w = points_after a.ordered a.history.items

  -- the batch that is submitted is the first that wasn't
  pub submit_turn : (j : ℕ) → CanSubmit a.ordered (points_after a.ordered a.history.items) j →
      batches_before a.ordered j ≡ a.submitted
  submit_turn j g =
      next_batch a.ordered (points_after a.ordered a.history.items) a.submitted k.tells.submitted j g.batch g.waiting
      (submit_batches a.ordered (points_after a.ordered a.history.items) j g) (batch_exists a.ordered j g.batch)

  -- no more points are made than there are operations, and fewer while one has none
  pub points_few : (points_after a.ordered a.history.items).points ≤ length a.ordered.ops
  points_few =
      let few = (inside_keeps a k).points.few in
      let most = count_by-le-length (λ e. is_some ((points_after a.ordered a.history.items).point_of e))
      (range_with_len 0 (length a.ordered.ops)) in
      let size = length-range_with_len 0 (length a.ordered.ops) in
      omega arith

  pub points_room : (e : ℕ) → (points_after a.ordered a.history.items).point_of e ≡ None →
      e < length a.ordered.ops → (points_after a.ordered a.history.items).points < length a.ordered.ops
  points_room e none l =
      let few = (inside_keeps a k).points.few in
      let most = count_below (λ e. is_some ((points_after a.ordered a.history.items).point_of e)) e (length
      a.ordered.ops) l (ap is_some none) in
      omega arith

  pub free_point_below : (e q : ℕ) → CanTake a.ordered (points_after a.ordered a.history.items) e q false →
      q < (points_after a.ordered a.history.items).points
  free_point_below e q g =
      let first = first_is ((points_after a.ordered a.history.items).free g.chain) q g.point in
      free_below a.ordered (inside_facts a k) (points_after a.ordered a.history.items) (inside_keeps a k) g.chain q
      (ap (λ zs. has zs q) first.1 ∙ has_here q first.0)

-- a result that isn't an error
pub is_ok : {A E : Type 0} (r : Result A E) → (IsErr r → ⊥) → IsOk r
is_ok (Ok x) n = refl
is_ok (Err x) n = absurd (n refl)

pub on_ok : {A E : Type 0} {Q : Type 0} (r : Result A E) → IsOk r → OnOk r Q → Q
on_ok (Ok x) o q = q
on_ok (Err x) o q = absurd (false≢true o)

-- a need's note is small
pub count_few : {A : Type 0} (test : A → Bool) (xs : List A) → count_by test xs ≤ length xs
count_few test xs = count_by-le-length test xs

-- a signal, in the chain of its operation
pub signal_tells : (p : Plan) (w : PointState) (b : Inside) (e t : ℕ) → chain_of p e ≡ Some t →
    Tells p (record w { machine = record w.machine { progress = with_signal p w.machine.progress e (Some t) } }) b →
    Tells p (after_event p w (Signal e)) b
signal_tells p w b e t of h =
    subst (λ (o : Option ℕ). Tells p (record w {
      machine = record w.machine {
        progress = with_signal p
            w.machine.progress e o;
      };
    }) b) (sym of) h

-- a bound operation has a point
pub bound_point : (p : Plan) (w : PointState) (t i e : ℕ) (l : Timeline) → IsTimelineOf p w t l → KeepsLists l →
    slice_get (chain p t) i ≡ Some e → w.bound e ≡ true → (q : ℕ) × (w.point_of e ≡ Some q)
bound_point p w t i e l is kept here b = by_point (w.point_of e) refl
  where
    by_point : (o : Option ℕ) → w.point_of e ≡ o → (q : ℕ) × (w.point_of e ≡ Some q)
    by_point None h = elim (cases_lt i l.bound) [
      | inl m ↦ absurd (kept.had i m (is.points i e here ∙ h))
      | inr m ↦ absurd (false≢true (sym (is.bound.after i e here m) ∙ b))
    ]
    by_point (Some q) h = (q, h)

pub some_of_option : (o : Option ℕ) (q : ℕ) → o ≡ Some q → IsSome o
some_of_option o q e = subst (λ (x : Option ℕ). IsSome x) (sym e) refl
