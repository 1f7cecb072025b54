-- A turn of one actor leaves the places of all true; turns over a core, as those of a stage.
use Rattle.std.proofs.Common.{◌≡◌, ℕ, ◌<◌, ◌==◌, false, if◌then◌else◌, List, ◌++◌, length, set, filter}
use Rattle.std.proofs.Common.{refl, sym, subst, ap, ◌∙◌, inl, inr, arith, append-nil}
use Rattle.std.specs.List.{slice_index_or}
use Rattle.std.proofs.lemmas.Bool.{cases_eq, cond-true, cond-false, eq-eqb, ne_eqb}
use Rattle.std.proofs.lemmas.List.{get_or-set_same, get_or-set_other, length-set, get_or_default}
use Rattle.vq_model.specs.declared.script.ActorName.{ActorName}
use Rattle.vq_model.specs.declared.script.ActorName.TheVariants.{Host as HostActor, Submit as SubmitActor}
use Rattle.vq_model.specs.declared.script.ActorName.TheVariants.{Ring as RingActor}
use Rattle.vq_model.specs.ValidScripts.{is_immediate_queue}
use Rattle.vq_model.specs.Plan.{Plan}
use Rattle.vq_point_laws.specs.Points.{PointState}
use Rattle.vq_turns.specs.declared.outcome.Want.{Want}
use Rattle.vq_turns.specs.declared.outcome.Outcome.{Outcome}
use Rattle.vq_turns.specs.declared.outcome.Outcome.TheVariants.{Moved, Blocked, Ended}
use Rattle.vq_turns.specs.Programs.{program}
use Rattle.vq_turns.specs.Turns.{Place, Turned, turn_of, world_after}
use Rattle.vq_turns.specs.Wants.{IsNotSo}
use Rattle.vq_turn_laws.specs.PlanParts.{HasOwnProgram}
use Rattle.vq_turn_laws.specs.TruePlaces.{AreTrueFor, with_place}
use Rattle.vq_turn_laws.proofs.Cited.{all_true, plan_orderly, reached}
use Rattle.vq_actor.specs.Actors.{events_by}
use Rattle.vq_actor.specs.Stages.{IsPlay, scene_over}
use Rattle.vq_actor.specs.Trackers.{Tracked, FitsIn}
use Rattle.vq_core.specs.CoreState.{Course, IsCourse, world}
use Rattle.vq_core_run.specs.CoreAccesses.{shown_by, with_event}
use Rattle.vq_core_run.specs.Seats.{HasSeat, HoldsForNeeds, IsSeated}
use Rattle.vq_core_run.specs.Casts.{AreSeated, Cast, Plays, TookTurn, course_after, each_event}
use Rattle.vq_core_run.specs.Casts.{no_seat, places, places_of, seat_at, staged_of}
use Rattle.vq_core_run.proofs.Serving as serving

-- Outcomes

-- an outcome leaves the plan, and of the world what its event leaves
pub plan_kept : (c : Course) (o : Outcome) → (course_after c o).plan ≡ c.plan
plan_kept c (Moved event) = refl
plan_kept c (Blocked want) = refl
plan_kept c Ended = refl

pub world_kept : (c : Course) (o : Outcome) → world (course_after c o) ≡ world_after c.plan (world c) o
world_kept c (Moved event) = serving.world_after c (with_event c event) event refl
world_kept c (Blocked want) = refl
world_kept c Ended = refl

-- A seat of an actor keeps its room in a core of the same plan.
pub seat_kept : (c d : Course) (o : Outcome) (a : ActorName) (x : Tracked) → d ≡ course_after c o → HasSeat c a x →
    HasSeat d a x
seat_kept c d o a x e h =
    let same : c.plan ≡ d.plan = sym (ap (λ (z : Course). z.plan) e ∙ plan_kept c o) in
    record {
      fits = subst (λ (p : Plan). FitsIn (program p a) x) same h.fits;
      for_needs = subst (λ (p : Plan). HoldsForNeeds (program p a) x.place) same h.for_needs;
    }

pub seat_of : (d : Course) (a : ActorName) (x : Tracked) → IsSeated d a x → HasSeat d a x
seat_of d a x s = record { fits = s.fits; for_needs = s.for_needs }

-- The places after a turn are true.
module _ (c d : Course) (i : IsCourse c) (places : ActorName →
    Place) (all : AreTrueFor c.plan (world c) places) (a : ActorName) (first : HasOwnProgram c.plan a) (o : Outcome) (y :
    Place) where
  pub true_after : record { outcome = o; place = y } ≡ turn_of c.plan (world c) a (places a) →
      d ≡ course_after c o → AreTrueFor d.plan (world d) (with_place places a y)
  true_after turned e =
      let ord = plan_orderly c.plan i.read i.lawful in
      let same : c.plan ≡ d.plan = sym (ap (λ (z : Course). z.plan) e ∙ plan_kept c o) in
      let there : world_after c.plan (world c) o ≡ world d = sym (ap world e ∙ world_kept c o) in
      let truly = all_true c.plan ord (world c) (reached c.plan ord c.history i.history_from) places all a first in
      subst (λ (p : Plan). AreTrueFor p (world d) (with_place places a y)) same
      (subst (λ (w : PointState). AreTrueFor c.plan w (with_place places a y)) there
      (subst (λ (t : Turned). AreTrueFor c.plan (world_after c.plan (world c) t.outcome) (with_place places a
      t.place)) (sym turned) truly))

pub same_places : (f g : ActorName → Place) → ((a : ActorName) → f a ≡ g a) → f ≡ g
same_places f g h = λ i a. h a i

-- A turn of one actor

module _ (c : Course) (i : IsCourse c) (host : Tracked) (submits rings : List Tracked)
    (t : AreSeated c host submits rings) where
  module _ (d : Course) (o : Outcome) where
    -- one of a list of seats, after the actor of another one of them took a turn
    at_set : (xs : List Tracked) (q k : ℕ) (y : Tracked) → q < length xs →
        (seat_at (set xs q y) k).place ≡ (if k == q then y.place else (seat_at xs k).place)
    at_set xs q k y within = elim (cases_eq k q) [
      | inl s ↦ ap (λ (n : ℕ). (seat_at (set xs q y) n).place) s
          ∙ (ap (λ (a : Tracked). a.place) (get_or-set_same xs q y no_seat within)
          ∙ sym (cond-true (k == q) y.place (seat_at xs k).place (eq-eqb k q s)))
      | inr n ↦ ap (λ (a : Tracked). a.place) (get_or-set_other xs q k y no_seat n)
          ∙ sym (cond-false (k == q) y.place (seat_at xs k).place (ne_eqb k q n))
    ]

    count_kept : d ≡ course_after c o → (n : ℕ) → n ≡ length c.plan.script.queues → n ≡ length d.plan.script.queues
    count_kept e n h = h ∙ ap (λ (p : Plan). length p.script.queues) (sym (ap (λ (z : Course). z.plan) e
        ∙ plan_kept c o))

    -- the seats of a list, after one of them was changed
    seats_set : (f : ℕ → ActorName) (xs : List Tracked) (q : ℕ) (y : Tracked) → q < length xs → HasSeat d (f q) y →
        ((k : ℕ) → k < length xs → HasSeat d (f k) (seat_at xs k)) → (k : ℕ) → k < length (set xs q y) →
        HasSeat d (f k) (seat_at (set xs q y) k)
    seats_set f xs q y within own others k w = elim (cases_eq k q) [
      | inl s ↦
          subst (λ (n : ℕ). HasSeat d (f n) (seat_at (set xs q y) n)) (sym s)
          (subst (HasSeat d (f q)) (sym (get_or-set_same xs q y no_seat within)) own)
      | inr n ↦ subst (HasSeat d (f k)) (sym (get_or-set_other xs q k y no_seat n)) (others k (let z =
          length-set xs q y in omega arith))
    ]

    -- The host

    host_moved : (y : Tracked) → places_of y submits rings ≡ with_place (places_of host submits rings) HostActor y.place
    host_moved y = same_places (places_of y submits rings) (with_place (places_of host submits rings) HostActor
        y.place) by_actor
      where
        by_actor : (a : ActorName) → places_of y submits rings a ≡ with_place (places_of host submits rings)
            HostActor y.place a
        by_actor HostActor = refl
        by_actor (SubmitActor q) = refl
        by_actor (RingActor q) = refl

    pub host_stays : (y : Tracked) → TookTurn c d HostActor host y o → AreSeated d y submits rings
    host_stays y k =
        record {
          host_seat = seat_of d HostActor y k.seated;
          submit_count = count_kept k.course (length submits) t.submit_count;
          submit_seats = λ q w. seat_kept c d o (SubmitActor q) (seat_at submits q) k.course (t.submit_seats q w);
          ring_count = count_kept k.course (length rings) t.ring_count;
          ring_seats = λ q w. seat_kept c d o (RingActor q) (seat_at rings q) k.course (t.ring_seats q w);
          stands = subst (AreTrueFor d.plan (world d)) (sym (host_moved y)) (true_after c d i (places_of host
              submits rings) t.stands HostActor tt o y.place k.turned k.course);
        }

    -- Submit actors

    module _ (q : ℕ) (y : Tracked) where
      submit_moved : q < length submits → places_of host (set submits q y) rings ≡ with_place (places_of host submits
          rings) (SubmitActor q) y.place
      submit_moved within = same_places (places_of host (set submits q y) rings) (with_place (places_of host
          submits rings) (SubmitActor q) y.place) by_actor
        where
          by_actor : (a : ActorName) → places_of host (set submits q y) rings a ≡ with_place (places_of host submits
              rings) (SubmitActor q) y.place a
          by_actor HostActor = refl
          by_actor (SubmitActor k) = at_set submits q k y within
          by_actor (RingActor k) = refl

      pub submit_stays : q < length submits → is_immediate_queue c.plan.script q ≡ false →
          TookTurn c d (SubmitActor q) (seat_at submits q) y o → AreSeated d host (set submits q y) rings
      submit_stays within apart k =
          record {
            host_seat = seat_kept c d o HostActor host k.course t.host_seat;
            submit_count = length-set submits q y ∙ count_kept k.course (length submits) t.submit_count;
            submit_seats = seats_set SubmitActor submits q y within (seat_of d (SubmitActor q) y k.seated) (λ j w.
                seat_kept c d o (SubmitActor j) (seat_at submits j) k.course (t.submit_seats j w));
            ring_count = count_kept k.course (length rings) t.ring_count;
            ring_seats = λ j w. seat_kept c d o (RingActor j) (seat_at rings j) k.course (t.ring_seats j w);
            stands = subst (AreTrueFor d.plan (world d)) (sym (submit_moved within)) (true_after c d i (places_of
                host submits rings) t.stands (SubmitActor q) apart o y.place k.turned k.course);
          }

    -- Rings

    module _ (q : ℕ) (y : Tracked) where
      ring_moved : q < length rings → places_of host submits (set rings q y) ≡ with_place (places_of host submits
          rings) (RingActor q) y.place
      ring_moved within = same_places (places_of host submits (set rings q y)) (with_place (places_of host submits
          rings) (RingActor q) y.place) by_actor
        where
          by_actor : (a : ActorName) → places_of host submits (set rings q y) a ≡ with_place (places_of host submits
              rings) (RingActor q) y.place a
          by_actor HostActor = refl
          by_actor (SubmitActor k) = refl
          by_actor (RingActor k) = at_set rings q k y within

      pub ring_stays : q < length rings → TookTurn c d (RingActor q) (seat_at rings q) y o →
          AreSeated d host submits (set rings q y)
      ring_stays within k =
          record {
            host_seat = seat_kept c d o HostActor host k.course t.host_seat;
            submit_count = count_kept k.course (length submits) t.submit_count;
            submit_seats = λ j w. seat_kept c d o (SubmitActor j) (seat_at submits j) k.course (t.submit_seats j w);
            ring_count = length-set rings q y ∙ count_kept k.course (length rings) t.ring_count;
            ring_seats = seats_set RingActor rings q y within (seat_of d (RingActor q) y k.seated) (λ j w. seat_kept
                c d o (RingActor j) (seat_at rings j) k.course (t.ring_seats j w));
            stands = subst (AreTrueFor d.plan (world d)) (sym (ring_moved within)) (true_after c d i (places_of host
                submits rings) t.stands (RingActor q) tt o y.place k.turned k.course);
          }

-- a seat of a list, whatever stands for those that aren't there
pub at_any : (xs : List Tracked) (q : ℕ) (x : Tracked) → x ≡ slice_index_or xs q x → q < length xs → seat_at xs q ≡ x
at_any xs q x is within = get_or_default xs q no_seat x within ∙ sym is

pub within_queues : (q m n : ℕ) → q < n → m ≡ n → q < m
within_queues q m n w e = omega arith

-- A stage of turns

is_after : (o : Outcome) (c : Course) → (course_after c o).history ≡ c.history ++ filter each_event (events_by o)
is_after (Moved event) c = refl
is_after (Blocked want) c = sym (append-nil c.history)
is_after Ended c = sym (append-nil c.history)

-- The turn of an actor, and of those that it serves, over a core.
module _ (old new : Cast) (a : ActorName) (o : Outcome)
    (k : IsPlay (staged_of old) (staged_of new) (shown_by new.course) a o) where
  course_so : (r : Outcome) → (new.course.history ≡ old.course.history ++ filter each_event (events_by r)) →
      new.course ≡ course_after old.course r
  course_so r e = λ i. record { plan = (k.plan ∙ sym (plan_kept old.course r)) i; history = (e ∙ sym (is_after r old.course)) i }

  pub whole_play : Plays old new a o
  whole_play =
      let course = course_so o k.events in
      let there = ap world course ∙ world_kept old.course o in
      record {
        played =
            ap (λ (p : Plan). (o, scene_over p (world new.course) (places new))) k.plan
            ∙ (ap (λ (w : PointState). (o, scene_over old.course.plan w (places new))) there
            ∙ (k.named (world old.course) refl).0);
        course = course;
      }

  pub whole_blocked : (want : Want) → o ≡ Blocked want → IsNotSo (world old.course) want
  whole_blocked want e =
      subst (λ (c : Course). IsNotSo (world c) want) (course_so o k.events ∙ ap (course_after old.course) e)
      (k.shown want e (0, 0) (omega arith, omega arith))
