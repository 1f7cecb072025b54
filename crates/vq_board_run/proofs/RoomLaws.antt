-- One actor of a room goes to another place.
use Rattle.std.proofs.Common.{◌≡◌, ◌<◌, ◌==◌, ℕ, Bool, true, false, List, [], Some, None, All, length, set, refl, sym, ap, ◌∙◌, subst, arith, inl, inr, if◌then◌else◌}
use Rattle.std.specs.List.{slice_index_or}
use Rattle.std.proofs.lemmas.Bool.{cases_eq, cond-true, cond-false, eq-eqb, ne_eqb}
use Rattle.std.proofs.lemmas.List.{get_or-set_same, get_or-set_other, length-set, get_or_default}
use Rattle.vq_access.proofs.Cited.{elsewhere, there}
use Rattle.vq_actor.proofs.Cited.{deferred_within}
use Rattle.vq_model.specs.declared.script.ActorName.{ActorName}
use Rattle.vq_model.specs.declared.script.ActorName.TheVariants.{Host as HostActor, Submit as SubmitActor}
use Rattle.vq_model.specs.declared.script.ActorName.TheVariants.{Ring as RingActor}
use Rattle.vq_model.specs.Naming.{same_actor}
use Rattle.vq_model.specs.Plan.{Plan}
use Rattle.vq_model.proofs.Actors.{same_actor_is, same_actor_self}
use Rattle.vq_turns.specs.declared.outcome.Outcome.{Outcome}
use Rattle.vq_turns.specs.Programs.{program, is_deferred_queue}
use Rattle.vq_turns.specs.Turns.{Place}
use Rattle.vq_turn_laws.specs.TruePlaces.{with_place}
use Rattle.vq_actor.specs.Actors.{IsTurn}
use Rattle.vq_actor.specs.Meanings.{Other}
use Rattle.vq_actor.specs.Stages.{IsPlay}
use Rattle.vq_actor.specs.Trackers.{Tracked, FitsIn}
use Rattle.vq_board_laws.specs.declared.view.View.{View}
use Rattle.vq_access_laws.specs.AccessMeanings.{meaning_of}
use Rattle.vq_access_laws.specs.Causes.{Refusals}
use Rattle.vq_access_laws.specs.TruePasses.{AreTrue}
use Rattle.vq_access_laws.proofs.Cited.{true_alike}
use Rattle.vq_access.specs.Lasts.{IsFew}
use Rattle.vq_board_run.specs.Rooming.{AreFew, FitAll, HasQueues, IsRoom, IsRoomTurn, Room, served_queue, shown_by, staged}
use Rattle.vq_access.specs.Seatings.{Seating, no_seat, places_of, seat_of, served_at}
use Rattle.vq_access.specs.Served.{is_served}

-- Names

eqb_sym : (m n : ℕ) → (m == n) ≡ (n == m)
eqb_sym m n = elim (cases_eq m n) [
  | inl e ↦ eq-eqb m n e ∙ sym (eq-eqb n m (sym e))
  | inr d ↦ ne_eqb m n d ∙ sym (ne_eqb n m (λ e. d (sym e)))
]

same_sym : (a b : ActorName) → same_actor a b ≡ same_actor b a
same_sym HostActor HostActor = refl
same_sym HostActor (SubmitActor q) = refl
same_sym HostActor (RingActor q) = refl
same_sym (SubmitActor q) HostActor = refl
same_sym (SubmitActor q) (SubmitActor r) = eqb_sym q r
same_sym (SubmitActor q) (RingActor r) = refl
same_sym (RingActor q) HostActor = refl
same_sym (RingActor q) (SubmitActor r) = refl
same_sym (RingActor q) (RingActor r) = eqb_sym q r

-- who is served, and isn't the submit actor of a queue, is the owner itself
pub is_owner : (p : Plan) (a b : ActorName) → is_served p a b ≡ true → served_queue a b ≡ None → a ≡ b
is_owner p HostActor HostActor h n = refl
is_owner p HostActor (SubmitActor q) h n = absurd (cc)
is_owner p HostActor (RingActor q) h n = absurd (cc)
is_owner p (SubmitActor q) HostActor h n = absurd (cc)
is_owner p (SubmitActor q) (SubmitActor r) h n = same_actor_is (SubmitActor q) (SubmitActor r) h
is_owner p (SubmitActor q) (RingActor r) h n = absurd (cc)
is_owner p (RingActor q) HostActor h n = absurd (cc)
is_owner p (RingActor q) (SubmitActor r) h n = absurd (cc)
is_owner p (RingActor q) (RingActor r) h n = same_actor_is (RingActor q) (RingActor r) h

pub is_of_queue : (a b : ActorName) (q : ℕ) → served_queue a b ≡ Some q → (a ≡ HostActor) × (b ≡ SubmitActor q)
is_of_queue HostActor HostActor q e = absurd (cc)
is_of_queue HostActor (SubmitActor r) q e = (refl, cc)
is_of_queue HostActor (RingActor r) q e = absurd (cc)
is_of_queue (SubmitActor r) b q e = absurd (cc)
is_of_queue (RingActor r) b q e = absurd (cc)

-- Seats

own_seat : (owner c : ActorName) (s : Seating) (y : Tracked) → seat_of owner (record { own = y; submits = s.submits }) c
    ≡ (if same_actor c owner then y else seat_of owner s c)
own_seat owner c s y =
    by_test (same_actor owner c) refl (served_same c)
  where
    served_same : (d : ActorName) → served_at (record { own = y; submits = s.submits }) d ≡ served_at s d
    served_same HostActor = refl
    served_same (SubmitActor q) = refl
    served_same (RingActor q) = refl

    by_test : (t : Bool) → same_actor owner c ≡ t → served_at (record { own = y; submits = s.submits }) c ≡ served_at s c →
        seat_of owner (record { own = y; submits = s.submits }) c ≡ (if same_actor c owner then y else seat_of owner s c)
    by_test true e same =
        ap (λ (z : Bool). if z then y else served_at (record { own = y; submits = s.submits }) c) e
        ∙ sym (ap (λ (z : Bool). if z then y else seat_of owner s c) (same_sym c owner ∙ e))
    by_test false e same =
        ap (λ (z : Bool). if z then y else served_at (record { own = y; submits = s.submits }) c) e
        ∙ (same
        ∙ (sym (ap (λ (z : Bool). if z then s.own else served_at s c) e)
        ∙ sym (ap (λ (z : Bool). if z then y else seat_of owner s c) (same_sym c owner ∙ e))))

at_set : (xs : List Tracked) (q k : ℕ) (y : Tracked) → q < length xs →
    slice_index_or (set xs q y) k no_seat ≡ (if k == q then y else slice_index_or xs k no_seat)
at_set xs q k y within = elim (cases_eq k q) [
  | inl s ↦ ap (λ (n : ℕ). slice_index_or (set xs q y) n no_seat) s
      ∙ (get_or-set_same xs q y no_seat within
      ∙ sym (cond-true (k == q) y (slice_index_or xs k no_seat) (eq-eqb k q s)))
  | inr n ↦ get_or-set_other xs q k y no_seat n
      ∙ sym (cond-false (k == q) y (slice_index_or xs k no_seat) (ne_eqb k q n))
]

queue_seat : (q : ℕ) (s : Seating) (y : Tracked) → q < length s.submits → (c : ActorName) →
    seat_of HostActor (record { own = s.own; submits = set s.submits q y }) c
    ≡ (if same_actor c (SubmitActor q) then y else seat_of HostActor s c)
queue_seat q s y l HostActor = refl
queue_seat q s y l (SubmitActor r) = at_set s.submits q r y l
queue_seat q s y l (RingActor r) = refl

-- The room with another tracker at an actor's seat, and nothing else changed.
pub record IsMoved (owner b : ActorName) (s t : Seating) (x y : Tracked) : Type 0 where
  pub before : seat_of owner s b ≡ x
  pub after : (c : ActorName) → seat_of owner t c ≡ (if same_actor c b then y else seat_of owner s c)
  pub count : length t.submits ≡ length s.submits

pub own_moved : (p : Plan) (owner b : ActorName) (s : Seating) (y : Tracked) → is_served p owner b ≡ true →
    served_queue owner b ≡ None → IsMoved owner b s (record { own = y; submits = s.submits }) s.own y
own_moved p owner b s y served none =
    subst (λ (z : ActorName). IsMoved owner z s (record { own = y; submits = s.submits }) s.own y)
    (is_owner p owner b served none)
    (record {
      before = ap (λ (t : Bool). if t then s.own else served_at s owner) (same_actor_self owner);
      after = λ c. own_seat owner c s y;
      count = refl;
    })

pub queue_moved : (p : Plan) (owner b : ActorName) (s : Seating) (q : ℕ) (x y : Tracked) → is_served p owner b ≡ true →
    served_queue owner b ≡ Some q → HasQueues p owner s → x ≡ slice_index_or s.submits q x →
    IsMoved owner b s (record { own = s.own; submits = set s.submits q y }) x y
queue_moved p owner b s q x y served some queues is =
    let h = is_of_queue owner b q some in
    let whose : owner ≡ HostActor = h.0 in
    let who : b ≡ SubmitActor q = h.1 in
    let deferred : is_deferred_queue p q ≡ true =
    subst (λ (z : ActorName × ActorName). is_served p z.0 z.1 ≡ true) (λ i. (whose i, who i)) served in
    let count : length s.submits ≡ length p.script.queues = queues whose in
    let few = deferred_within p q deferred in
    let within : q < length s.submits = omega arith in
    subst (λ (z : ActorName × ActorName). IsMoved z.0 z.1 s (record { own = s.own; submits = set s.submits q y }) x y)
    (λ i. (sym whose i, sym who i))
    (record {
      before = get_or_default s.submits q no_seat x within ∙ sym is;
      after = queue_seat q s y within;
      count = length-set s.submits q y;
    })

-- Places

-- the place where an actor stands is no other place
stands : (f : ActorName → Place) (b : ActorName) (y : Place) → f b ≡ y → (c : ActorName) → with_place f b y c ≡ f c
stands f b y e c = by_test (same_actor c b) refl
  where
    by_test : (t : Bool) → same_actor c b ≡ t → (if t then y else f c) ≡ f c
    by_test true h = sym e ∙ ap f (sym (same_actor_is c b h))
    by_test false h = refl

-- a turn over a stage that kept the room is one of the room
pub room_turn : (p q : Plan) (r s : Room) (a : ActorName) (o : Outcome) → q ≡ p → a ≡ r.owner →
    IsPlay (staged p r) (staged q s) (shown_by s) a o → IsRoomTurn p r s o
room_turn p q r s a o same owner k =
    subst (λ (z : Plan × ActorName). IsPlay (staged p r) (staged z.0 s) (shown_by s) z.1 o) (λ i. (same i, owner i)) k

-- a turn from and to the same places
pub turn_alike : (p : Plan) (a : ActorName) (x y from to : Place) (v w : View) (r s : Refusals)
    (shows : Outcome → ℕ × ℕ → Type 0) (o : Outcome) → from ≡ x → to ≡ y →
    IsTurn (meaning_of [] p a x Other v r) (meaning_of [] p a y Other w s) shows o →
    IsTurn (meaning_of [] p a from Other v r) (meaning_of [] p a to Other w s) shows o
turn_alike p a x y from to v w r s shows o e f k =
    subst (λ (z : Place). IsTurn (meaning_of [] p a z Other v r) (meaning_of [] p a to Other w s) shows o) (sym e)
    (subst (λ (z : Place). IsTurn (meaning_of [] p a x Other v r) (meaning_of [] p a z Other w s) shows o) (sym f) k)

if_place : (t : Bool) (y z : Tracked) → (if t then y else z).place ≡ (if t then y.place else z.place)
if_place true y z = refl
if_place false y z = refl

module _ (p : Plan) (owner b : ActorName) (s t : Seating) (x y : Tracked) (k : IsMoved owner b s t x y) where
  moved : (c : ActorName) → places_of owner t c ≡ with_place (places_of owner s) b y.place c
  moved c = ap (λ (z : Tracked). z.place) (k.after c) ∙ if_place (same_actor c b) y (seat_of owner s c)

  pub place_here : places_of owner s b ≡ x.place
  place_here = ap (λ (z : Tracked). z.place) k.before

  pub place_there : places_of owner t b ≡ y.place
  place_there = moved b ∙ there (places_of owner s) b y.place

  pub others_stand : (c : ActorName) → (c ≡ b → ⊥) → places_of owner t c ≡ places_of owner s c
  others_stand c apart = moved c ∙ elsewhere (places_of owner s) b c y.place apart

  module _ (q : Plan) (e : q ≡ p) (v w : View) (room : IsRoom q owner v s) where
    pub true_before : AreTrue p owner v (with_place (places_of owner s) b x.place)
    true_before =
        true_alike p owner v (places_of owner s) (with_place (places_of owner s) b x.place)
        (λ c h. stands (places_of owner s) b x.place place_here c)
        (subst (λ (z : Plan). AreTrue z owner v (places_of owner s)) e room.places)

    pub fits_before : is_served p owner b ≡ true → FitsIn (program p b) x
    fits_before served =
        subst (FitsIn (program p b)) k.before (subst (λ (z : Plan). FitAll z owner s) e room.fits b served)

    pub few_before : is_served p owner b ≡ true → All IsFew (program p b)
    few_before served = subst (λ (z : Plan). AreFew z owner) e room.few b served

    fits_after : FitsIn (program p b) y → FitAll p owner t
    fits_after fits c served = subst (FitsIn (program p c)) (sym (k.after c)) (by_test (same_actor c b) refl)
      where
        by_test : (z : Bool) → same_actor c b ≡ z → FitsIn (program p c) (if z then y else seat_of owner s c)
        by_test true h = subst (λ (a : ActorName). FitsIn (program p a) y) (sym (same_actor_is c b h)) fits
        by_test false h = subst (λ (z : Plan). FitAll z owner s) e room.fits c served

    pub room_after : (r : Plan) → r ≡ p → AreTrue p owner w (with_place (places_of owner s) b y.place) →
        FitsIn (program p b) y → IsRoom r owner w t
    room_after r f truly fits =
        subst (λ (z : Plan). IsRoom z owner w t) (sym f)
        (record {
          places = true_alike p owner w (with_place (places_of owner s) b y.place) (places_of owner t) (λ c h. moved c) truly;
          fits = fits_after fits;
          few = subst (λ (z : Plan). AreFew z owner) e room.few;
          queues = λ whose. k.count ∙ (room.queues whose ∙ ap (λ (z : Plan). length z.script.queues) e);
        })
