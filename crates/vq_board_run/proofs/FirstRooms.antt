-- Rooms before their first turns.
use Rattle.std.proofs.Common.{◌≡◌, ℕ, ◌+◌, ◌<◌, ◌⊎◌, ◌++◌, ◌∷◌, inl, inr, List, [], length, get_or, refl, sym, subst, true, Bool, false, if◌then◌else◌}
use Rattle.std.proofs.Common.{ap, ◌∙◌, arith, length-append, zero, suc}
use Rattle.std.proofs.lemmas.Bool.{cases_eq}
use Rattle.std.proofs.lemmas.List.{get_or_default}
use Rattle.std.specs.List.{slice_index_or}
use Rattle.vq_actor.proofs.Cited.{deferred_within}
use Rattle.vq_model.specs.declared.script.ActorName.{ActorName}
use Rattle.vq_model.specs.declared.script.ActorName.TheVariants.{Host as HostActor, Submit as SubmitActor}
use Rattle.vq_model.specs.declared.script.ActorName.TheVariants.{Ring as RingActor}
use Rattle.vq_model.specs.Naming.{same_actor}
use Rattle.vq_model.specs.Plan.{Plan}
use Rattle.vq_model.proofs.Actors.{same_actor_is, same_actor_self}
use Rattle.vq_turns.specs.Programs.{is_deferred_queue}
use Rattle.vq_turns.specs.Turns.{first_place}
use Rattle.vq_actor.specs.Actors.{Acting}
use Rattle.vq_actor.specs.Companies.{IsCompanyOf, Members, member_at, no_member}
use Rattle.vq_actor.specs.Stages.{Serves}
use Rattle.vq_actor.specs.Trackers.{Tracked, FitsIn}
use Rattle.vq_board_laws.specs.declared.view.View.{View}
use Rattle.vq_access_laws.specs.TruePasses.{AreTrue}
use Rattle.vq_access_laws.proofs.Cited.{fresh_true}
use Rattle.vq_board_run.specs.Rooming.{AreFirst, IsFirstOf, IsFirstSeating, IsIdle}
use Rattle.vq_access.specs.Seatings.{Seating, no_seat, places_of, seat_of, served_at}
use Rattle.vq_access.specs.Served.{is_served}

-- One seat more

pub first_none : (actors : List Acting) → AreFirst actors 0 []
first_none actors =
    record { count = refl; places = λ q l. absurd (omega arith); fits = λ q l. absurd (omega arith) }

at_front : (xs : List Tracked) (x : Tracked) (q : ℕ) → q < length xs →
    slice_index_or (xs ++ x ∷ []) q no_seat ≡ slice_index_or xs q no_seat
at_front [] x q l = absurd (omega arith)
at_front (y ∷ xs) x zero l = refl
at_front (y ∷ xs) x (suc q) l = at_front xs x q (omega arith)

at_last : (xs : List Tracked) (x : Tracked) → slice_index_or (xs ++ x ∷ []) (length xs) no_seat ≡ x
at_last [] x = refl
at_last (y ∷ xs) x = at_last xs x

pub first_more : (actors : List Acting) (n : ℕ) (xs : List Tracked) (a : Acting) (x : Tracked) →
    AreFirst actors n xs → n < length actors → a ≡ get_or actors n a → x.place ≡ first_place → FitsIn a.tasks x →
    AreFirst actors (n + 1) (xs ++ x ∷ [])
first_more actors n xs a x h within is place fits =
    let count = h.count in
    let longer = length-append xs (x ∷ []) in
    record {
      count = omega (arith, longer, count);
      places = λ q l. placed q l (cases_eq q n);
      fits = λ q l. fitting q l (cases_eq q n);
    }
  where
    here : slice_index_or (xs ++ x ∷ []) n no_seat ≡ x
    here = ap (λ (k : ℕ). slice_index_or (xs ++ x ∷ []) k no_seat) (sym h.count) ∙ at_last xs x

    there : (q : ℕ) → q < n → slice_index_or (xs ++ x ∷ []) q no_seat ≡ slice_index_or xs q no_seat
    there q l = let count = h.count in at_front xs x q (omega arith)

    member : member_at actors n ≡ a
    member = get_or_default actors n no_member a within ∙ sym is

    placed : (q : ℕ) → q < n + 1 → (q ≡ n) ⊎ (q ≡ n → ⊥) →
        (slice_index_or (xs ++ x ∷ []) q no_seat).place ≡ first_place
    placed q l (inl e) =
        ap (λ (k : ℕ). (slice_index_or (xs ++ x ∷ []) k no_seat).place) e
        ∙ (ap (λ (t : Tracked). t.place) here ∙ place)
    placed q l (inr e) =
        let m : q < n = omega (arith, l, e) in
        ap (λ (t : Tracked). t.place) (there q m) ∙ h.places q m

    fitting : (q : ℕ) → q < n + 1 → (q ≡ n) ⊎ (q ≡ n → ⊥) →
        FitsIn (member_at actors q).tasks (slice_index_or (xs ++ x ∷ []) q no_seat)
    fitting q l (inl e) =
        subst (λ (k : ℕ). FitsIn (member_at actors k).tasks (slice_index_or (xs ++ x ∷ []) k no_seat)) (sym e)
        (subst (λ (t : Tracked). FitsIn (member_at actors n).tasks t) (sym here)
        (subst (λ (b : Acting). FitsIn b.tasks x) (sym member) fits))
    fitting q l (inr e) =
        let m : q < n = omega (arith, l, e) in
        subst (λ (t : Tracked). FitsIn (member_at actors q).tasks t) (sym (there q m)) (h.fits q m)

-- All places

module _ (p : Plan) (owner : ActorName) (c : Members) (k : IsCompanyOf p c) (own : Tracked) (submits : List Tracked)
    (first : IsFirstOf p owner own)
    (queues : owner ≡ HostActor → AreFirst c.submits (length c.submits) submits) where
  abbrev seats : Seating
  seats = record { own = own; submits = submits }

  at_queue : (q : ℕ) → owner ≡ HostActor → is_deferred_queue p q ≡ true →
      IsFirstOf p (SubmitActor q) (slice_index_or submits q no_seat)
  at_queue q whose deferred =
      let low = deferred_within p q deferred in
      let count = k.submits.count in
      let within : q < length c.submits = omega arith in
      record {
        place = (queues whose).places q within;
        fits = subst (λ (a : Acting). FitsIn a.tasks (slice_index_or submits q no_seat)) (k.submits.each q low)
            ((queues whose).fits q within);
      }

  first_seat : (b : ActorName) → is_served p owner b ≡ true → IsFirstOf p b (seat_of owner seats b)
  first_seat b served = by_test (same_actor owner b) refl
    where
      by_served : (a d : ActorName) → a ≡ owner → is_served p a d ≡ true → same_actor a d ≡ false →
          IsFirstOf p d (served_at seats d)
      by_served HostActor HostActor e h f = absurd (cc)
      by_served HostActor (SubmitActor q) e h f = at_queue q (sym e) h
      by_served HostActor (RingActor q) e h f = absurd (cc)
      by_served (SubmitActor r) d e h f = absurd (cc)
      by_served (RingActor r) d e h f = absurd (cc)

      by_test : (t : Bool) → same_actor owner b ≡ t → IsFirstOf p b (seat_of owner seats b)
      by_test true e =
          subst (λ (z : Bool). IsFirstOf p b (if z then own else served_at seats b)) (sym e)
          (subst (λ (a : ActorName). IsFirstOf p a own) (same_actor_is owner b e) first)
      by_test false e =
          subst (λ (z : Bool). IsFirstOf p b (if z then own else served_at seats b)) (sym e)
          (by_served owner b refl served e)

  pub first_seating : IsFirstSeating p owner (record { own = own; submits = submits })
  first_seating =
      record {
        places = λ b served. (first_seat b served).place;
        fits = λ b served. (first_seat b served).fits;
        queues = λ whose. (queues whose).count ∙ k.submits.count;
      }

-- an idle pass, with the first places
served_of : (p : Plan) (a b : ActorName) → Serves p a b → is_served p a b ≡ true
served_of p HostActor HostActor s = refl
served_of p HostActor (SubmitActor q) s = s
served_of p HostActor (RingActor q) s = absurd (let z = s in cc)
served_of p (SubmitActor q) b s = subst (λ (z : ActorName). is_served p (SubmitActor q) z ≡ true) (sym s) (same_actor_self (SubmitActor q))
served_of p (RingActor q) b s = subst (λ (z : ActorName). is_served p (RingActor q) z ≡ true) (sym s) (same_actor_self (RingActor q))

pub idle_true : (p : Plan) (owner : ActorName) (v : View) (s : Seating) → IsIdle p owner v → IsFirstSeating p owner s →
    AreTrue p owner v (places_of owner s)
idle_true p owner v s (n, e) k =
    subst (λ (z : View). AreTrue p owner z (places_of owner s)) (sym e)
    (fresh_true p owner n (places_of owner s) (λ b h. k.places b (served_of p owner b h)))

pub idle_plan : (p : Plan) (owner : ActorName) (v : View) → IsIdle p owner v → v.plan ≡ p
idle_plan p owner v (n, e) = ap (λ (z : View). z.plan) e
