-- All actors before their first turns, over a core without events.
use Rattle.std.proofs.Common.{◌≡◌, ℕ, ◌+◌, ◌<◌, ◌≤◌, ◌⊎◌, ◌++◌, ◌∷◌, inl, inr, List, [], length, get_or, refl, sym, subst}
use Rattle.std.proofs.Common.{ap, ◌∙◌, arith, length-append, zero, suc}
use Rattle.std.proofs.lemmas.Bool.{cases_eq, cases_lt}
use Rattle.std.proofs.lemmas.List.{get_or_past, get_or_default}
use Rattle.std.proofs.lemmas.List.Elements.{All-nil}
use Rattle.vq_model.specs.declared.script.ActorName.{ActorName}
use Rattle.vq_model.specs.declared.script.ActorName.TheVariants.{Host as HostActor, Submit as SubmitActor}
use Rattle.vq_model.specs.declared.script.ActorName.TheVariants.{Ring as RingActor}
use Rattle.vq_model.specs.Plan.{Plan}
use Rattle.vq_point_laws.specs.Points.{opening_points}
use Rattle.vq_turns.specs.Programs.{program}
use Rattle.vq_turns.specs.Turns.{first_place}
use Rattle.vq_turns.specs.declared.look.Holding.{Holding}
use Rattle.vq_turn_laws.specs.TruePlaces.{AreTrueFor}
use Rattle.vq_turn_laws.proofs.Cited.{opening_true}
use Rattle.vq_actor.specs.Actors.{Acting, acting_of}
use Rattle.vq_actor.specs.Companies.{AreOf, IsCompanyOf, Members, member_at, no_member}
use Rattle.vq_actor.specs.Trackers.{Tracked, FitsIn}
use Rattle.vq_core.specs.CoreState.{Course}
use Rattle.vq_core_run.specs.Casts.{AreFirst, AreSeated, first_places, no_seat, places_of, seat_at}
use Rattle.vq_core_run.specs.Seats.{HasSeat, HoldsForNeeds}
use Rattle.vq_core_run.proofs.Troupes.{same_places}

-- One seat more

pub first_none : (actors : List Acting) → AreFirst actors 0 []
first_none actors =
    record { count = refl; places = λ q l. absurd (omega arith); fits = λ q l. absurd (omega arith) }

at_front : (xs : List Tracked) (x : Tracked) (q : ℕ) → q < length xs → seat_at (xs ++ x ∷ []) q ≡ seat_at xs q
at_front [] x q l = absurd (omega arith)
at_front (y ∷ xs) x zero l = refl
at_front (y ∷ xs) x (suc q) l = at_front xs x q (omega arith)

at_last : (xs : List Tracked) (x : Tracked) → seat_at (xs ++ x ∷ []) (length xs) ≡ x
at_last [] x = refl
at_last (y ∷ xs) x = at_last xs x

pub first_more : (actors : List Acting) (n : ℕ) (xs : List Tracked) (a : Acting) (x : Tracked) →
    AreFirst actors n xs → n < length actors → a ≡ get_or actors n a → x.place ≡ first_place → FitsIn a.tasks x →
    AreFirst actors (n + 1) (xs ++ x ∷ [])
first_more actors n xs a x h within is place fits =
    let count = h.count in
    let longer = length-append xs (x ∷ []) in
    record {
      count = omega (arith, longer, count);
      places = λ q l. placed q l (cases_eq q n);
      fits = λ q l. fitting q l (cases_eq q n);
    }
  where
    here : seat_at (xs ++ x ∷ []) n ≡ x
    here = ap (seat_at (xs ++ x ∷ [])) (sym h.count) ∙ at_last xs x

    there : (q : ℕ) → q < n → seat_at (xs ++ x ∷ []) q ≡ seat_at xs q
    there q l = let count = h.count in at_front xs x q (omega arith)

    member : member_at actors n ≡ a
    member = get_or_default actors n no_member a within ∙ sym is

    placed : (q : ℕ) → q < n + 1 → (q ≡ n) ⊎ (q ≡ n → ⊥) → (seat_at (xs ++ x ∷ []) q).place ≡ first_place
    placed q l (inl e) = ap (λ (k : ℕ). (seat_at (xs ++ x ∷ []) k).place) e ∙ (ap (λ (t : Tracked). t.place) here ∙ place)
    placed q l (inr e) =
        let m : q < n = omega (arith, l, e) in
        ap (λ (t : Tracked). t.place) (there q m) ∙ h.places q m

    fitting : (q : ℕ) → q < n + 1 → (q ≡ n) ⊎ (q ≡ n → ⊥) → FitsIn (member_at actors q).tasks (seat_at (xs ++ x ∷ []) q)
    fitting q l (inl e) =
        subst (λ (k : ℕ). FitsIn (member_at actors k).tasks (seat_at (xs ++ x ∷ []) k)) (sym e)
        (subst (λ (t : Tracked). FitsIn (member_at actors n).tasks t) (sym here)
        (subst (λ (b : Acting). FitsIn b.tasks x) (sym member) fits))
    fitting q l (inr e) =
        let m : q < n = omega (arith, l, e) in
        subst (λ (t : Tracked). FitsIn (member_at actors q).tasks t) (sym (there q m)) (h.fits q m)

-- All seats

module _ (p : Plan) (c : Members) (k : IsCompanyOf p c) (host : Tracked) (submits rings : List Tracked)
    (first : host.place ≡ first_place) (fits : FitsIn c.host.tasks host)
    (s : AreFirst c.submits (length c.submits) submits) (r : AreFirst c.rings (length c.rings) rings) where
  at_first : (actors : List Acting) (xs : List Tracked) → AreFirst actors (length actors) xs → (q : ℕ) →
      (seat_at xs q).place ≡ first_place
  at_first actors xs h q = either (cases_lt q (length actors))
    where
      either : (q < length actors) ⊎ (length actors ≤ q) → (seat_at xs q).place ≡ first_place
      either (inl l) = h.places q l
      either (inr le) =
          let count = h.count in
          let past : length xs ≤ q = omega arith in
          ap (λ (t : Tracked). t.place) (get_or_past xs q no_seat past)

  pub first_are : places_of host submits rings ≡ first_places
  first_are = same_places (places_of host submits rings) first_places by_actor
    where
      by_actor : (a : ActorName) → places_of host submits rings a ≡ first_place
      by_actor HostActor = first
      by_actor (SubmitActor q) = at_first c.submits submits s q
      by_actor (RingActor q) = at_first c.rings rings r q

  abbrev opening : Course
  opening = record { plan = p; history = [] }

  seat : (a : ActorName) (b : Acting) (x : Tracked) → b ≡ acting_of p a → x.place ≡ first_place → FitsIn b.tasks x →
      HasSeat opening a x
  seat a b x is place room =
      record {
        fits = subst (λ (d : Acting). FitsIn d.tasks x) is room;
        for_needs = subst (HoldsForNeeds (program p a)) (sym place) (λ ns next. All-nil (λ (h : Holding). h.need <
            length ns));
      }

  seats : (name : ℕ → ActorName) (actors : List Acting) (xs : List Tracked) →
      AreOf p name (length p.script.queues) actors → AreFirst actors (length actors) xs → (q : ℕ) → q < length xs →
      HasSeat opening (name q) (seat_at xs q)
  seats name actors xs of h q l =
      let count = h.count in
      let all = of.count in
      let within : q < length actors = omega arith in
      seat (name q) (member_at actors q) (seat_at xs q) (of.each q (omega arith)) (h.places q within) (h.fits q within)

  pub opens : AreSeated opening host submits rings
  opens =
      record {
        host_seat = seat HostActor c.host host k.host first fits;
        submit_count = s.count ∙ k.submits.count;
        submit_seats = seats SubmitActor c.submits submits k.submits s;
        ring_count = r.count ∙ k.rings.count;
        ring_seats = seats RingActor c.rings rings k.rings r;
        stands = subst (AreTrueFor p (opening_points p)) (sym first_are) (λ a part. opening_true p a);
      }
