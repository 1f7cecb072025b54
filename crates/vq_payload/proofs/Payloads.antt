-- What a pass knows of a chain's payload while it goes along the chain, and where it stops.
use Rattle.std.proofs.Common.{◌≡◌, ℕ, zero, suc, ◌+◌, ◌-◌, ◌≤◌, ◌==◌, ◌&&◌, List, [], ◌∷◌, Option, Some, None, true, length, find, refl, sym, ◌∙◌, subst, arith, inl, inr, eqb}
use Rattle.std.specs.Prelude.{nat_le, nat_lt}
use Rattle.std.specs.List.{slice_get}
use Rattle.std.specs.Option.{option_map_or}
use Rattle.std.proofs.lemmas.Bool.{cases_lt, and_from, or_left, or_right, eq-eqb}
use Rattle.std.proofs.lemmas.Option.{same_Some}
use Rattle.vq_ground.proofs.Tests.{at_most_test, below_test, not_below_test}
use Rattle.vq_model.specs.Plan.{Plan, chain, initial, value}
use Rattle.vq_ground.specs.Lists.{has}
use Rattle.vq_model.specs.SureOrder.{KeepsRising, RisesFrom}
use Rattle.vq_model.specs.Windows.{sure}
use Rattle.vq_ground.proofs.Gets.{get_some, get_within, get_has}
use Rattle.vq_ground.proofs.Lists.{any_has}
use Rattle.vq_core_laws.proofs.Cited.{Facts}
use Rattle.vq_board_laws.specs.declared.view.Fact.{Fact}
use Rattle.vq_board_laws.specs.declared.view.View.{View}
use Rattle.vq_board_laws.specs.Knowledge.{KnowsMade, made_with, IsKnownValue, IsKnownPayload}
use Rattle.vq_board.specs.Firsts.{ShowsFirst, shows_made}
use Rattle.vq_board.proofs.Cited.{shown_known}
use Rattle.vq_payload.specs.Chains.{value_up_to}
use Rattle.vq_board_laws.specs.Learning.{Grows, Learns}
use Rattle.vq_payload.specs.Reading.{IsNextAbove, ShowsNext, IsShownValue, HasRead}
use Rattle.vq_payload.specs.Tests.{shows_value, notes_next}
use Rattle.vq_payload.proofs.ChainValues.{find_cut, of_chain_at, place_of_op, in_order, value_at, up_to_least, up_to_below, initial_least}
use Rattle.vq_payload.proofs.Growing.{made_grown, shown_grown}

-- what was known of the payload is at most what is known of it with more
payload_grown : (p : Plan) (t : ℕ) (known more : List Fact) (m n : ℕ) → Grows known more → IsKnownPayload p known t m → IsKnownPayload p more t n → m ≤ n
payload_grown p t known more m n g old new = new.greatest m (still old.holds)
  where
    still : IsKnownValue p known t m → IsKnownValue p more t m
    still (inl is) = inl is
    still (inr k) = inr (k.0, k.1, k.2, made_grown p known more k.0 g k.3)

module _ (p : Plan) (f : Facts p) (t : ℕ) where
  -- What is known of one operation is known of the one before it.

  one_back_in : (known : List Fact) (first : ℕ) (xs : List ℕ) → KeepsRising p first xs → (k d e : ℕ) → slice_get (first ∷ xs) k ≡ Some d → slice_get (first ∷ xs) (suc k) ≡ Some e → KnowsMade p known e → KnowsMade p known d
  one_back_in known first [] r zero d e a b m = absurd (let z = b in cc)
  one_back_in known first (y ∷ ys) r zero d e a b m =
      let same : first ≡ d = let z = a in cc in
      let next : y ≡ e = let z = b in cc in
      let s = r.1 in
      subst (λ (z : ℕ). KnowsMade p known z) same (made_with (subst (λ (z : ℕ). KnowsMade p known z) (sym next) m) (sure s.1 s.2))
  one_back_in known first [] r (suc k) d e a b m = absurd (let z = b in cc)
  one_back_in known first (y ∷ ys) r (suc k) d e a b m = one_back_in known y ys r.2 k d e a b m

  one_back : (known : List Fact) (n : ℕ) (xs : List ℕ) → RisesFrom p n xs → (k d e : ℕ) → slice_get xs k ≡ Some d → slice_get xs (suc k) ≡ Some e → KnowsMade p known e → KnowsMade p known d
  one_back known n [] r k d e a b m = absurd (let z = b in cc)
  one_back known n (x ∷ xs) r k d e a b m = one_back_in known x xs r.1 k d e a b m

  back : (known : List Fact) (n i d e : ℕ) → slice_get (chain p t) i ≡ Some d → slice_get (chain p t) (n + i) ≡ Some e → KnowsMade p known e → KnowsMade p known d
  back known zero i d e a b m =
      let none : zero + i ≡ i = omega arith in
      let y : slice_get (chain p t) i ≡ Some e = subst (λ (k : ℕ). slice_get (chain p t) k ≡ Some e) none b in
      subst (λ (z : ℕ). KnowsMade p known z) (same_Some e d (sym y ∙ a)) m
  back known (suc n) i d e a b m =
      let more : suc n + i ≡ suc (n + i) = omega arith in
      let here : slice_get (chain p t) (suc (n + i)) ≡ Some e = subst (λ (k : ℕ). slice_get (chain p t) k ≡ Some e) more b in
      let within = get_within (chain p t) (suc (n + i)) e here in
      let prior = get_some (chain p t) (n + i) (omega arith) in
      back known n i d prior.0 a prior.1 (one_back known (initial p t) (chain p t) (f.order.chains t) (n + i) prior.0 e prior.1 here m)

  -- The first operations are shown made, and the next one, if there is one, isn't known made.
  module _ (known : List Fact) (n : ℕ) (within : n ≤ length (chain p t)) (first : ShowsFirst p known t n) (stop : (e : ℕ) → slice_get (chain p t) n ≡ Some e → ¬ KnowsMade p known e) where
    shown_value : (k : ℕ) → k ≤ n → IsKnownValue p known t (value_up_to p t k)
    shown_value zero l = inl refl
    shown_value (suc k) l =
        let last = get_some (chain p t) k (omega arith) in
        inr (last.0, of_chain_at p f t k last.0 last.1, sym (value_at p f t k last.0 last.1), shown_known p known last.0 (first k last.0 (omega arith) last.1))

    greatest : (m : ℕ) → IsKnownValue p known t m → m ≤ value_up_to p t n
    greatest m (inl is) = let low = initial_least p f t n within in omega arith
    greatest m (inr (e, in_chain, is, made)) =
        let at = place_of_op p f t e in_chain in
        elim (cases_lt at.0 n) [
          | inl low ↦ let up = up_to_least p f t n at.0 e within low at.1 in omega arith
          | inr high ↦
              let inside = get_within (chain p t) at.0 e at.1 in
              let next = get_some (chain p t) n (omega arith) in
              let far : at.0 - n + n ≡ at.0 = omega arith in
              absurd (stop next.0 next.1 (back known (at.0 - n) n next.0 e next.1 (subst (λ (z : ℕ). slice_get (chain p t) z ≡ Some e) (sym far) at.1) made))
        ]

    known_payload : IsKnownPayload p known t (value_up_to p t n)
    known_payload = record { holds = shown_value n (omega arith); greatest = greatest }

  -- the least operation above that value is the next one
  next_above : (n e : ℕ) → n ≤ length (chain p t) → IsNextAbove p t (value_up_to p t n) e → slice_get (chain p t) n ≡ Some e
  next_above n e within next =
      let at = place_of_op p f t e next.in_chain in
      let above = next.above in
      elim (cases_lt at.0 n) [
        | inl low ↦ let up = up_to_least p f t n at.0 e within low at.1 in absurd (omega arith)
        | inr high ↦
            let inside = get_within (chain p t) at.0 e at.1 in
            let here = get_some (chain p t) n (omega arith) in
            let least = next.least here.0 (of_chain_at p f t n here.0 here.1) (up_to_below p f t n n here.0 (omega arith) here.1) in
            elim (cases_lt n at.0) [
              | inl below ↦ let up = in_order p f t n at.0 here.0 e here.1 at.1 below in absurd (omega arith)
              | inr isnt ↦ let same : at.0 ≡ n = omega arith in subst (λ (z : ℕ). slice_get (chain p t) z ≡ Some e) same at.1
            ]
      ]

  -- and a search finds it
  search_above : (n : ℕ) → n ≤ length (chain p t) → find (λ e. nat_lt (value_up_to p t n) (value p e)) (chain p t) ≡ slice_get (chain p t) n
  search_above n within =
      find_cut (λ e. nat_lt (value_up_to p t n) (value p e)) (chain p t) n
      (λ i e l g. not_below_test (value_up_to p t n) (value p e) (up_to_least p f t n i e within l g))
      (λ e g. below_test (value_up_to p t n) (value p e) (up_to_below p f t n n e (omega arith) g))

  -- The tests

  tests_value : (known : List Fact) (n : ℕ) → n ≤ length (chain p t) → ShowsFirst p known t n → shows_value p known t (value_up_to p t n) ≡ true
  tests_value known zero within first = or_left (eqb (initial p t) (initial p t)) _ (eq-eqb (initial p t) (initial p t) refl)
  tests_value known (suc n) within first =
      let last = get_some (chain p t) n (omega arith) in
      let here = value_at p f t n last.0 last.1 in
      or_right (eqb (value_up_to p t (suc n)) (initial p t)) _
      (any_has (λ e. (value p e == value_up_to p t (suc n)) && shows_made known e) (chain p t) last.0 (get_has (chain p t) n last.0 last.1)
      (and_from (eqb (value p last.0) (value_up_to p t (suc n))) (shows_made known last.0) (eq-eqb (value p last.0) (value_up_to p t (suc n)) (sym here)) (first n last.0 (omega arith) last.1)))

  tests_next : (v w : View) (n : ℕ) → n ≤ length (chain p t) → ((e : ℕ) → slice_get (chain p t) n ≡ Some e → ShowsNext v w e) → notes_next p w.unmade t (value_up_to p t n) ≡ true
  tests_next v w n within shows = subst (λ (o : Option ℕ). option_map_or (has w.unmade) o true ≡ true) (sym (search_above n within)) (by_next (slice_get (chain p t) n) refl)
    where
      by_next : (o : Option ℕ) → slice_get (chain p t) n ≡ o → option_map_or (has w.unmade) o true ≡ true
      by_next None is = refl
      by_next (Some e) is = (shows e is).unmade.noted

  -- A read that stops after so many operations.
  module _ (v w : View) (n : ℕ) (within : n ≤ length (chain p t)) (learned : Learns v w) (first : ShowsFirst p w.known t n) (stop : (e : ℕ) → slice_get (chain p t) n ≡ Some e → ShowsNext v w e) (unmade : (e : ℕ) → slice_get (chain p t) n ≡ Some e → ¬ KnowsMade p w.known e) where
    own_value : (k : ℕ) → k ≤ n → IsShownValue p w t (value_up_to p t k)
    own_value zero l = inl refl
    own_value (suc k) l =
        let last = get_some (chain p t) k (omega arith) in
        inr (last.0, of_chain_at p f t k last.0 last.1, sym (value_at p f t k last.0 last.1), first k last.0 (omega arith) last.1)

    has_read : HasRead p t v w (value_up_to p t n)
    has_read =
        let payload = known_payload w.known n within first unmade in
        record {
          known = payload;
          shown = own_value n (omega arith);
          at_least = λ m old. payload_grown p t v.known w.known m (value_up_to p t n) learned.known old payload;
          next = λ e above. stop e (next_above n e within above);
          tests =
              and_from (nat_le (initial p t) (value_up_to p t n)) _ (at_most_test (initial p t) (value_up_to p t n) (initial_least p f t n within))
              (and_from (shows_value p w.known t (value_up_to p t n)) (notes_next p w.unmade t (value_up_to p t n)) (tests_value w.known n within first) (tests_next v w n within stop));
        }

  -- at an operation that was seen unmade,
  pub read_stops : (v w : View) (n d : ℕ) → slice_get (chain p t) n ≡ Some d → Learns v w → ShowsFirst p w.known t n → ShowsNext v w d → ¬ KnowsMade p w.known d → HasRead p t v w (value_up_to p t n)
  read_stops v w n d at learned first shows unmade =
      let within = get_within (chain p t) n d at in
      has_read v w n (omega arith) learned first
      (λ e is. subst (λ (z : ℕ). ShowsNext v w z) (same_Some d e (sym at ∙ is)) shows)
      (λ e is made. unmade (subst (λ (z : ℕ). KnowsMade p w.known z) (same_Some e d (sym is ∙ at)) made))

  -- or at the end of the chain
  pub read_ends : (v w : View) (n : ℕ) → n ≡ length (chain p t) → Learns v w → ShowsFirst p w.known t n → HasRead p t v w (value_up_to p t n)
  read_ends v w n end learned first =
      has_read v w n (omega arith) learned first
      (λ e is. let inside = get_within (chain p t) n e is in absurd (omega arith))
      (λ e is made. let inside = get_within (chain p t) n e is in omega arith)

  -- one operation more is shown made
  pub first_more : (known : List Fact) (n d : ℕ) → ShowsFirst p known t n → slice_get (chain p t) n ≡ Some d → shows_made known d ≡ true → ShowsFirst p known t (n + 1)
  first_more known n d first at made i e l h = elim (cases_lt i n) [
    | inl low ↦ first i e low h
    | inr high ↦
        let same : i ≡ n = omega arith in
        let here : slice_get (chain p t) n ≡ Some e = subst (λ (z : ℕ). slice_get (chain p t) z ≡ Some e) same h in
        subst (λ (z : ℕ). shows_made known z ≡ true) (same_Some d e (sym at ∙ here)) made
  ]

  pub first_grown : (known more : List Fact) (n : ℕ) → Grows known more → ShowsFirst p known t n → ShowsFirst p more t n
  first_grown known more n g first i e l h = shown_grown known more e g (first i e l h)
