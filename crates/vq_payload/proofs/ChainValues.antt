-- The values of a chain, and where they stand.
use Rattle.std.proofs.Common.{◌≡◌, ℕ, zero, suc, ◌<◌, ◌≤◌, Bool, true, false, List, [], ◌∷◌, length, map, find, get_or, Some, refl, sym, ap, ◌∙◌, subst, arith, inl, inr}
use Rattle.std.specs.Prelude.{nat_le, nat_lt}
use Rattle.std.specs.List.{slice_get}
use Rattle.std.specs.List.Sorted.{IsPartitionPoint}
use Rattle.std.proofs.lemmas.Bool.{cond-true, cond-false, cases_lt}
use Rattle.std.proofs.lemmas.List.{length-map}
use Rattle.vq_ground.proofs.Tests.{at_least_of_test, at_most_test, below_of_test, above_test}
use Rattle.vq_model.specs.Plan.{Plan, chain, chain_of, initial, value, resolver}
use Rattle.vq_model.specs.SureOrder.{KeepsRising, RisesFrom}
use Rattle.vq_ground.proofs.Gets.{get_some, get_within, get_has}
use Rattle.vq_model.specs.WellFormed.{IsWellFormed}
use Rattle.vq_model.proofs.Plans.{op_within}
use Rattle.vq_ground.proofs.Searches.{at_place}
use Rattle.vq_core_laws.proofs.Cited.{Facts, chain_places}
use Rattle.vq_payload.specs.Chains.{value_up_to}

-- Tests

-- a search finds what stands at a place, where all before fails the test and this doesn't
pub find_cut : (test : ℕ → Bool) (xs : List ℕ) (n : ℕ) → ((i e : ℕ) → i < n → slice_get xs i ≡ Some e → test e ≡ false) → ((e : ℕ) → slice_get xs n ≡ Some e → test e ≡ true) → find test xs ≡ slice_get xs n
find_cut test [] n below here = refl
find_cut test (x ∷ xs) zero below here = cond-true (test x) (Some x) (find test xs) (here x refl)
find_cut test (x ∷ xs) (suc n) below here =
    cond-false (test x) (Some x) (find test xs) (below 0 x (omega arith) refl)
    ∙ find_cut test xs n (λ i e l g. below (suc i) e (omega arith) g) here

-- Rising values

pub value_here : (p : Plan) (xs : List ℕ) (i e : ℕ) → slice_get xs i ≡ Some e → get_or (map (value p) xs) i 0 ≡ value p e
value_here p [] i e h = absurd (let z = h in cc)
value_here p (x ∷ xs) zero e h = let same : x ≡ e = let z = h in cc in ap (value p) same
value_here p (x ∷ xs) (suc i) e h = value_here p xs i e h

-- the search by values finds the place of the resolver
pub resolver_at : (p : Plan) (t v n : ℕ) → IsPartitionPoint (λ y. nat_lt y v ≡ true) (λ y. nat_lt y v ≡ false) (map (value p) (chain p t)) n → slice_get (chain p t) n ≡ resolver p t v
resolver_at p t v n cut = sym (find_cut (λ e. nat_le v (value p e)) (chain p t) n below here)
  where
    below : (i e : ℕ) → i < n → slice_get (chain p t) i ≡ Some e → nat_le v (value p e) ≡ false
    below i e l g =
        let is = value_here p (chain p t) i e g in
        let low = below_of_test (get_or (map (value p) (chain p t)) i 0) v (cut.0 i 0 (omega arith) l) in
        above_test v (value p e) (omega arith)

    here : (e : ℕ) → slice_get (chain p t) n ≡ Some e → nat_le v (value p e) ≡ true
    here e g =
        let is = value_here p (chain p t) n e g in
        let within = get_within (chain p t) n e g in
        let size = length-map (chain p t) (value p) in
        let high = at_least_of_test (get_or (map (value p) (chain p t)) n 0) v (cut.1 n 0 (omega arith) (omega arith)) in
        at_most_test v (value p e) (omega arith)

-- A lawful plan's chain

module _ (p : Plan) (f : Facts p) (t : ℕ) where
  abbrev rises : RisesFrom p (initial p t) (chain p t)
  rises = f.order.chains t

  pub of_chain_at : (i e : ℕ) → slice_get (chain p t) i ≡ Some e → chain_of p e ≡ Some t
  of_chain_at i e at = f.formed.of_chain e t (get_has (chain p t) i e at)

  -- where an operation of the chain stands in it
  pub place_of_op : (e : ℕ) → chain_of p e ≡ Some t → (k : ℕ) × (slice_get (chain p t) k ≡ Some e)
  place_of_op e h = (_, at_place (chain p t) e (f.formed.in_chain e t h))

  pub in_order : (i k d e : ℕ) → slice_get (chain p t) i ≡ Some d → slice_get (chain p t) k ≡ Some e → i < k → value p d < value p e
  in_order i k d e a b l = chain_places p (initial p t) (chain p t) rises i k d e a b l

  pub above_initial : (k d : ℕ) → slice_get (chain p t) k ≡ Some d → initial p t < value p d
  above_initial k d h = first_above (initial p t) (chain p t) rises k d h
    where
      rising_on : (e : ℕ) (xs : List ℕ) → KeepsRising p e xs → (k d : ℕ) → slice_get xs k ≡ Some d → value p e < value p d
      rising_on e [] r k d h = absurd (let z = h in cc)
      rising_on e (x ∷ xs) r zero d h = let same : x ≡ d = let z = h in cc in subst (λ (z : ℕ). value p e < value p z) same r.0
      rising_on e (x ∷ xs) r (suc k) d h = let a = r.0 in let b = rising_on x xs r.2 k d h in omega arith

      first_above : (n : ℕ) (xs : List ℕ) → RisesFrom p n xs → (k d : ℕ) → slice_get xs k ≡ Some d → n < value p d
      first_above n [] r k d h = absurd (let z = h in cc)
      first_above n (x ∷ xs) r zero d h = let same : x ≡ d = let z = h in cc in subst (λ (z : ℕ). n < value p z) same r.0
      first_above n (x ∷ xs) r (suc k) d h = let a = r.0 in let b = rising_on x xs r.1 k d h in omega arith

  pub value_at : (n d : ℕ) → slice_get (chain p t) n ≡ Some d → value_up_to p t (suc n) ≡ value p d
  value_at n d h = value_here p (chain p t) n d h

  -- the value after the first operations is at least that of each of them, and below those of the others
  pub up_to_least : (n k d : ℕ) → n ≤ length (chain p t) → k < n → slice_get (chain p t) k ≡ Some d → value p d ≤ value_up_to p t n
  up_to_least zero k d within l h = absurd (omega arith)
  up_to_least (suc n) k d within l h =
      let last = get_some (chain p t) n (omega arith) in
      let is = value_at n last.0 last.1 in
      elim (cases_lt k n) [
        | inl low ↦ let up = in_order k n d last.0 h last.1 low in omega arith
        | inr high ↦
            let same : k ≡ n = omega arith in
            let there : slice_get (chain p t) n ≡ Some d = subst (λ (z : ℕ). slice_get (chain p t) z ≡ Some d) same h in
            let again = value_at n d there in
            omega arith
      ]

  pub up_to_below : (n k d : ℕ) → n ≤ k → slice_get (chain p t) k ≡ Some d → value_up_to p t n < value p d
  up_to_below zero k d l h = above_initial k d h
  up_to_below (suc n) k d l h =
      let within = get_within (chain p t) k d h in
      let last = get_some (chain p t) n (omega arith) in
      let is = value_at n last.0 last.1 in
      let up = in_order n k last.0 d last.1 h (omega arith) in
      omega arith

  pub initial_least : (n : ℕ) → n ≤ length (chain p t) → initial p t ≤ value_up_to p t n
  initial_least zero l = omega arith
  initial_least (suc n) l =
      let last = get_some (chain p t) n (omega arith) in
      let is = value_at n last.0 last.1 in
      let up = above_initial n last.0 last.1 in
      omega arith

-- Places

pub at_index : (xs : List ℕ) (i d x : ℕ) → i < length xs → x ≡ get_or xs i d → slice_get xs i ≡ Some x
at_index [] i d x l h = absurd (omega arith)
at_index (y ∷ xs) zero d x l h = ap Some (sym h)
at_index (y ∷ xs) (suc i) d x l h = at_index xs i d x (omega arith) h

pub op_exists : (p : Plan) → IsWellFormed p → (t k d : ℕ) → k < length (chain p t) → get_or (chain p t) k d < length p.ops
op_exists p wf t k d l =
    let at = at_index (chain p t) k d (get_or (chain p t) k d) l refl in
    op_within p (get_or (chain p t) k d) t (wf.of_chain (get_or (chain p t) k d) t (get_has (chain p t) k (get_or (chain p t) k d) at))
