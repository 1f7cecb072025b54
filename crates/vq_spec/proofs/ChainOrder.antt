-- The chains of a plan are its operations, sorted.
use Rattle.std.proofs.Common.{◌≡◌, ℕ, suc, ◌+◌, ◌<◌, Bool, true, false, not, cond, eqb, ltb, leb, List, [], ◌∷◌, ◌++◌, length, map, filter, fold, Some, None, option_map, refl, sym, ap, ◌∙◌, ◌⊎◌, inl, inr, subst, arith, append_assoc, zero-add}
use Rattle.std.specs.List.{slice_get, filter_map, cons_option, enumerate_from, range_with_len, prefix_len, position_or_len, find}
use Rattle.std.specs.List.Sorted.{IsPermutation}
use Rattle.std.specs.Option.{option_map_or}
use Rattle.std.proofs.lemmas.Bool.{cond-true, cond-false, eq-eqb, eqb-true, le-leb, lt-leb, ltb-true, ltb-false, false≢true}
use Rattle.vq_model.specs.declared.script.Script.{Script}
use Rattle.vq_model.specs.Lowering.{plan_of}
use Rattle.vq_model.specs.Plan.{value}
use Rattle.vq_ground.specs.Lists.{has}
use Rattle.vq_model.specs.SameScript.{IsRead}
use Rattle.vq_model.specs.Signals.{Signaling, all_signals, signals_semaphore, value_at, insert_op, chain_ops}
use Rattle.vq_model.specs.WellFormed.{AreInOrder}
use Rattle.vq_ground.proofs.Lists.{has_cases}
use Rattle.vq_ground.proofs.Gets.{get-map, get-range, get-append}
use Rattle.vq_plan_laws.proofs.Cited.{well_formed, op_value_is, chain_is as chain_there}
use Rattle.vq_reading_laws.proofs.Cited.{read_valid}
use Rattle.vq_spec.specs.declared.chains.Chain.{Chain}
use Rattle.vq_spec.specs.Counts.{unplaced}
use Rattle.vq_spec.specs.ChainParts.{member, members, is_before, Sorts, valued, first_with, place_in}
use Rattle.vq_spec.proofs.SortedPairs.{once, count, count-cons, AreWeak, sorted_is, before_cases, before_from}

-- Values and chains of the plan

pub chain_is : (s : Script) (t : ℕ) → t < length s.semaphores →
    slice_get (plan_of s).chains t ≡ Some (chain_ops s t)
chain_is s t l =
    get-map (chain_ops s) (range_with_len 0 (length s.semaphores)) t
    ∙ (ap (option_map (chain_ops s)) (get-range (length s.semaphores) 0 t l)
    ∙ ap (λ u. Some (chain_ops s u)) (zero-add t))

-- by value and then by number, each number once
abbrev pub AreStrict : Script → List ℕ → Type 0
AreStrict s [] = Unit {0}
AreStrict s (e ∷ es) =
    ((f : ℕ) → has es f ≡ true →
    (value_at s e < value_at s f) ⊎ ((value_at s e ≡ value_at s f) × (e < f)))
    × AreStrict s es

strict_from : (s : Script) (es : List ℕ) → AreInOrder (plan_of s) es → AreStrict s es
strict_from s [] h = tt
strict_from s (e ∷ es) h = (
  λ f m. subst (λ (v : ℕ). (v < value_at s f) ⊎ ((v ≡ value_at s f) × (e < f))) (op_value_is s e)
      (subst (λ (v : ℕ). (value (plan_of s) e < v) ⊎ ((value (plan_of s) e ≡ v) × (e < f)))
      (op_value_is s f) (h.0 f m)),
  strict_from s es h.1,
)

pub strict_chain : (s : Script) → IsRead s → (t : ℕ) → t < length s.semaphores →
    AreStrict s (chain_ops s t)
strict_chain s i t l = strict_from s (chain_ops s t)
    (subst (AreInOrder (plan_of s)) (chain_there s t l)
    ((well_formed s (read_valid s i)).chain_order t))

weak_from : (s : Script) (es : List ℕ) → AreStrict s es → AreWeak (value_at s) es
weak_from s [] h = tt
weak_from s (e ∷ es) h = (
  λ f m. elim (h.0 f m) [
    | inl a ↦ inl a
    | inr a ↦ let l = a.1 in inr (a.0, omega arith)
  ],
  weak_from s es h.1,
)

-- The operations of a chain

count-insert : (s : Script) (f e : ℕ) (es : List ℕ) →
    count f (insert_op s e es) ≡ once (eqb e f) + count f es
count-insert s f e [] = count-cons f e []
count-insert s f e (x ∷ es) = by_test (leb (value_at s x) (value_at s e)) (count-insert s f e es)
  where
    by_test : (b : Bool) → count f (insert_op s e es) ≡ once (eqb e f) + count f es →
        count f (cond b (x ∷ insert_op s e es) (e ∷ x ∷ es))
        ≡ once (eqb e f) + count f (x ∷ es)
    by_test true r =
        let a = count-cons f x (insert_op s e es) in
        let b = count-cons f x es in
        omega arith
    by_test false r = count-cons f e (x ∷ es)

count-fold_insert : (s : Script) (f : ℕ) (es acc : List ℕ) →
    count f (fold (λ ops e. insert_op s e ops) acc es) ≡ count f es + count f acc
count-fold_insert s f [] acc = (let z : count f acc ≡ 0 + count f acc = omega arith in z)
count-fold_insert s f (e ∷ es) acc =
    let r = count-fold_insert s f es (insert_op s e acc) in
    let a = count-insert s f e acc in
    let b = count-cons f e es in
    omega arith

module _ (s : Script) (t : ℕ) where
  abbrev is_of : ℕ → Bool
  is_of e = option_map_or (signals_semaphore t) (slice_get (all_signals s) e) false

  members_from : (front xs : List Signaling) → all_signals s ≡ front ++ xs →
      filter_map (member t) (enumerate_from (length front)
      (map (unplaced s) (enumerate_from (length front) xs)))
      ≡ map (valued s) (filter is_of (range_with_len (length front) (length xs)))
  members_from front [] e = refl
  members_from front (x ∷ xs) e =
      by_test (eqb x.semaphore t) (here ∙ refl) (again (members_from (front ++ x ∷ []) xs
      (e ∙ sym (append_assoc front (x ∷ []) xs))))
    where
      more : length (front ++ x ∷ []) ≡ length front + 1
      more = count_more front
        where
          count_more : (ys : List Signaling) → length (ys ++ x ∷ []) ≡ length ys + 1
          count_more [] = refl
          count_more (y ∷ ys) = let r = count_more ys in omega arith

      again : filter_map (member t) (enumerate_from (length (front ++ x ∷ []))
          (map (unplaced s) (enumerate_from (length (front ++ x ∷ [])) xs)))
          ≡ map (valued s) (filter is_of (range_with_len (length (front ++ x ∷ [])) (length xs))) →
          filter_map (member t) (enumerate_from (length front + 1)
          (map (unplaced s) (enumerate_from (length front + 1) xs)))
          ≡ map (valued s) (filter is_of (range_with_len (length front + 1) (length xs)))
      again r = subst (λ (n : ℕ). filter_map (member t) (enumerate_from n
          (map (unplaced s) (enumerate_from n xs)))
          ≡ map (valued s) (filter is_of (range_with_len n (length xs)))) more r

      here : is_of (length front) ≡ eqb x.semaphore t
      here =
          let z : length front ≡ length front + 0 = omega arith in
          ap (λ o. option_map_or (signals_semaphore t) o false)
          (ap (λ xs. slice_get xs (length front)) e
          ∙ (ap (slice_get (front ++ x ∷ xs)) z ∙ get-append front (x ∷ xs) 0))

      by_test : (b : Bool) → is_of (length front) ≡ b →
          filter_map (member t) (enumerate_from (length front + 1)
          (map (unplaced s) (enumerate_from (length front + 1) xs)))
          ≡ map (valued s) (filter is_of (range_with_len (length front + 1) (length xs))) →
          cons_option (cond b (Some (valued s (length front))) None)
          (filter_map (member t) (enumerate_from (length front + 1)
          (map (unplaced s) (enumerate_from (length front + 1) xs))))
          ≡ map (valued s) (cond (is_of (length front))
          (length front ∷ filter is_of (range_with_len (length front + 1) (length xs)))
          (filter is_of (range_with_len (length front + 1) (length xs))))
      by_test true h r =
          ap (λ xs. valued s (length front) ∷ xs) r
          ∙ ap (map (valued s)) (sym (cond-true (is_of (length front)) _ _ h))
      by_test false h r = r
          ∙ ap (map (valued s)) (sym (cond-false (is_of (length front)) _ _ h))

  members_are : members (map (unplaced s) (enumerate_from 0 (all_signals s))) t
      ≡ map (valued s) (filter is_of (range_with_len 0 (length (all_signals s))))
  members_are = members_from [] (all_signals s) refl

  -- a sorted chain is the plan's
  pub chain_pairs : IsRead s → t < length s.semaphores → (c : Chain) →
      Sorts (members (map (unplaced s) (enumerate_from 0 (all_signals s))) t) c →
      c.pairs.items ≡ map (valued s) (chain_ops s t)
  chain_pairs i l c h =
      sorted_is (value_at s) (filter is_of (range_with_len 0 (length (all_signals s))))
      (chain_ops s t) c.pairs.items (weak_from s (chain_ops s t) (strict_chain s i t l))
      (λ e. (let z : count e (filter is_of (range_with_len 0 (length (all_signals s))))
      ≡ count e (filter is_of (range_with_len 0 (length (all_signals s)))) + 0 = omega arith in z)
      ∙ sym (count-fold_insert s e (filter is_of (range_with_len 0 (length (all_signals s)))) []))
      (subst (λ ps. IsPermutation ps c.pairs.items) members_are
      h.permutation) h.sorted

-- What searches find

-- the resolver of a value
pub first_is : (s : Script) (es : List ℕ) (v : ℕ) →
    first_with (map (valued s) es) v ≡ find (λ e. leb v (value_at s e)) es
first_is s [] v = refl
first_is s (e ∷ es) v = by_test (ltb (value_at s e) v) refl (first_is s es v)
  where
    by_test : (b : Bool) → ltb (value_at s e) v ≡ b →
        first_with (map (valued s) es) v ≡ find (λ e. leb v (value_at s e)) es →
        first_with (map (valued s) (e ∷ es)) v ≡ find (λ e. leb v (value_at s e)) (e ∷ es)
    by_test true t r =
        ap (λ n. option_map (λ (p : ℕ × ℕ). p.1) (slice_get (map (valued s) (e ∷ es)) n))
        (cond-true (ltb (value_at s e) v)
        (1 + prefix_len (λ p. ltb p.0 v) (map (valued s) es)) 0 t
        ∙ (let z : 1 + prefix_len (λ p. ltb p.0 v) (map (valued s) es)
        ≡ suc (prefix_len (λ p. ltb p.0 v) (map (valued s) es)) = omega arith in z))
        ∙ (r ∙ sym (cond-false (leb v (value_at s e)) (Some e)
        (find (λ e. leb v (value_at s e)) es)
        (lt-leb v (value_at s e) (ltb-true (value_at s e) v t))))
    by_test false t r =
        ap (λ n. option_map (λ (p : ℕ × ℕ). p.1) (slice_get (map (valued s) (e ∷ es)) n))
        (cond-false (ltb (value_at s e) v)
        (1 + prefix_len (λ p. ltb p.0 v) (map (valued s) es)) 0 t)
        ∙ sym (cond-true (leb v (value_at s e)) (Some e)
        (find (λ e. leb v (value_at s e)) es)
        (le-leb v (value_at s e) (ltb-false (value_at s e) v t)))

-- nothing comes before itself
not_itself : (v e : ℕ) → is_before (v, e) v e ≡ false
not_itself v e = by_test (is_before (v, e) v e) refl
  where
    by_test : (b : Bool) → is_before (v, e) v e ≡ b → is_before (v, e) v e ≡ false
    by_test false h = h
    by_test true h = elim (before_cases (v, e) v e h) [
      | inl l ↦ absurd (omega arith)
      | inr r ↦ let l = r.1 in absurd (omega arith)
    ]

-- the place of an operation
pub place_is : (s : Script) (es : List ℕ) (e : ℕ) → AreStrict s es → has es e ≡ true →
    place_in (map (valued s) es) (value_at s e) e ≡ position_or_len (λ f. eqb f e) es
place_is s [] e h m = refl
place_is s (f ∷ es) e h m = by_test (eqb f e) refl (place_is s es e h.1)
  where
    by_test : (b : Bool) → eqb f e ≡ b →
        (has es e ≡ true → place_in (map (valued s) es) (value_at s e) e
        ≡ position_or_len (λ f. eqb f e) es) →
        cond (is_before (valued s f) (value_at s e) e)
        (1 + place_in (map (valued s) es) (value_at s e) e) 0
        ≡ position_or_len (λ f. eqb f e) (f ∷ es)
    by_test true t r =
        cond-false (is_before (valued s f) (value_at s e) e)
        (1 + place_in (map (valued s) es) (value_at s e) e) 0
        (subst (λ (g : ℕ). is_before (valued s g) (value_at s e) e ≡ false)
        (sym (eqb-true f e t)) (not_itself (value_at s e) e))
        ∙ sym (cond-false (not (eqb f e)) (1 + prefix_len (λ x. not (eqb x e)) es) 0 (ap not t))
    by_test false t r =
        let there : has es e ≡ true = elim (has_cases f es e m) [
          | inl q ↦ absurd (false≢true (sym t ∙ eq-eqb f e q))
          | inr q ↦ q
        ] in
        cond-true (is_before (valued s f) (value_at s e) e)
        (1 + place_in (map (valued s) es) (value_at s e) e) 0
        (before_from (valued s f) (value_at s e) e (h.0 e there))
        ∙ (ap (λ n. 1 + n) (r there)
        ∙ sym (cond-true (not (eqb f e)) (1 + prefix_len (λ x. not (eqb x e)) es) 0 (ap not t)))
