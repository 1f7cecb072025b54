-- Lists of which a first part is done.
use Rattle.std.proofs.Common.{◌≡◌, ℕ, zero, suc, ◌+◌, ◌<◌, ◌≤◌, Bool, true, false, not, List, [], ◌∷◌, length, Some, None, refl, sym, ap, ◌∙◌, ◌⊎◌, inl, inr, subst, arith}
use Rattle.vq_ground.proofs.Filters.{filter-has, filter-has_cases}
use Rattle.std.specs.Prelude.{nat_lt, filter}
use Rattle.std.specs.List.{slice_get, list_all}
use Rattle.std.proofs.lemmas.Bool.{cond-true, cond-false, false≢true, cases_eq, cases_lt, and_from, and_parts, lt-ltb, ltb-true}
use Rattle.vq_model.specs.Machine.{next, put}
use Rattle.vq_ground.specs.Lists.{AreRising, has}
use Rattle.vq_ground.proofs.Gets.{get_some, get_within, place_in, get_has}
use Rattle.vq_ground.proofs.Lists.{list_all_has, list_all_from}
use Rattle.vq_model.proofs.Puts.{put_here, put_there}
use Rattle.vq_core_laws.specs.Firsts.{AreFirst, StandOnce}

-- the rest of such a list
rest_first : (done : ℕ → Bool) (x : ℕ) (xs : List ℕ) (n : ℕ) → AreFirst done (x ∷ xs) (suc n) → AreFirst done xs n
rest_first done x xs n f =
    let w = f.within in
    record {
      within = omega arith;
      before = λ i y e l. f.before (suc i) y e (omega arith);
      after = λ i y e l. f.after (suc i) y e (omega arith);
    }

-- the next one is the one behind the first part
pub next_is : (done : ℕ → Bool) (xs : List ℕ) (n : ℕ) → AreFirst done xs n → next done xs ≡ slice_get xs n
next_is done [] zero f = refl
next_is done [] (suc n) f = refl
next_is done (x ∷ xs) zero f =
    cond-true (not (done x)) (Some x) (next done xs) (ap not (f.after 0 x refl (omega arith)))
next_is done (x ∷ xs) (suc n) f =
    cond-false (not (done x)) (Some x) (next done xs) (ap not (f.before 0 x refl (omega arith)))
    ∙ next_is done xs n (rest_first done x xs n f)

-- the next one is done too
pub put_next : (done : ℕ → Bool) (xs : List ℕ) (n x : ℕ) → AreFirst done xs n → StandOnce xs →
    slice_get xs n ≡ Some x → AreFirst (put done x true) xs (n + 1)
put_next done xs n x f once here =
    record {
      within = (let l = get_within xs n x here in omega arith);
      before = λ i y e l. by_order i y e l (cases_eq i n);
      after = λ i y e l. put_there done x true y (λ s. let k = once i n x (e ∙ ap Some s) here in omega arith)
          ∙ f.after i y e (omega arith);
    }
  where
    by_order : (i y : ℕ) → slice_get xs i ≡ Some y → i < n + 1 → (i ≡ n) ⊎ (i ≡ n → ⊥) → put done x true y ≡ true
    by_order i y e l (inl s) =
        let same : x ≡ y = let a = sym here ∙ (ap (slice_get xs) (sym s) ∙ e) in cc in
        subst (λ (z : ℕ). put done x true z ≡ true) same (put_here done x true)
    by_order i y e l (inr d) =
        put_there done x true y (λ s. d (once i n x (e ∙ ap Some s) here)) ∙ f.before i y e (grind arith)

-- one that isn't of the list changes nothing
pub put_other : (done : ℕ → Bool) (xs : List ℕ) (n x : ℕ) → AreFirst done xs n → ((i : ℕ) →
    slice_get xs i ≡ Some x → ⊥) → AreFirst (put done x true) xs n
put_other done xs n x f none =
    record {
      within = f.within;
      before = λ i y e l. put_there done x true y (λ s. none i (e ∙ ap Some s)) ∙ f.before i y e l;
      after = λ i y e l. put_there done x true y (λ s. none i (e ∙ ap Some s)) ∙ f.after i y e l;
    }

-- all are done where the part is the whole, and nowhere else
pub all_done : (done : ℕ → Bool) (xs : List ℕ) (n : ℕ) → AreFirst done xs n → n ≡ length xs → list_all done xs ≡ true
all_done done [] n f e = refl
all_done done (x ∷ xs) zero f e = absurd (omega arith)
all_done done (x ∷ xs) (suc n) f e =
    and_from (done x) (list_all done xs) (f.before 0 x refl (omega arith)) (all_done done xs n (rest_first done x xs
    n f) (omega arith))

pub done_all : (done : ℕ → Bool) (xs : List ℕ) (n : ℕ) → AreFirst done xs n → list_all done xs ≡ true → n ≡ length xs
done_all done [] n f h = let w = f.within in omega arith
done_all done (x ∷ xs) zero f h =
    absurd (false≢true (sym (f.after 0 x refl (omega arith)) ∙ (and_parts (done x) (list_all done xs) h).0))
done_all done (x ∷ xs) (suc n) f h =
    ap suc (done_all done xs n (rest_first done x xs n f) (and_parts (done x) (list_all done xs) h).1)

-- a list that rises has no number twice
pub rising_once : (xs : List ℕ) → AreRising xs → StandOnce xs
rising_once [] r i k x a b = absurd (let c : None ≡ Some x = a in cc)
rising_once (y ∷ xs) r zero zero x a b = refl
rising_once (y ∷ xs) r zero (suc k) x a b =
    let s : y ≡ x = cc in let l = r.0 x (get_has xs k x b) in absurd (omega arith)
rising_once (y ∷ xs) r (suc i) zero x a b =
    let s : y ≡ x = cc in let l = r.0 x (get_has xs i x a) in absurd (omega arith)
rising_once (y ∷ xs) r (suc i) (suc k) x a b = ap suc (rising_once xs r.1 i k x a b)

-- a list that rises, by places
pub rising_less : (xs : List ℕ) → AreRising xs → (i k x y : ℕ) → slice_get xs i ≡ Some x →
    slice_get xs k ≡ Some y → i < k → x < y
rising_less [] r i k x y a b l = absurd (let c : None ≡ Some x = a in cc)
rising_less (z ∷ xs) r i zero x y a b l = absurd (omega arith)
rising_less (z ∷ xs) r zero (suc k) x y a b l =
    let s : z ≡ x = cc in subst (λ (n : ℕ). n < y) s (r.0 y (get_has xs k y b))
rising_less (z ∷ xs) r (suc i) (suc k) x y a b l = rising_less xs r.1 i k x y a b (omega arith)

module _ (done : ℕ → Bool) (xs : List ℕ) (n : ℕ) (f : AreFirst done xs n) (r : AreRising xs) where
  -- the first of a list that isn't done is that of which all smaller ones are
  pub first_turn : (j : ℕ) → has xs j ≡ true → done j ≡ false →
      list_all done (filter (λ i. nat_lt i j) xs) ≡ true → slice_get xs n ≡ Some j
  first_turn j member idle all = at (place_in xs j member)
    where
      at : (i : ℕ) × (slice_get xs i ≡ Some j) → slice_get xs n ≡ Some j
      at m = elim (cases_lt m.0 n) [
        | inl l ↦ absurd (false≢true (sym idle ∙ f.before m.0 j m.1 l))
        | inr l ↦ elim (cases_eq m.0 n) [
          | inl s ↦ ap (slice_get xs) (sym s) ∙ m.1
          | inr d ↦ absurd (behind (grind arith))
        ]
      ]
        where
          behind : n < m.0 → ⊥
          behind l =
              let b = get_within xs m.0 j m.1 in
              let x = get_some xs n (omega arith) in
              let less = rising_less xs r n m.0 x.0 j x.1 m.1 l in
              let there = filter-has (λ i. nat_lt i j) xs x.0 (get_has xs n x.0 x.1) (lt-ltb x.0 j less) in
              false≢true (sym (f.after n x.0 x.1 (omega arith))
              ∙ list_all_has done (filter (λ i. nat_lt i j) xs) x.0 all there)

  pub turn_first : (j : ℕ) → slice_get xs n ≡ Some j →
      (done j ≡ false) × (list_all done (filter (λ i. nat_lt i j) xs) ≡ true)
  turn_first j here = (
    f.after n j here (omega arith),
    list_all_from done (filter (λ i. nat_lt i j) xs) (λ x m. one x
        (filter-has_cases (λ i. nat_lt i j) xs x m)),
  )
    where
      one : (x : ℕ) → (has xs x ≡ true) × (nat_lt x j ≡ true) → done x ≡ true
      one x h =
          let at = place_in xs x h.0 in
          let less = ltb-true x j h.1 in
          elim (cases_lt at.0 n) [
            | inl l ↦ f.before at.0 x at.1 l
            | inr l ↦ elim (cases_eq n at.0) [
              | inl s ↦
                  let same : j ≡ x = let z = sym here ∙ (ap (slice_get xs) s ∙ at.1) in cc in
                  absurd (omega arith)
              | inr d ↦ let more = rising_less xs r n at.0 j x here at.1 (grind arith) in absurd (omega arith)
            ]
          ]

-- a number of a list that rises is no less than its place
pub rising_at_least : (xs : List ℕ) → AreRising xs → (n x : ℕ) → slice_get xs n ≡ Some x → n ≤ x
rising_at_least xs r zero x e = omega arith
rising_at_least xs r (suc n) x e =
    let l = get_within xs (suc n) x e in
    let y = get_some xs n (omega arith) in
    let k = rising_at_least xs r n y.0 y.1 in
    let m = rising_less xs r n (suc n) y.0 x y.1 e (omega arith) in
    omega arith
