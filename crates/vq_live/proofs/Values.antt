-- Lists of operations whose values rise: where a value stands among them.
use Rattle.std.proofs.Common.{◌≡◌, ℕ, zero, suc, ◌<◌, ◌≤◌, Bool, true, false, List, [], ◌∷◌, length, get_or, take, refl, sym, ◌∙◌, ap, arith}
use Rattle.std.specs.Prelude.{◌==◌, ◌||◌, nat_lt, if◌then◌else◌}
use Rattle.std.proofs.lemmas.Bool.Decides.{nat_tests}
use Rattle.vq_ground.proofs.Tests.{below_test}
use Rattle.vq_live.specs.declared.answers.Given.{Given}
use Rattle.std.specs.List.{list_any, insert}
use Rattle.std.specs.List.Sorted.{IsPartitionPoint, IsPartitionedBy}
use Rattle.vq_live.specs.Live.{RisesFrom, last_value}
use Rattle.vq_live.specs.Calls.{placed}

-- the pending value
pub last_read : (n : ℕ) (ops : List Given) (j : ℕ) (x : Given) → j < length ops → x ≡ get_or ops j x → x.value ≡ last_value n (take (suc j) ops)
last_read n [] j x l e = absurd (omega arith)
last_read n (y ∷ ys) zero x l e = ap (λ (z : Given). z.value) e
last_read n (y ∷ ys) (suc j) x l e = last_read y.value ys j x (omega arith) e

pub last_above : (n k : ℕ) (ops : List Given) → RisesFrom n ops → n ≤ last_value n (take k ops)
last_above n zero ops h = omega arith
last_above n (suc k) [] h = omega arith
last_above n (suc k) (x ∷ xs) h =
    let first = h.0 in let more = last_above x.value k xs h.1 in omega arith

-- a value that isn't taken
module _ (v : ℕ) where
  apart : (a : ℕ) → ((a ≡ v) → ⊥) → (a == v) ≡ false
  apart a n = grind (arith, nat_tests)

  same_of : (a : ℕ) → a ≡ v → (a == v) ≡ true
  same_of a e = grind (arith, nat_tests)

  above_none : (n : ℕ) (xs : List Given) → v ≤ n → RisesFrom n xs → list_any (λ x. x.value == v) xs ≡ false
  above_none n [] l h = refl
  above_none n (x ∷ xs) l h =
      let first = h.0 in
      ap (λ (b : Bool). b || list_any (λ x. x.value == v) xs) (apart x.value (λ e. absurd (omega arith)))
      ∙ above_none x.value xs (omega arith) h.1

  pub none_taken : (n k : ℕ) (xs : List Given) → RisesFrom n xs → ((j : ℕ) (d : Given) → 0 ≤ j → j < k → (get_or xs j d).value < v) → ((j : ℕ) (d : Given) → k ≤ j → j < length xs → v ≤ (get_or xs j d).value) → (k < length xs → (d : Given) → (get_or xs k d).value ≡ v → ⊥) → list_any (λ x. x.value == v) xs ≡ false
  none_taken n k [] h p q r = refl
  none_taken n zero (x ∷ xs) h p q r =
      let least = q 0 x (omega arith) (omega arith) in
      ap (λ (b : Bool). b || list_any (λ x. x.value == v) xs) (apart x.value (r (omega arith) x))
      ∙ above_none x.value xs least h.1
  none_taken n (suc k) (x ∷ xs) h p q r =
      let below = p 0 x (omega arith) (omega arith) in
      ap (λ (b : Bool). b || list_any (λ x. x.value == v) xs) (apart x.value (λ e. absurd (omega arith)))
      ∙ none_taken x.value k xs h.1 (λ j d z l. p (suc j) d (omega arith) (omega arith)) (λ j d l m. q (suc j) d (omega arith) (omega arith)) (λ l d. r (omega arith) d)

  pub is_taken : (k : ℕ) (xs : List Given) (x : Given) → k < length xs → x ≡ get_or xs k x → x.value ≡ v → list_any (λ y. y.value == v) xs ≡ true
  is_taken k [] x l e s = absurd (omega arith)
  is_taken zero (y ∷ ys) x l e s = ap (λ (b : Bool). b || list_any (λ z. z.value == v) ys) (same_of y.value (ap (λ (z : Given). z.value) (sym e) ∙ s))
  is_taken (suc k) (y ∷ ys) x l e s =
      ap (λ (b : Bool). (y.value == v) || b) (is_taken k ys x (omega arith) e s) ∙ either_way (y.value == v)
    where
      either_way : (b : Bool) → (b || true) ≡ true
      either_way true = refl
      either_way false = refl

-- where an operation is placed by value
pub placed_is : (y : Given) (k : ℕ) (xs : List Given) → k ≤ length xs → ((j : ℕ) (d : Given) → 0 ≤ j → j < k → (get_or xs j d).value < y.value) → ((j : ℕ) (d : Given) → k ≤ j → j < length xs → y.value ≤ (get_or xs j d).value) → insert xs k y ≡ placed y xs
placed_is y zero [] m p q = refl
placed_is y (suc k) [] m p q = absurd (omega arith)
placed_is y zero (x ∷ xs) m p q =
    sym (ap (λ (b : Bool). if b then x ∷ placed y xs else y ∷ x ∷ xs) (not_less x.value y.value (q 0 x (omega arith) (omega arith))))
  where
    not_less : (a b : ℕ) → b ≤ a → nat_lt a b ≡ false
    not_less a b l = grind (arith, nat_tests)
placed_is y (suc k) (x ∷ xs) m p q =
    ap (λ (zs : List Given). x ∷ zs) (placed_is y k xs (omega arith) (λ j d z l. p (suc j) d (omega arith) (omega arith)) (λ j d l n. q (suc j) d (omega arith) (omega arith)))
    ∙ sym (ap (λ (b : Bool). if b then x ∷ placed y xs else y ∷ x ∷ xs) (less x.value y.value (p 0 x (omega arith) (omega arith))))
  where
    less : (a b : ℕ) → a < b → nat_lt a b ≡ true
    less a b l = grind (arith, nat_tests)

-- values that rise are parted by a value
rises_above : (n : ℕ) (xs : List Given) (j : ℕ) (d : Given) → RisesFrom n xs → j < length xs → n < (get_or xs j d).value
rises_above n [] j d h l = absurd (omega arith)
rises_above n (x ∷ xs) zero d h l = h.0
rises_above n (x ∷ xs) (suc j) d h l =
    let first = h.0 in let more = rises_above x.value xs j d h.1 (omega arith) in omega arith

rises_at : (n : ℕ) (xs : List Given) (i j : ℕ) (d : Given) → RisesFrom n xs → i ≤ j → j < length xs → (get_or xs i d).value ≤ (get_or xs j d).value
rises_at n [] i j d h l m = absurd (omega arith)
rises_at n (x ∷ xs) zero zero d h l m = omega arith
rises_at n (x ∷ xs) zero (suc j) d h l m = let more = rises_above x.value xs j d h.1 (omega arith) in omega arith
rises_at n (x ∷ xs) (suc i) zero d h l m = absurd (omega arith)
rises_at n (x ∷ xs) (suc i) (suc j) d h l m = rises_at x.value xs i j d h.1 (omega arith) (omega arith)

pub parted : (n v : ℕ) (xs : List Given) → RisesFrom n xs → IsPartitionedBy (λ x. nat_lt x.value v) xs
parted n v xs h = λ i j d l m e.
    let order = rises_at n xs i j d h (omega arith) m in
    let below = less_test (get_or xs j d).value v e in
    test_less (get_or xs i d).value v (omega arith)
  where
    less_test : (a b : ℕ) → nat_lt a b ≡ true → a < b
    less_test a b t = grind (arith, nat_tests)

    test_less : (a b : ℕ) → a < b → nat_lt a b ≡ true
    test_less a b t = grind (arith, nat_tests)

pub searched : (xs : List Given) (v k : ℕ) → IsPartitionPoint (λ x. nat_lt x.value v ≡ true) (λ x. nat_lt x.value v ≡ false) xs k → IsPartitionPoint (λ x. x.value < v) (λ x. v ≤ x.value) xs k
searched xs v k p = (
  λ j d l m. less_test (get_or xs j d).value v (p.0 j d l m),
  λ j d l m. least_test (get_or xs j d).value v (p.1 j d l m),
)
  where
    less_test : (a b : ℕ) → nat_lt a b ≡ true → a < b
    less_test a b t = grind (arith, nat_tests)

    least_test : (a b : ℕ) → nat_lt a b ≡ false → b ≤ a
    least_test a b t = grind (arith, nat_tests)

-- what is pending stays in front of a greater value
pub keep_front : (y : Given) (m n : ℕ) (ops : List Given) → RisesFrom m ops → n ≤ length ops → last_value m (take n ops) < y.value → take n (placed y ops) ≡ take n ops
keep_front y m zero ops h l a = refl
keep_front y m (suc n) [] h l a = absurd (omega arith)
keep_front y m (suc n) (x ∷ xs) h l a =
    let low = last_above x.value n xs h.1 in
    ap (λ (b : Bool). take (suc n) (if b then x ∷ placed y xs else y ∷ x ∷ xs)) (below_test x.value y.value (omega arith))
    ∙ ap (λ (zs : List Given). x ∷ zs) (keep_front y x.value n xs h.1 (omega arith) a)
