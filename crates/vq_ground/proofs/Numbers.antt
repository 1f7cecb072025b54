-- Ranges of numbers.
use Rattle.std.proofs.Common.{◌≡◌, ℕ, zero, suc, ◌+◌, ◌<◌, ◌≤◌, true, eqb, inl, inr, arith, ap, ◌∙◌, ◌++◌, ◌∷◌, []}
use Rattle.std.specs.List.{range_with_len}
use Rattle.std.proofs.lemmas.Bool.{eq-eqb, or_left, or_right, cases_eq, false≢true}
use Rattle.vq_ground.specs.Lists.{has, AreRising}
use Rattle.vq_ground.proofs.Lists.{has_cases}

pub has_range : (n a j : ℕ) → a ≤ j → j < a + n → has (range_with_len a n) j ≡ true
has_range zero a j l h = absurd (omega arith)
has_range (suc n) a j l h =
    elim (cases_eq a j) [
      | inl e ↦ or_left (eqb a j) (has (range_with_len (a + 1) n) j) (eq-eqb a j e)
      | inr e ↦ or_right (eqb a j) (has (range_with_len (a + 1) n) j) (has_range n (a + 1) j (grind arith) (grind arith))
    ]

pub has-range_cases : (n a x : ℕ) → has (range_with_len a n) x ≡ true → (a ≤ x) × (x < a + n)
has-range_cases zero a x h = absurd (false≢true h)
has-range_cases (suc n) a x h =
    elim (has_cases a (range_with_len (a + 1) n) x h) [
      | inl e ↦ (omega arith, omega arith)
      | inr i ↦ let r = has-range_cases n (a + 1) x i in let l = r.0 in let u = r.1 in (omega arith, omega arith)
    ]

pub range-has : (n a x : ℕ) → a ≤ x → x < a + n → has (range_with_len a n) x ≡ true
range-has zero a x l h = absurd (omega arith)
range-has (suc n) a x l h =
    elim (cases_eq a x) [
      | inl e ↦ or_left (eqb a x) (has (range_with_len (a + 1) n) x) (eq-eqb a x e)
      | inr e ↦ or_right (eqb a x) (has (range_with_len (a + 1) n) x) (range-has n (a + 1) x (grind arith) (grind arith))
    ]

pub rising_range : (n a : ℕ) → AreRising (range_with_len a n)
rising_range zero a = tt
rising_range (suc n) a = ((λ y h. let r = has-range_cases n (a + 1) y h in let l = r.0 in omega arith), rising_range n (a + 1))

pub in_range : (n a i : ℕ) → has (range_with_len a n) i ≡ true → i < a + n
in_range zero a i h = absurd (false≢true h)
in_range (suc n) a i h = elim (has_cases a (range_with_len (a + 1) n) i h) [
  | inl e ↦ (let l : i < a + suc n = omega arith in l)
  | inr t ↦ (let l = in_range n (a + 1) i t in omega arith)
]

-- a range that is longer by one
pub range_push : (a n : ℕ) → range_with_len a (suc n) ≡ range_with_len a n ++ (a + n) ∷ []
range_push a zero = ap (λ k. k ∷ []) (omega arith)
range_push a (suc n) = ap (λ ks. a ∷ ks)
    (range_push (a + 1) n ∙ ap (λ k. range_with_len (a + 1) n ++ k ∷ []) (omega arith))

pub range_more : (n : ℕ) → range_with_len 0 (n + 1) ≡ range_with_len 0 n ++ n ∷ []
range_more n =
    let e : n + 1 ≡ suc n = omega arith in
    let f : 0 + n ≡ n = omega arith in
    ap (range_with_len 0) e ∙ (range_push 0 n ∙ ap (λ (k : ℕ). range_with_len 0 n ++ k ∷ []) f)

pub eqb_comm : (a b : ℕ) → eqb a b ≡ eqb b a
eqb_comm a b = grind arith

pub range-append : (a m n : ℕ) →
    range_with_len a (m + n) ≡ range_with_len a m ++ range_with_len (a + m) n
range-append a zero n =
    let e : 0 + n ≡ n = omega arith in
    let f : a ≡ a + 0 = omega arith in
    λ i. range_with_len (f i) (e i)
range-append a (suc m) n =
    let e : suc m + n ≡ suc (m + n) = omega arith in
    let f : (a + 1) + m ≡ a + suc m = omega arith in
    ap (range_with_len a) e
    ∙ ap (λ xs. a ∷ xs) (range-append (a + 1) m n
    ∙ ap (λ b. range_with_len (a + 1) m ++ range_with_len b n) f)
