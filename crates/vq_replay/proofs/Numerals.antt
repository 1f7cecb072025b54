-- The text of a number, two, four and eight digits at a time.
use Rattle.std.proofs.Common.{◌≡◌, ℕ, zero, suc, ◌+◌, ◌-◌, ◌*◌, ◌/◌, ◌%◌, ◌^◌, ◌<◌, ◌≤◌, Bool, true, ◌&&◌, T, eqb, List, [], ◌∷◌, ◌++◌}
use Rattle.std.proofs.Common.{length, get_or, refl, ap, ◌∙◌, inl, inr, arith, eq-zero-or-pos, eqb→eq, append_assoc, length-set, set, take}
use Rattle.std.proofs.lemmas.List.{take_more_set}
use Rattle.std.proofs.lemmas.Fmt.{decimal_digit, decimal_step}
use Rattle.std.specs.Fmt.{decimal}
use lib.Ieee.Fits.{and_l, and_r}
use Rattle.vq_replay.specs.Digits.{eight_digits, four_digits, two_digits}
use Rattle.vq_replay.specs.declared.digits.TheConstants.{PAIRS}

abbrev are_pairs : ℕ → Bool
are_pairs zero = true
are_pairs (suc p) =
    (eqb (get_or PAIRS (p * 2) 0) (48 + p / 10) && eqb (get_or PAIRS (p * 2 + 1) 0) (48 + p % 10)) && are_pairs p

below : (n p : ℕ) → T (are_pairs n) → p < n →
    (get_or PAIRS (p * 2) 0 ≡ 48 + p / 10) × (get_or PAIRS (p * 2 + 1) 0 ≡ 48 + p % 10)
below zero p t h = absurd (omega arith)
below (suc n) p t h =
    elim (eq-zero-or-pos (n - p)) [
      | inl z ↦
          let e : p ≡ n = omega arith in
          let a = and_l _ (are_pairs n) t in rw e (eqb→eq _ _ (and_l _ _ a), eqb→eq _ _ (and_r _ _ a))
      | inr g ↦ below n p (and_r _ (are_pairs n) t) (omega arith)
    ]

-- what stands in the table of pairs
pub pairs_at : (p : ℕ) → p < 100 → (get_or PAIRS (p * 2) 0 ≡ 48 + p / 10) × (get_or PAIRS (p * 2 + 1) 0 ≡ 48 + p % 10)
pairs_at p h = below 100 p tt h

pub decimal_two : (n : ℕ) → 10 ≤ n → n < 100 → decimal n ≡ two_digits n
decimal_two n lo hi = rw (decimal_step n lo (omega arith), decimal_digit (n / 10) (omega arith))

pub decimal_pair : (n : ℕ) → 100 ≤ n → n < 2 ^ 64 → decimal n ≡ decimal (n / 100) ++ two_digits (n % 100)
decimal_pair n lo hi =
    let a : n / 10 / 10 ≡ n / 100 = omega arith in
    let b : n / 10 % 10 ≡ n % 100 / 10 = omega arith in
    let c : n % 10 ≡ n % 100 % 10 = omega arith in
    rw (decimal_step n (omega arith) hi, decimal_step (n / 10) (omega arith) (omega arith), append_assoc, a, b, ← c)

pub decimal_four : (n : ℕ) → 10000 ≤ n → n < 2 ^ 64 → decimal n ≡ decimal (n / 10000) ++ four_digits (n % 10000)
decimal_four n lo hi =
    let a : n / 100 / 100 ≡ n / 10000 = omega arith in
    let b : n / 100 % 100 ≡ n % 10000 / 100 = omega arith in
    let c : n % 10000 % 100 ≡ n % 100 = omega arith in
    rw (decimal_pair n (omega arith) hi, decimal_pair (n / 100) (omega arith) (omega arith), append_assoc, a, b, c)

pub decimal_eight : (n : ℕ) → 100000000 ≤ n → n < 2 ^ 64 →
    decimal n ≡ decimal (n / 100000000) ++ eight_digits (n % 100000000)
decimal_eight n lo hi =
    let a : n / 10000 / 10000 ≡ n / 100000000 = omega arith in
    let b : n / 10000 % 10000 ≡ n % 100000000 / 10000 = omega arith in
    let c : n % 100000000 % 10000 ≡ n % 10000 = omega arith in
    rw (decimal_four n (omega arith) hi, decimal_four (n / 10000) (omega arith) (omega arith), append_assoc, a, b, c)

-- Two digits that are put into a room.
pub put_two : (room : List ℕ) (at x y tens ones : ℕ) → x ≡ tens → y ≡ ones → at + 2 ≤ length room →
    take (at + 2) (set (set room at x) (at + 1) y) ≡ take at room ++ tens ∷ ones ∷ []
put_two room at x y tens ones s t within =
    let more = length-set room at x in
    let e : at + 2 ≡ at + 1 + 1 = omega arith in
    ap (λ (n : ℕ). take n (set (set room at x) (at + 1) y)) e
    ∙ (take_more_set (set room at x) (at + 1) y (omega arith)
    ∙ (ap (λ (xs : List ℕ). xs ++ y ∷ []) (take_more_set room at x (omega arith))
    ∙ (append_assoc (take at room) (x ∷ []) (y ∷ [])
    ∙ (λ i. take at room ++ s i ∷ t i ∷ []))))
