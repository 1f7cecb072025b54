-- Sets of lanes as bits.
use Rattle.std.proofs.Common.{zero, suc, ◌≡◌, ◌<◌, ◌≤◌, ◌+◌, ◌*◌, ◌%◌, ◌^◌, ◌∙◌, Bool, true, false, ℕ, min, max, refl, sym, ap, arith}
use Rattle.std.specs.Prelude.{◌==◌, ◌&&◌, ◌||◌, not, if◌then◌else◌}
use Rattle.std.specs.Int.{bit_at}
use Rattle.std.specs.Prelude.{bit_and, bit_or, bit_xor}
use Rattle.std.proofs.lemmas.Nat.Bits.{bit_at_and, bit_at_or, bit_at_xor, bit_at-lt, bit_at-pow_same, bit_at-pow_other, bit_at-zero}
use Rattle.std.proofs.lemmas.Bool.{eqb-true, eq-eqb}
use Rattle.std.proofs.Common.{pow_mono}
use Rattle.vq_ground.proofs.Bools.{never}
use Rattle.vq_capture_clocks.specs.LaneSets.{has_lane}

-- a bit is 0 or 1
cases : (P : ℕ → Type 0) (n : ℕ) → n < 2 → P 0 → P 1 → P n
cases P zero l p q = p
cases P (suc zero) l p q = q
cases P (suc (suc n)) l p q = absurd (omega arith)

pub in_both : (a b p : ℕ) → has_lane (bit_and a b) p ≡ (has_lane a p && has_lane b p)
in_both a b p =
    ap (λ (n : ℕ). n == 1) (bit_at_and a b p)
    ∙ cases (λ (m : ℕ). (min m (bit_at b p) == 1) ≡ ((m == 1) && has_lane b p)) (bit_at a p) (bit_at-lt a p)
    (cases (λ (n : ℕ). (min 0 n == 1) ≡ false) (bit_at b p) (bit_at-lt b p) refl refl)
    (cases (λ (n : ℕ). (min 1 n == 1) ≡ (n == 1)) (bit_at b p) (bit_at-lt b p) refl refl)

pub in_either : (a b p : ℕ) → has_lane (bit_or a b) p ≡ (has_lane a p || has_lane b p)
in_either a b p =
    ap (λ (n : ℕ). n == 1) (bit_at_or a b p)
    ∙ cases (λ (m : ℕ). (max m (bit_at b p) == 1) ≡ ((m == 1) || has_lane b p)) (bit_at a p) (bit_at-lt a p)
    (cases (λ (n : ℕ). (max 0 n == 1) ≡ (n == 1)) (bit_at b p) (bit_at-lt b p) refl refl)
    (cases (λ (n : ℕ). (max 1 n == 1) ≡ true) (bit_at b p) (bit_at-lt b p) refl refl)

in_one : (a b p : ℕ) → has_lane (bit_xor a b) p ≡ (if has_lane a p then not (has_lane b p) else has_lane b p)
in_one a b p =
    ap (λ (n : ℕ). n == 1) (bit_at_xor a b p)
    ∙ cases (λ (m : ℕ). ((m + bit_at b p) % 2 == 1) ≡ (if m == 1 then not (has_lane b p) else has_lane b p)) (bit_at a p) (bit_at-lt a p)
    (cases (λ (n : ℕ). ((0 + n) % 2 == 1) ≡ (n == 1)) (bit_at b p) (bit_at-lt b p) refl refl)
    (cases (λ (n : ℕ). ((1 + n) % 2 == 1) ≡ not (n == 1)) (bit_at b p) (bit_at-lt b p) refl refl)

pub in_rest : (a b p : ℕ) → has_lane (bit_xor a (bit_and a b)) p ≡ (has_lane a p && not (has_lane b p))
in_rest a b p =
    in_one a (bit_and a b) p
    ∙ (ap (λ (t : Bool). if has_lane a p then not t else t) (in_both a b p) ∙ by (has_lane a p) (has_lane b p))
  where
    by : (s t : Bool) → (if s then not (s && t) else (s && t)) ≡ (s && not t)
    by true t = refl
    by false t = refl

pub in_single : (k p : ℕ) → k < 16 → has_lane (1 * 2 ^ k % 65536) p ≡ (p == k)
in_single k p l =
    ap (λ (n : ℕ). has_lane n p) exact ∙ by (p == k) refl
  where
    exact : 1 * 2 ^ k % 65536 ≡ 2 ^ k
    exact =
        let low = pow_below k l in
        omega arith
      where
        pow_below : (k : ℕ) → k < 16 → 2 ^ k < 65536
        pow_below k l = let m : 2 ^ k ≤ 2 ^ 15 = pow_mono {i = k} {j = 15} (omega arith) in omega arith

    by : (t : Bool) → (p == k) ≡ t → has_lane (2 ^ k) p ≡ t
    by true e = ap (λ (q : ℕ). has_lane (2 ^ k) q) (eqb-true p k e) ∙ ap (λ (n : ℕ). n == 1) (bit_at-pow_same k)
    by false e = ap (λ (n : ℕ). n == 1) (bit_at-pow_other k p (λ q. never (sym e ∙ eq-eqb p k q)))

pub in_nothing : (p : ℕ) → has_lane 0 p ≡ false
in_nothing p = ap (λ (n : ℕ). n == 1) (bit_at-zero p)
