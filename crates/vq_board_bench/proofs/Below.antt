-- The numbers below another, and the points of the same numbers.
use Rattle.std.proofs.Common.{ℕ, zero, suc, ◌≡◌, ◌<◌, ◌≤◌, eqb, true, false, ◌∷◌, length, refl, ap, subst, inl, inr, arith}
use mathlib.Core.Logic.{dite}
use native.Mathlib.Decide.{ℕ_discrete}
use Rattle.std.proofs.lemmas.Bool.{or_from, ne_eqb}
use Rattle.vq_ground.specs.Lists.{has}
use Rattle.vq_ground.proofs.Lists.{has_here, has_there}
use Rattle.vq_board_laws.specs.declared.view.Reference.{Reference}
use Rattle.vq_board_laws.specs.Points.{reference, Lists}
use Rattle.vq_board_bench.specs.Rows.{below, pairs}

pub has_below : (n i : ℕ) → i < n → has (below n) i ≡ true
has_below zero i h = absurd (omega arith)
has_below (suc n) i h =
    dite (ℕ_discrete n i)
    (λ e. subst (λ (k : ℕ). has (n ∷ below n) k ≡ true) e (has_here n (below n)))
    (λ ne. has_there n (below n) i (has_below n i (omega arith)))

pub not_below : (n i : ℕ) → n ≤ i → has (below n) i ≡ false
not_below zero i h = refl
not_below (suc n) i h = or_from (eqb n i) (has (below n) i) (ne_eqb n i (λ e. omega arith)) (not_below n i (omega arith))

pub length_below : (n : ℕ) → length (below n) ≡ n
length_below zero = refl
length_below (suc n) = ap suc (length_below n)

-- the points below n carry the operations of their numbers, and no others
pub pairs_list : (n i : ℕ) → i < n → Lists (pairs n) (reference i i)
pairs_list zero i h = absurd (omega arith)
pairs_list (suc n) i h =
    dite (ℕ_discrete n i)
    (λ e. inl (ap (λ (k : ℕ). reference k k) e))
    (λ ne. inr (pairs_list n i (omega arith)))

pub point_beyond : (n q e : ℕ) → n ≤ q → ¬ Lists (pairs n) (reference q e)
point_beyond zero q e h l = l
point_beyond (suc n) q e h (inl same) = let at : n ≡ q = ap (λ (r : Reference). r.point) same in absurd (omega arith)
point_beyond (suc n) q e h (inr l) = point_beyond n q e (omega arith) l

pub op_beyond : (n q e : ℕ) → n ≤ e → ¬ Lists (pairs n) (reference q e)
op_beyond zero q e h l = l
op_beyond (suc n) q e h (inl same) = let at : n ≡ e = ap (λ (r : Reference). r.op) same in absurd (omega arith)
op_beyond (suc n) q e h (inr l) = op_beyond n q e (omega arith) l
