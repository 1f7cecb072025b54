-- A list that was sorted and freed of doubles has what it had.
use Rattle.std.proofs.Common.{◌≡◌, ℕ, eqb, true, List, sym, ◌∙◌, subst}
use Rattle.std.specs.List.{Contains, dedup}
use Rattle.std.specs.List.Sorted.{IsNonDecreasing, IsPermutation, IsSorted}
use Rattle.std.specs.Ordering.{nat_cmp}
use Rattle.std.proofs.lemmas.Grind.{get_or_default_zero}
use Rattle.std.proofs.lemmas.List.Kept.{Contains-dedup_nat}
use Rattle.std.proofs.lemmas.List.Sorted.{Contains-permutation}
use Rattle.std.proofs.lemmas.Map.Keys.{IsStrictlyIncreasing-dedup, non_decreasing_from_sorted, sorted_from_strictly_increasing}
use Rattle.vq_ground.specs.Lists.{has}
use Rattle.vq_ground.proofs.Positions.{place}
use Rattle.vq_clocks.proofs.SlowFacts.{at_place, place_within}

pub has_contains : (xs : List ℕ) (x : ℕ) → has xs x ≡ true → Contains xs x
has_contains xs x h =
    let l = place_within xs x h in
    (place xs x, l, get_or_default_zero xs (place xs x) x l ∙ at_place xs x l)

-- after a sort and a removal of doubles
pub sorted_once : (xs ys zs : List ℕ) → IsPermutation xs ys → IsSorted nat_cmp ys → zs ≡ dedup eqb ys → IsNonDecreasing zs × ((x : ℕ) → has xs x ≡ true → Contains zs x)
sorted_once xs ys zs p s d = (
  subst (λ (ws : List ℕ). IsNonDecreasing ws) (sym d) (non_decreasing_from_sorted (dedup eqb ys) (sorted_from_strictly_increasing (dedup eqb ys) (IsStrictlyIncreasing-dedup ys s))),
  (λ x h. subst (λ (ws : List ℕ). Contains ws x) (sym d) (Contains-dedup_nat ys x (Contains-permutation xs ys x p (has_contains xs x h)))),
)
