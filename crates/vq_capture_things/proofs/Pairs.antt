-- Pairs compare as the same where both parts are.
use Rattle.std.proofs.Common.{◌≡◌, ℕ, ◌==◌, ◌&&◌, arith}
use Rattle.std.specs.Ordering.{is_eq, nat_cmp, ordering_then}
use Rattle.std.proofs.lemmas.Bool.Decides.{nat_tests}

same_number : (a b : ℕ) → is_eq (nat_cmp a b) ≡ (a == b)
same_number a b = grind (arith, nat_tests)

pub same_pair : (a b p q : ℕ) → is_eq (ordering_then (nat_cmp a p) (nat_cmp b q)) ≡ ((a == p) && (b == q))
same_pair a b p q = grind (arith, nat_tests)
