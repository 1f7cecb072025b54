-- Tests of two numbers, and what they say.
use Rattle.std.proofs.Common.{◌≡◌, ℕ, ◌<◌, ◌≤◌, true, false, arith}
use Rattle.std.specs.Prelude.{nat_le, nat_lt}
use Rattle.std.proofs.lemmas.Bool.Decides.{nat_tests}

pub below_test : (a b : ℕ) → a < b → nat_lt a b ≡ true
below_test a b l = grind (arith, nat_tests)

pub not_below_test : (a b : ℕ) → b ≤ a → nat_lt a b ≡ false
not_below_test a b l = grind (arith, nat_tests)

pub below_of_test : (a b : ℕ) → nat_lt a b ≡ true → a < b
below_of_test a b h = grind (arith, nat_tests)

pub at_least_of_test : (a b : ℕ) → nat_lt a b ≡ false → b ≤ a
at_least_of_test a b h = grind (arith, nat_tests)

pub at_most_test : (a b : ℕ) → a ≤ b → nat_le a b ≡ true
at_most_test a b l = grind (arith, nat_tests)

pub above_test : (a b : ℕ) → b < a → nat_le a b ≡ false
above_test a b l = grind (arith, nat_tests)

pub above_of_test : (a b : ℕ) → nat_le a b ≡ false → b < a
above_of_test a b h = grind (arith, nat_tests)
