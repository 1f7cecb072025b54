-- Lists of bytes: the tests that they are the same, and the digits of numbers.
use Rattle.std.proofs.Common.{◌≡◌, ◌∙◌, ℕ, true, List, refl, sym, ◌≤◌, ◌<◌, ◌^◌, arith, decimal, length}
use Rattle.std.specs.Str.{bytes_eq}
use Rattle.std.proofs.lemmas.Slice.Eq.{bytes_eq-Decides}
use Rattle.std.specs.Ordering.{is_eq, nat_cmp}
use Rattle.std.specs.Cmp.Lexicographic.{slice_cmp}
use Rattle.std.proofs.lemmas.Map.Text.{is_eq-slice_cmp}
use Rattle.std.proofs.lemmas.Fmt.{length-decimal-le}

-- bytes are the same as themselves
pub same_bytes : (name : List ℕ) → bytes_eq name name ≡ true
same_bytes name = (bytes_eq-Decides name name).1 refl

-- bytes that compare as the same are
pub bytes_by_order : (xs ys : List ℕ) → is_eq (slice_cmp nat_cmp xs ys) ≡ true → xs ≡ ys
bytes_by_order xs ys h = (bytes_eq-Decides xs ys).0 (sym (is_eq-slice_cmp xs ys) ∙ h)

-- a number below 2 ^ 32 has at most ten digits
pub few_digits : (n number : ℕ) → number ≡ n → n < 2 ^ 32 → length (decimal number) ≤ 10
few_digits n number same small = length-decimal-le 10 number (omega arith) (omega arith) (omega arith)
