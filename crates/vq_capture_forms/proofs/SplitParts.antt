-- The parts of a word, by the place of its first mark.
use Rattle.std.proofs.Common.{◌≡◌, ◌<◌, ◌+◌, ◌-◌, ◌==◌, ℕ, List, [], ◌∷◌, true, length, take, drop, get_or, sym, ◌∙◌, ap, arith}
use Rattle.std.specs.List.{slice_split, position_or_len}
use Rattle.std.proofs.lemmas.List.Splits.{slice_split_first, slice_split_none}
use Rattle.std.proofs.lemmas.List.Sums.{position_or_len_is}
use Rattle.std.proofs.lemmas.Bool.Decides.{nat_tests}
use Rattle.std.proofs.lemmas.Grind.{common_steps}
use Rattle.std.proofs.lemmas.Bool.{ne_eqb}

is_same : (a b : ℕ) → a ≡ b → (a == b) ≡ true
is_same a b e = grind (arith, nat_tests)

first_at : (mark : ℕ) (xs : List ℕ) (i : ℕ) → i < length xs → ((k : ℕ) → k < i → get_or xs k 0 ≡ mark → ⊥) → get_or xs i 0 ≡ mark → position_or_len (λ b. b == mark) xs ≡ i
first_at mark xs i l n e =
    position_or_len_is (λ b. b == mark) xs i 0 (omega arith) (λ k m. ne_eqb (get_or xs k 0) mark (n k m)) (λ m. is_same (get_or xs i 0) mark e)

rest_of : (xs : List ℕ) (i : ℕ) → i < length xs → take (length xs - (i + 1)) (drop (i + 1) xs) ≡ drop (i + 1) xs
rest_of xs i l = grind (arith, common_steps)

pub split_at_mark : (mark : ℕ) (xs : List ℕ) (i : ℕ) → i < length xs → ((k : ℕ) → k < i → get_or xs k 0 ≡ mark → ⊥) → get_or xs i 0 ≡ mark → slice_split (λ b. b == mark) xs ≡ take i xs ∷ slice_split (λ b. b == mark) (take (length xs - (i + 1)) (drop (i + 1) xs))
split_at_mark mark xs i l n e =
    let at : position_or_len (λ b. b == mark) xs ≡ i = first_at mark xs i l n e in
    let within : position_or_len (λ b. b == mark) xs < length xs = omega arith in
    slice_split_first (λ b. b == mark) xs 0 within ∙
    (ap (λ (j : ℕ). take j xs ∷ slice_split (λ b. b == mark) (drop (j + 1) xs)) at ∙
    ap (λ (ys : List ℕ). take i xs ∷ slice_split (λ b. b == mark) ys) (sym (rest_of xs i l)))

pub split_nowhere : (mark : ℕ) (xs : List ℕ) → ((k : ℕ) → k < length xs → get_or xs k 0 ≡ mark → ⊥) → slice_split (λ b. b == mark) xs ≡ xs ∷ []
split_nowhere mark xs n =
    slice_split_none (λ b. b == mark) xs (λ k d l. ne_eqb (get_or xs k d) mark (λ e. n k l (same k d l ∙ e)))
  where
    same : (k d : ℕ) → k < length xs → get_or xs k 0 ≡ get_or xs k d
    same k d l = grind (arith, common_steps)
