-- How the lines of a text follow from its first line.
use Rattle.std.proofs.Common.{◌≡◌, ℕ, ◌+◌, ◌<◌, Bool, true, false, cond, eqb, List, [], ◌∷◌, length, take, drop, map, arith, refl, ap, ◌∙◌}
use Rattle.std.specs.List.{slice_split, onto_first, position_or_len, All}
use Rattle.std.specs.Str.Lines.{strip_carriage_return}
use Rattle.std.proofs.lemmas.List.Splits.{slice_split_first, slice_split_none}
use Rattle.std.proofs.lemmas.Bool.Decides.{nat_tests}
use Rattle.vq_model.specs.Text.{lines_of, without_empty_end, is_line_feed}

-- a split has a first part
pub split_has_first : {X : Type 0} (p : X → Bool) (xs : List X) → (part : List X) × (parts : List (List X)) × (slice_split p xs ≡ part ∷ parts)
split_has_first p [] = ([], [], refl)
split_has_first {X} p (x ∷ xs) = by_test (p x) (split_has_first p xs)
  where
    by_test : (b : Bool) → ((part : List X) × (parts : List (List X)) × (slice_split p xs ≡ part ∷ parts)) → (part : List X) × (parts : List (List X)) × (cond b ([] ∷ slice_split p xs) (onto_first x (slice_split p xs)) ≡ part ∷ parts)
    by_test true h = ([], slice_split p xs, refl)
    by_test false h = (x ∷ h.0, h.1, ap (onto_first x) h.2)

-- a part before another is kept
kept_front : (part : List ℕ) (parts : List (List ℕ)) → ((first : List ℕ) × (rest : List (List ℕ)) × (parts ≡ first ∷ rest)) → without_empty_end (part ∷ parts) ≡ part ∷ without_empty_end parts
kept_front part parts h = rw h.2 refl

-- the first line ends at a line feed
pub lines_of-next : (text : List ℕ) → position_or_len is_line_feed text < length text →
    lines_of text ≡ strip_carriage_return (take (position_or_len is_line_feed text) text) ∷ lines_of (drop (position_or_len is_line_feed text + 1) text)
lines_of-next text h =
    ap (λ parts. map strip_carriage_return (without_empty_end parts)) (slice_split_first is_line_feed text 0 h)
    ∙ ap (map strip_carriage_return) (kept_front _ _ (split_has_first is_line_feed (drop (position_or_len is_line_feed text + 1) text)))

-- the last line ends with the text
pub lines_of-last : (text : List ℕ) → 0 < length text → All (λ b. is_line_feed b ≡ false) text → lines_of text ≡ strip_carriage_return text ∷ []
lines_of-last text some none =
    let empty : eqb (length text) 0 ≡ false = grind (arith, nat_tests) in
    rw (slice_split_none is_line_feed text none, empty) refl
