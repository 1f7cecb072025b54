-- A text has no more lines than bytes.
use Rattle.std.proofs.Common.{ℕ, ◌≤◌, Bool, true, false, cond, List, [], ◌∷◌, length, arith, suc, ◌==◌}
use Rattle.vq_model.specs.Text.{without_empty_end, is_line_feed, lines_of}
use Rattle.std.specs.List.{onto_first, slice_split}
use Rattle.std.specs.Str.Lines.{strip_carriage_return}
use Rattle.std.proofs.lemmas.List.{length-map}

-- one part at most is left of one part
at_most_one : (b : Bool) (part : List ℕ) → length (cond {A = List (List ℕ)} b [] (part ∷ [])) ≤ 1
at_most_one true part = omega arith
at_most_one false part = omega arith

-- a line feed before parts makes one more
one_more : (parts : List (List ℕ)) (n : ℕ) → length (without_empty_end parts) ≤ n →
    length (without_empty_end ([] ∷ parts)) ≤ suc n
one_more [] n l = omega arith
one_more (part ∷ parts) n l = omega arith

-- another byte before them makes no more where there are some
no_more : (x : ℕ) (parts : List (List ℕ)) (n : ℕ) → length (without_empty_end parts) ≤ n →
    length (without_empty_end (onto_first x parts)) ≤ suc n
no_more x [] n l = let one = at_most_one (length (x ∷ []) == 0) (x ∷ []) in omega arith
no_more x (part ∷ []) n l = let one = at_most_one (length (x ∷ part) == 0) (x ∷ part) in omega arith
no_more x (part ∷ next ∷ parts) n l = omega arith

few_parts : (text : List ℕ) →
    length (without_empty_end (slice_split is_line_feed text)) ≤ length text
few_parts [] = omega arith
few_parts (x ∷ text) = by_test (is_line_feed x) (few_parts text)
  where
    by_test : (b : Bool) →
        length (without_empty_end (slice_split is_line_feed text)) ≤ length text →
        length (without_empty_end
        (cond b ([] ∷ slice_split is_line_feed text)
        (onto_first x (slice_split is_line_feed text)))) ≤ suc (length text)
    by_test true l = one_more (slice_split is_line_feed text) (length text) l
    by_test false l = no_more x (slice_split is_line_feed text) (length text) l

-- A text has no more lines than bytes.
pub few_lines : (text : List ℕ) → length (lines_of text) ≤ length text
few_lines text =
    let l = few_parts text in
    let m = length-map (without_empty_end (slice_split is_line_feed text)) strip_carriage_return in
    omega arith
