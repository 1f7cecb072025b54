-- The lines of a text that is written with an end behind each line are these lines.
use Rattle.std.proofs.Common.{ℕ, zero, suc, ◌≡◌, ◌==◌, ◌-◌, ◌+◌, Bool, true, false, not, cond, List, [], ◌∷◌, ◌++◌, append_assoc, length, length-append, map, take, refl, sym, ap, ◌∙◌, arith}
use Rattle.std.specs.Prelude.{slice_index}
use Rattle.std.specs.List.{AllByRecursion as Every, list_all, flat_map, slice_split, onto_first}
use Rattle.std.specs.Str.Lines.{strip_carriage_return}
use Rattle.std.proofs.Math.Seq.{take-append_seam}
use Rattle.std.proofs.lemmas.Bool.{and_parts, and_from}
use Rattle.std.proofs.lemmas.List.Folds.{list_all-append}
use Rattle.vq_model.specs.Text.{is_line_feed, lines_of, words_of, without_empty_end}
use Rattle.vq_canonical_laws.proofs.Cited.{split_part, empty_end}
use Rattle.vq_blocks.specs.Blocks.{Told, nothing_told, is_of_block}
use Rattle.vq_block_laws.specs.WithoutBlocks.{told_after, lines_without, ended_line, without_blocks}

-- Lines without line feeds

-- no byte of a line is a line feed
abbrev IsOneLine : List ℕ → Type 0
IsOneLine line = list_all (λ b. not (is_line_feed b)) line ≡ true

-- each of these is one line
abbrev AreLines : List (List ℕ) → Type 0
AreLines lines = Every IsOneLine lines

first_more : (x : ℕ) (parts : List (List ℕ)) → not (is_line_feed x) ≡ true → AreLines parts →
    AreLines (onto_first x parts)
first_more x [] h k = (and_from (not (is_line_feed x)) true h refl, tt)
first_more x (part ∷ parts) h k = (
  and_from (not (is_line_feed x)) (list_all (λ b. not (is_line_feed b)) part) h k.0,
  k.1,
)

parts_lines : (text : List ℕ) → AreLines (slice_split is_line_feed text)
parts_lines [] = (refl, tt)
parts_lines (x ∷ text) = by_test (is_line_feed x) refl (parts_lines text)
  where
    by_test : (b : Bool) → is_line_feed x ≡ b → AreLines (slice_split is_line_feed text) →
        AreLines (cond b ([] ∷ slice_split is_line_feed text) (onto_first x (slice_split is_line_feed text)))
    by_test true e k = (refl, k)
    by_test false e k = first_more x (slice_split is_line_feed text) (ap not e) k

ends_lines : (parts : List (List ℕ)) → AreLines parts → AreLines (without_empty_end parts)
ends_lines [] h = tt
ends_lines (part ∷ []) h = by_test (length part == 0)
  where
    by_test : (b : Bool) → AreLines (cond b [] (part ∷ []))
    by_test true = tt
    by_test false = h
ends_lines (part ∷ next ∷ parts) h = (h.0, ends_lines (next ∷ parts) h.1)

taken_line : (n : ℕ) (line : List ℕ) → IsOneLine line → IsOneLine (take n line)
taken_line zero line h = refl
taken_line (suc n) [] h = refl
taken_line (suc n) (x ∷ line) h =
    let both = and_parts (not (is_line_feed x)) (list_all (λ b. not (is_line_feed b)) line) h in
    and_from (not (is_line_feed x)) (list_all (λ b. not (is_line_feed b)) (take n line)) both.0
    (taken_line n line both.1)

stripped_lines : (parts : List (List ℕ)) → AreLines parts → AreLines (map strip_carriage_return parts)
stripped_lines [] h = tt
stripped_lines (part ∷ parts) h =
    (by_test (slice_index part (length part - 1) == 13), stripped_lines parts h.1)
  where
    by_test : (b : Bool) → IsOneLine (cond b (take (length part - 1) part) part)
    by_test true = taken_line (length part - 1) part h.0
    by_test false = h.0

text_lines : (text : List ℕ) → AreLines (lines_of text)
text_lines text =
    stripped_lines (without_empty_end (slice_split is_line_feed text))
    (ends_lines (slice_split is_line_feed text) (parts_lines text))

emptied_lines : (told : Told) (n : ℕ) (lines : List (List ℕ)) → AreLines lines →
    AreLines (lines_without told n lines)
emptied_lines told n [] h = tt
emptied_lines told n (line ∷ lines) h = (
  by_test (is_of_block told (words_of line)),
  emptied_lines (told_after told n (words_of line)) (n + 1) lines h.1,
)
  where
    by_test : (b : Bool) → IsOneLine (cond b [] line)
    by_test true = refl
    by_test false = h.0

-- Lines with ends

-- the one carriage return of a line's end is cut off
return_last : (line : List ℕ) → slice_index (line ++ 13 ∷ []) (length line) ≡ 13
return_last [] = refl
return_last (b ∷ line) = return_last line

return_cut : (line : List ℕ) → strip_carriage_return (line ++ 13 ∷ []) ≡ line
return_cut line =
    let long = length-append line (13 ∷ []) in
    let last : length (line ++ 13 ∷ []) - 1 ≡ length line = omega arith in
    (λ i. cond (slice_index (line ++ 13 ∷ []) (last i) == 13) (take (last i) (line ++ 13 ∷ [])) (line ++ 13 ∷ []))
    ∙ (ap (λ (b : ℕ). cond (b == 13) (take (length line) (line ++ 13 ∷ [])) (line ++ 13 ∷ [])) (return_last line)
    ∙ take-append_seam line (13 ∷ []))

with_return : (line : List ℕ) → IsOneLine line → IsOneLine (line ++ 13 ∷ [])
with_return line h =
    list_all-append (λ b. not (is_line_feed b)) line (13 ∷ [])
    ∙ and_from (list_all (λ b. not (is_line_feed b)) line) true h refl

-- the parts of lines with ends
ended_split : (lines : List (List ℕ)) → AreLines lines →
    slice_split is_line_feed (flat_map ended_line lines) ≡ map (λ line. line ++ 13 ∷ []) lines ++ [] ∷ []
ended_split [] h = refl
ended_split (line ∷ lines) h =
    let rest = flat_map ended_line lines in
    ap (slice_split is_line_feed)
    (append_assoc line (13 ∷ 10 ∷ []) rest ∙ sym (append_assoc line (13 ∷ []) (10 ∷ rest)))
    ∙ (split_part is_line_feed (line ++ 13 ∷ []) rest 10 (with_return line h.0) refl
    ∙ ap (λ (ls : List (List ℕ)). (line ++ 13 ∷ []) ∷ ls) (ended_split lines h.1))

returns_cut : (lines : List (List ℕ)) → map strip_carriage_return (map (λ line. line ++ 13 ∷ []) lines) ≡ lines
returns_cut [] = refl
returns_cut (line ∷ lines) = λ i. return_cut line i ∷ returns_cut lines i

ended_back : (lines : List (List ℕ)) → AreLines lines → lines_of (flat_map ended_line lines) ≡ lines
ended_back lines h =
    ap (λ (parts : List (List ℕ)). map strip_carriage_return (without_empty_end parts)) (ended_split lines h)
    ∙ (ap (map strip_carriage_return) (empty_end (map (λ line. line ++ 13 ∷ []) lines)) ∙ returns_cut lines)

-- The lines of a text without its blocks are its lines, with those of blocks emptied.
pub emptied_back : (text : List ℕ) → lines_of (without_blocks text) ≡ lines_without nothing_told 1 (lines_of text)
emptied_back text =
    ended_back (lines_without nothing_told 1 (lines_of text))
    (emptied_lines nothing_told 1 (lines_of text) (text_lines text))
