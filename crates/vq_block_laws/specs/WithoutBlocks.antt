-- A text without its blocks: their lines are emptied, so that all others keep their numbers. This project's own.
use Rattle.std.specs.Prelude.{ℕ, ◌+◌, ◌++◌, List, [], ◌∷◌, if◌then◌else◌}
use Rattle.std.specs.List.{flat_map}
use Rattle.vq_model.specs.Text.{words_of, lines_of}
use Rattle.vq_blocks.specs.Blocks.{Told, nothing_told, is_of_block, told_with}

-- what is told with line n; a line without words tells nothing
abbrev pub told_after : Told → ℕ → List (List ℕ) → Told
told_after told n [] = told
told_after told n (word ∷ words) = told_with told n (word ∷ words)

-- lines that are numbered from n on, with those of blocks emptied
abbrev pub lines_without : Told → ℕ → List (List ℕ) → List (List ℕ)
lines_without told n [] = []
lines_without told n (line ∷ lines) =
    (if is_of_block told (words_of line) then [] else line)
    ∷ lines_without (told_after told n (words_of line)) (n + 1) lines

-- a line with its end: a carriage return, so that one which belongs to the line stays in it, and a line feed
abbrev pub ended_line : List ℕ → List ℕ
ended_line line = line ++ 13 ∷ 10 ∷ []

-- The text, with the lines of its blocks emptied.
abbrev pub without_blocks : List ℕ → List ℕ
without_blocks text = flat_map ended_line (lines_without nothing_told 1 (lines_of text))
