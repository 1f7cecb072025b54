-- Where a text is cut into a script and a trace. The format is this project's own.
use Rattle.std.specs.Prelude.{ℕ, Bool, true, false, List, [], ◌∷◌, ◌+◌, ◌++◌, ◌≡◌, length, codes, not}
use Rattle.std.specs.Str.{bytes_eq}
use Rattle.std.specs.List.{list_all}
use Rattle.vq_model.specs.Text.{words_of, lines_of}
use Rattle.vq_given.specs.declared.given.Cut.{Cut}

-- a line with the one word `trace`
abbrev pub is_cut_line : List ℕ → Bool
is_cut_line line = by_words (words_of line)
  where
    by_words : List (List ℕ) → Bool
    by_words (word ∷ []) = bytes_eq word (codes "trace")
    by_words words = false

-- no line of a text cuts it
abbrev pub IsUncut : List ℕ → Type 0
IsUncut text = list_all (λ line. not (is_cut_line line)) (lines_of text) ≡ true

-- Whole lines: nothing, or a text that ends with a line feed.
pub data AreWholeLines (text : List ℕ) : Type 0 where
  Nothing : text ≡ [] → AreWholeLines text
  Ended : (before : List ℕ) → text ≡ before ++ 10 ∷ [] → AreWholeLines text

-- Where the text has a line feed after a line, or ends.
pub data IsWholeLine (line : List ℕ) (rest : List ℕ) : Type 0 where
  Fed : (before : List ℕ) → line ≡ before ++ 10 ∷ [] → IsWholeLine line rest
  Last : rest ≡ [] → IsWholeLine line rest

-- The first line that cuts a text: the script is what stands before it, and the trace what follows.
pub record IsCut (text : List ℕ) (cut : Cut) : Type 0 where
  pub script : List ℕ
  pub line : List ℕ
  pub trace : List ℕ
  pub parts : text ≡ script ++ line ++ trace
  pub script_end : cut.script_end ≡ length script
  pub trace_start : cut.trace_start ≡ length script + length line
  pub before : AreWholeLines script
  pub uncut : IsUncut script
  pub cutting : List ℕ
  pub one_line : lines_of line ≡ cutting ∷ []
  pub cuts : is_cut_line cutting ≡ true
  pub whole : IsWholeLine line trace
  pub first : cut.first ≡ length (lines_of script) + 2
