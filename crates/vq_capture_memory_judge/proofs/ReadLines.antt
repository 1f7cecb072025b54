-- Reading goes on from line to line.
use Rattle.std.proofs.Common.{◌≡◌, ◌∙◌, ◌+◌, ℕ, List, [], ◌∷◌, ◌++◌, refl, sym, ap}
use Rattle.std.proofs.lemmas.List.{append-nil}
use Rattle.vq_model.specs.Text.{words_of}
use Rattle.vq_capture.specs.declared.capture.Step.{Step}
use Rattle.vq_capture.specs.declared.capture.FaultKind.{FaultKind}
use Rattle.vq_capture.specs.Context.{Above}
use Rattle.vq_capture.specs.Reading.{Read, Took, Leaves, IsFaulty, take_words, go_on, read_lines, ended_lines}

-- what follows a text's first line may be nothing
first_ended : (rest part behind : List ℕ) → ((more : List ℕ) → ended_lines (rest ++ more) ≡ part ∷ ended_lines (behind ++ more)) → ended_lines rest ≡ part ∷ ended_lines behind
first_ended rest part behind f =
    ap (λ (t : List ℕ). ended_lines t) (sym (append-nil rest))
    ∙ (f [] ∙ ap (λ (t : List ℕ). part ∷ ended_lines t) (append-nil behind))

module _ (above : Above) (line : ℕ) (read : Read) (rest : List ℕ) (is : read_lines above line (ended_lines rest) ≡ read) where
  pub at_end : ended_lines rest ≡ [] → read.steps ≡ above.steps
  at_end e =
      ap (λ (r : Read). r.steps) (sym is ∙ ap (λ (ls : List (List ℕ)). read_lines above line ls) e)

  module _ (part behind : List ℕ) (first : (more : List ℕ) → ended_lines (rest ++ more) ≡ part ∷ ended_lines (behind ++ more)) where
    line_read : read ≡ go_on above line (λ now. read_lines now (line + 1) (ended_lines behind)) (take_words above line (words_of part))
    line_read = sym is ∙ ap (λ (ls : List (List ℕ)). read_lines above line ls) (first_ended rest part behind first)

    pub at_fault : (kind : FaultKind) → take_words above line (words_of part) ≡ IsFaulty kind → read.steps ≡ above.steps
    at_fault kind e =
        ap (λ (r : Read). r.steps) (line_read ∙ ap (λ (t : Took). go_on above line (λ now. read_lines now (line + 1) (ended_lines behind)) t) e)

    pub goes_on : (now : Above) → take_words above line (words_of part) ≡ Leaves now → read_lines now (line + 1) (ended_lines behind) ≡ read
    goes_on now e =
        sym (line_read ∙ ap (λ (t : Took). go_on above line (λ now. read_lines now (line + 1) (ended_lines behind)) t) e)
