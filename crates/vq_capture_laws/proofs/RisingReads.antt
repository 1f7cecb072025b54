-- The steps of a capture that was read stand at lines that rise.
use Rattle.std.proofs.Common.{◌+◌, ℕ, Bool, true, false, List, [], ◌∷◌, if◌then◌else◌, refl, Option, Some, None}
use Rattle.std.specs.Option.{option_map_or}
use Rattle.vq_model.specs.Text.{words_of}
use Rattle.vq_capture.specs.declared.form.Form.{Form}
use Rattle.vq_capture.specs.declared.capture.FaultKind.{FaultKind}
use Rattle.vq_capture.specs.declared.capture.FaultKind.TheVariants.{Syntax}
use Rattle.vq_capture.specs.LineForms.{form_of}
use Rattle.vq_capture.specs.Context.{Above, nothing_above, is_in_batch}
use Rattle.vq_capture.specs.Statements.{with_line, statement, step_of}
use Rattle.vq_capture.specs.LineFaults.{fault_of, are_plain}
use Rattle.vq_capture.specs.Reading.{Took, Leaves, IsFaulty, take_form, take_words, go_on, read_lines, read_capture, ended_lines}
use Rattle.vq_capture_laws.proofs.PointOrder.{AreRising, AreNumbered, numbered_with, numbered_on}

-- what a line leaves is numbered below the next line
abbrev pub IsFit : ℕ → Took → Type 0
IsFit n (Leaves now) = AreNumbered (n + 1) now.steps
IsFit n (IsFaulty kind) = Unit {0}

module _ (above : Above) (n : ℕ) (k : AreNumbered n above.steps) where
  fit_line : (words : List (List ℕ)) (form : Form) → AreNumbered (n + 1) (with_line above n form words).steps
  fit_line words form = numbered_with n above.steps (step_of above n (statement above n form words)) refl k

  fit_form : (words : List (List ℕ)) (form : Form) → IsFit n (take_form above n words form)
  fit_form words form = case (fault_of above n form words)
    where
      case : (o : Option FaultKind) → IsFit n (option_map_or (λ kind. IsFaulty kind) o (Leaves (with_line above n form words)))
      case None = fit_line words form
      case (Some kind) = tt

  fit_words : (words : List (List ℕ)) → IsFit n (take_words above n words)
  fit_words [] = numbered_on n above.steps k
  fit_words (word ∷ words) = by_plain (are_plain (word ∷ words))
    where
      by_form : (o : Option Form) → IsFit n (option_map_or (take_form above n (word ∷ words)) o (IsFaulty Syntax))
      by_form None = tt
      by_form (Some form) = fit_form (word ∷ words) form

      by_plain : (b : Bool) → IsFit n
          (if b then option_map_or (take_form above n (word ∷ words)) (form_of (is_in_batch above) (word ∷ words)) (IsFaulty Syntax) else IsFaulty Syntax)
      by_plain true = by_form (form_of (is_in_batch above) (word ∷ words))
      by_plain false = tt

pub lines_rise : (lines : List (List ℕ)) (above : Above) (n : ℕ) → AreNumbered n above.steps → AreRising (read_lines above n lines).steps
lines_rise [] above n k = k.rising
lines_rise (line ∷ lines) above n k =
    case (take_words above n (words_of line)) (fit_words above n k (words_of line)) (λ now h. lines_rise lines now (n + 1) h)
  where
    case : (took : Took) → IsFit n took →
        ((now : Above) → AreNumbered (n + 1) now.steps → AreRising (read_lines now (n + 1) lines).steps) →
        AreRising (go_on above n (λ now. read_lines now (n + 1) lines) took).steps
    case (Leaves now) f h = h now f
    case (IsFaulty kind) f h = k.rising

pub read_rises : (text : List ℕ) → AreRising (read_capture text).steps
read_rises text = lines_rise (ended_lines text) nothing_above 1 (record { rising = tt; below = λ s m. absurd m })
