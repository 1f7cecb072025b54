-- A line that has a form and a fault comes to that fault, and one without a fault leaves what it adds.
use Rattle.std.proofs.Common.{◌≡◌, ◌<◌, ◌==◌, ◌∙◌, Bool, Bor, true, false, ℕ, List, [], ◌∷◌, Option, Some, None, if◌then◌else◌, sym, ap, arith, length}
use Rattle.std.specs.Option.{option_map_or}
use Rattle.vq_lexer.specs.Words.{texts}
use Rattle.vq_capture.specs.declared.form.Form.{Form}
use Rattle.vq_capture.specs.declared.capture.FaultKind.{FaultKind}
use Rattle.vq_capture.specs.declared.capture.FaultKind.TheVariants.{Syntax}
use Rattle.vq_capture.specs.LineForms.{form_of}
use Rattle.vq_capture.specs.LineFaults.{are_plain, fault_of}
use Rattle.vq_capture.specs.Context.{Above, is_in_batch}
use Rattle.vq_capture.specs.Statements.{with_line}
use Rattle.vq_capture.specs.Reading.{take_words, take_form, Leaves, IsFaulty}

pub faulty : (above : Above) (line : ℕ) (ws : List (List ℕ)) (form : Form) (kind : FaultKind) → 0 < length ws → are_plain ws ≡ true → form_of (is_in_batch above) ws ≡ Some form → fault_of above line form ws ≡ Some kind → take_words above line ws ≡ IsFaulty kind
faulty above line [] form kind l p f k = absurd (omega arith)
faulty above line (w ∷ ws) form kind l p f k =
    ap (λ (b : Bool). if b then option_map_or (take_form above line (w ∷ ws)) (form_of (is_in_batch above) (w ∷ ws)) (IsFaulty Syntax) else IsFaulty Syntax) p
    ∙ (ap (λ (o : Option Form). option_map_or (take_form above line (w ∷ ws)) o (IsFaulty Syntax)) f
    ∙ ap (λ (o : Option FaultKind). option_map_or (λ kind. IsFaulty kind) o (Leaves (with_line above line form (w ∷ ws)))) k)

-- One that has a form and no fault leaves what it adds.
pub faultless : (above now : Above) (line : ℕ) (ws : List (List ℕ)) (form : Form) → 0 < length ws → are_plain ws ≡ true → form_of (is_in_batch above) ws ≡ Some form → fault_of above line form ws ≡ None → now ≡ with_line above line form ws → take_words above line ws ≡ Leaves now
faultless above now line [] form l p f k n = absurd (omega arith)
faultless above now line (w ∷ ws) form l p f k n =
    ap (λ (b : Bool). if b then option_map_or (take_form above line (w ∷ ws)) (form_of (is_in_batch above) (w ∷ ws)) (IsFaulty Syntax) else IsFaulty Syntax) p
    ∙ (ap (λ (o : Option Form). option_map_or (take_form above line (w ∷ ws)) o (IsFaulty Syntax)) f
    ∙ (ap (λ (o : Option FaultKind). option_map_or (λ kind. IsFaulty kind) o (Leaves (with_line above line form (w ∷ ws)))) k
    ∙ ap (λ (a : Above). Leaves a) (sym n)))

-- words that aren't empty
pub some_words : (ws : List (Bor (List ℕ))) (empty : Bool) → empty ≡ (length ws == 0) → empty ≡ false → 0 < length (texts ws)
some_words [] empty e f = absurd (cc)
some_words (w ∷ ws) empty e f = omega arith
