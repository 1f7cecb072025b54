-- What words say, from the form that they have.
use Rattle.std.proofs.Common.{◌≡◌, ℕ, ◌<◌, Bool, true, false, not, ◌||◌, List, [], ◌∷◌, length, map, Option, Some, None, Result, Ok, Err, arith, refl, ap, ◌∙◌}
use Rattle.std.specs.Prelude.{find}
use Rattle.std.specs.List.{list_all}
use Rattle.std.specs.Option.{option_map_or, option_and_then}
use Rattle.vq_model.specs.declared.statement.Line.{Line}
use Rattle.vq_model.specs.declared.statement.Form.{Form}
use Rattle.vq_model.specs.declared.statement.Statement.{Statement}
use Rattle.vq_model.specs.declared.statement.LineForm.{LineForm}
use Rattle.vq_model.specs.declared.statement.FaultKind.{FaultKind}
use Rattle.vq_model.specs.declared.statement.FaultKind.TheVariants.{Syntax, Order, Number, Name, Twice, Range, Overlap, Limit}
use Rattle.vq_model.specs.Text.{is_plain}
use Rattle.vq_model.specs.Forms.{places}
use Rattle.vq_model.specs.Context.{number_at, is_declared, buffers}
use Rattle.vq_model.specs.Earlier.{earlier}
use Rattle.vq_model.specs.LineFaults.{fails, is_shaped, is_numeric, is_known, is_new, is_out_of_order, is_in_range, overlaps, passes_limit, kinds, fault_of}
use Rattle.vq_model.specs.Meaning.{matches, form_of, statement_of, open_places, meaning}
use Rattle.vq_model.specs.Reading.{read_statement, with_line, without_fault}
use Rattle.vq_script.specs.declared.known.Known.{Known}
use Rattle.vq_script.specs.declared.fault.ScriptFault.{ScriptFault}
use Rattle.vq_script.specs.declared.fault.ScriptFault.TheVariants.{At, Memory}
use Rattle.vq_script.specs.Faults.{first_fault, statement_at, with_words}
use Rattle.vq_script.specs.Reads.{Takes, Reads}

-- what words say, where their bytes are plain or not and they have a form or none
abbrev meaning_with : List Line → List (List ℕ) → Option LineForm → Option Statement
meaning_with before words form =
    option_and_then (λ f. statement_of (number_at before) f (map (λ x. x.1) (open_places (places f) words))) form

abbrev has_fault_with : List Line → List (List ℕ) → Bool → Option LineForm → FaultKind → Bool
has_fault_with before words plain form Syntax = not plain || option_map_or (fails is_shaped words) form true
has_fault_with before words plain form Order = option_map_or (is_out_of_order (earlier before)) form false
has_fault_with before words plain form Number = option_map_or (fails is_numeric words) form false
has_fault_with before words plain form Name = option_map_or (fails (is_known (number_at before)) words) form false
has_fault_with before words plain form Twice = option_map_or (fails (is_new (is_declared before)) words) form false
has_fault_with before words plain form Range = option_map_or (λ s. not (is_in_range (earlier before) s)) (meaning_with before words form) false
has_fault_with before words plain form Overlap = option_map_or (overlaps (buffers before)) (meaning_with before words form) false
has_fault_with before words plain form Limit = option_map_or (passes_limit (earlier before)) (meaning_with before words form) false

abbrev fault_with : List Line → List (List ℕ) → Bool → Option LineForm → Option FaultKind
fault_with before words plain form = find (has_fault_with before words plain form) kinds

fault_is : (form : Form) (before : List Line) (words : List (List ℕ)) → fault_of form before words ≡ fault_with before words (list_all (list_all is_plain) words) (form_of form before words)
fault_is form before words = refl

-- words of a form have the faults that the form and its places have
found_fault : (before : List Line) (words : List (List ℕ)) (f : LineForm) → fault_with before words true (Some f) ≡ first_fault before (with_words words f)
found_fault before words f = refl

-- words of no form
pub reads_none : (form : Form) (lines : List Line) (n : ℕ) (words : List (List ℕ))
    (forms : List LineForm) → 0 < length words → list_all (list_all is_plain) words ≡ true →
    form_of form lines words ≡ find (matches words) forms →
    find (matches words) forms ≡ None → read_statement form lines n words ≡ Err Syntax
reads_none form lines n [] forms some plain is none = absurd (omega arith)
reads_none form lines n (word ∷ words) forms some plain is none =
    let ws = word ∷ words in
    let fault : fault_of form lines ws ≡ Some Syntax =
    λ i. fault_with lines ws (plain i) ((is ∙ none) i) in
    λ i. without_fault (fault i) (option_map_or (with_line lines n) (meaning form lines ws) lines)

-- words with a byte that may not stand outside a comment
pub reads_unplain : (form : Form) (lines : List Line) (n : ℕ) (words : List (List ℕ)) → 0 < length words →
    list_all (list_all is_plain) words ≡ false → read_statement form lines n words ≡ Err Syntax
reads_unplain form lines n [] some plain = absurd (omega arith)
reads_unplain form lines n (word ∷ words) some plain =
    let ws = word ∷ words in
    let fault : fault_of form lines ws ≡ Some Syntax = λ i. fault_with lines ws (plain i) (form_of form lines ws) in
    λ i. without_fault (fault i) (option_map_or (with_line lines n) (meaning form lines ws) lines)

-- a line that takes words of a form reads them
pub reads_form : (form : Form) (lines : List Line) (n : ℕ) (words : List (List ℕ))
    (forms : List LineForm) (f : LineForm) (result : Result (Unit {0}) ScriptFault) (known : Known) →
    0 < length words → list_all (list_all is_plain) words ≡ true →
    form_of form lines words ≡ find (matches words) forms →
    find (matches words) forms ≡ Some f →
    Takes lines n (with_words words f) result known →
    Reads form lines n words result known
reads_form form lines n [] forms f result known some plain is found takes = absurd (omega arith)
reads_form form lines n (word ∷ words) forms f result known some plain is found takes =
    by_result result takes
  where
    ws : List (List ℕ)
    ws = word ∷ words

    here : form_of form lines ws ≡ Some f
    here = is ∙ found

    faults : fault_of form lines ws ≡ first_fault lines (with_words ws f)
    faults = (λ i. fault_with lines ws (plain i) (here i)) ∙ found_fault lines ws f

    says : meaning form lines ws ≡ statement_at lines (with_words ws f)
    says = ap (meaning_with lines ws) here

    by_result : (r : Result (Unit {0}) ScriptFault) → Takes lines n (with_words ws f) r known →
        Reads form lines n ws r known
    by_result (Ok done) t = (
      with_line lines n t.0,
      λ i. without_fault ((faults ∙ t.1) i)
          (option_map_or (with_line lines n) ((says ∙ t.2) i) lines),
      t.3,
    )
    by_result (Err (At m kind)) t = (
      t.0,
      λ i. without_fault ((faults ∙ t.1) i)
          (option_map_or (with_line lines n) (meaning form lines ws) lines),
    )
    by_result (Err Memory) t = tt
