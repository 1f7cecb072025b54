-- Reading a text from one of its lines on.
use Rattle.std.proofs.Common.{◌≡◌, ℕ, ◌+◌, List, [], ◌∷◌, Ok, Err, Result, refl, sym, ap, ◌∙◌}
use Rattle.vq_model.specs.declared.statement.Line.{Line}
use Rattle.vq_model.specs.declared.statement.Form.{Form}
use Rattle.vq_model.specs.declared.statement.FaultKind.{FaultKind}
use Rattle.vq_model.specs.Text.{lines_of, words_of}
use Rattle.vq_model.specs.Reading.{read_line, read_lines, read_script, go_on}
use Rattle.vq_script.specs.declared.line_reader.LineReader.{LineReader}
use Rattle.vq_script.specs.declared.fault.ScriptFault.{ScriptFault}
use Rattle.vq_script.specs.declared.fault.ScriptFault.TheVariants.{At, Memory}
use Rattle.vq_script.specs.Outcomes.{Gives, IsFirst}
use Rattle.vq_script.specs.Reads.{HasReadNext, script_from}

-- reading a text is reading its lines, and making a script of these
pub reads_text : (text : List ℕ) (form : Form) → read_script text form ≡ script_from (read_lines form [] 1 (lines_of text))
reads_text text form = by_lines (read_lines form [] 1 (lines_of text)) refl
  where
    by_lines : (r : Result (List Line) (ℕ × FaultKind)) → read_lines form [] 1 (lines_of text) ≡ r → read_script text form ≡ script_from (read_lines form [] 1 (lines_of text))
    by_lines (Ok lines) e = rw e refl
    by_lines (Err fault) e = rw e refl

-- a line without a fault
pub on_read : (form : Form) (lines next : List Line) (n : ℕ) (line : List ℕ) (rest after : List (List ℕ)) → rest ≡ line ∷ after → read_line form lines n line ≡ Ok next →
    read_lines form lines n rest ≡ read_lines form next (n + 1) after
on_read form lines next n line rest after e r = ap (read_lines form lines n) e ∙ ap (go_on n (λ now. read_lines form now (n + 1) after)) r

-- a line with a fault
on_fault : (form : Form) (lines : List Line) (n : ℕ) (line : List ℕ) (rest after : List (List ℕ)) (kind : FaultKind) → rest ≡ line ∷ after → read_line form lines n line ≡ Err kind →
    read_lines form lines n rest ≡ Err (n, kind)
on_fault form lines n line rest after kind e r = ap (read_lines form lines n) e ∙ ap (go_on n (λ now. read_lines form now (n + 1) after)) r

-- the fault of a line is that of the text
pub gives_fault : (text : List ℕ) (form : Form) (lines : List Line) (n : ℕ) (line : List ℕ)
    (rest after : List (List ℕ)) (fault : ScriptFault) (reader : LineReader) → rest ≡ line ∷ after →
    read_lines form lines n rest ≡ read_lines form [] 1 (lines_of text) →
    HasReadNext form lines n (words_of line) (Err fault) reader →
    Gives (Err fault) (read_script text form)
gives_fault text form lines n line rest after (At m kind) reader e same r =
    reads_text text form
    ∙ ap script_from (sym same ∙ on_fault form lines n line rest after kind e r.1)
    ∙ (λ i. Err (sym r.0 i, kind))
gives_fault text form lines n line rest after Memory reader e same r = tt

pub is_first : (text : List ℕ) (form : Form) (fault : ScriptFault) → Gives (Err fault) (read_script text form) → IsFirst text form fault
is_first text form (At n kind) h = h
is_first text form Memory h = tt
