-- What lines keep that were read: each stands in its place, limits are kept, and numbers rise.
use Rattle.std.proofs.Common.{◌≡◌, ℕ, ◌+◌, List, [], ◌∷◌, Option, Some, None, Ok, Err, refl, sym, ap, ◌∙◌, subst, Bool, true, false, cond}
use Rattle.std.specs.Prelude.{Result}
use Rattle.std.specs.Option.{option_map_or}
use Rattle.vq_model.specs.declared.statement.Form.{Form}
use Rattle.vq_model.specs.declared.statement.FaultKind.{FaultKind}
use Rattle.vq_model.specs.declared.statement.Statement.{Statement}
use Rattle.vq_model.specs.declared.statement.Line.{Line}
use Rattle.vq_model.specs.Reading.{with_line, without_fault, read_statement, read_line, read_lines, go_on, StandsFor, script_or_fault}
use Rattle.vq_model.specs.LineFaults.{fault_of, ends_early}
use Rattle.vq_model.specs.Meaning.{meaning}
use Rattle.vq_reading_laws.proofs.Meanings.{has_meaning}
use Rattle.vq_reading_laws.proofs.LineFacts.{said_of}
use Rattle.vq_reading_laws.proofs.KeptLines.{LinesKept, kept_on, kept_more, kept_first}
use Rattle.vq_model.specs.declared.statement.FaultKind.TheVariants.{Syntax}
use Rattle.vq_model.specs.Text.{words_of, lines_of}
use Rattle.vq_model.specs.declared.script.Script.{Script}
use Rattle.vq_model.specs.ScriptOfLines.{script_of}

-- Reading

kept_line : (form : Form) (before : List Line) (n : ℕ) (words : List (List ℕ)) (now : List Line) →
    LinesKept form n before →
    read_statement form before n words ≡ Ok now → LinesKept form (n + 1) now
kept_line form before n [] now k h =
    let same : before ≡ now = cc in subst (LinesKept form (n + 1)) same (kept_on form n before k)
kept_line form before n (word ∷ words) now k h =
    by_fault (fault_of form before (word ∷ words)) refl h
  where
    by_fault : (o : Option FaultKind) → fault_of form before (word ∷ words) ≡ o →
        without_fault o
        (option_map_or (with_line before n) (meaning form before (word ∷ words)) before)
        ≡ Ok now → LinesKept form (n + 1) now
    by_fault None e h =
        let m = has_meaning form before (word ∷ words) e in
        let is : with_line before n m.0 ≡ now =
        sym (ap (λ (o : Option Statement). option_map_or (with_line before n) o before) m.1)
        ∙ same_lines
        (option_map_or (with_line before n) (meaning form before (word ∷ words)) before) now
        h in
        subst (LinesKept form (n + 1)) is (kept_more form before n m.0 k (said_of form before (word ∷ words) m.0 e m.1))
      where
        same_lines : (a b : List Line) → ◌≡◌ {A = Result (List Line) FaultKind} (Ok a) (Ok b) →
            a ≡ b
        same_lines a b e = cc
    by_fault (Some kind) e h = absurd (never kind h)
      where
        never : (kind : FaultKind) → ◌≡◌ {A = Result (List Line) FaultKind} (Err kind) (Ok now) → ⊥
        never kind h = cc

kept_lines : (form : Form) (before : List Line) (n : ℕ) (lines : List (List ℕ)) (all : List Line) →
    LinesKept form n before →
    read_lines form before n lines ≡ Ok all →
    (m : ℕ) × LinesKept form m all × (ends_early form all ≡ false)
kept_lines form before n [] all k h = by_end (ends_early form before) refl h
  where
    by_end : (b : Bool) → ends_early form before ≡ b →
        cond {A = Result (List Line) (ℕ × FaultKind)} b (Err (n, Syntax)) (Ok before) ≡ Ok all →
        (m : ℕ) × LinesKept form m all × (ends_early form all ≡ false)
    by_end true e h = absurd (cc)
    by_end false e h =
        let same : before ≡ all = cc in (
          n,
          subst (LinesKept form n) same k,
          subst (λ (ls : List Line). ends_early form ls ≡ false) same e,
        )
kept_lines form before n (line ∷ lines) all k h =
    by_line (read_line form before n line) refl h (λ now. kept_lines form now (n + 1) lines all)
  where
    by_line : (r : Result (List Line) FaultKind) → read_line form before n line ≡ r →
        go_on n (λ now. read_lines form now (n + 1) lines) r ≡ Ok all →
        ((now : List Line) → LinesKept form (n + 1) now → read_lines form now (n + 1) lines ≡ Ok all →
        (m : ℕ) × LinesKept form m all × (ends_early form all ≡ false)) →
        (m : ℕ) × LinesKept form m all × (ends_early form all ≡ false)
    by_line (Ok now) e h more = more now (kept_line form before n (words_of line) now k e) h
    by_line (Err kind) e h more = absurd (cc)

-- A script of lines of a text of this form that keep all this.
pub record IsOfLines (form : Form) (s : Script) : Type 0 where
  pub lines : List Line
  pub next : ℕ
  pub kept : LinesKept form next lines
  pub ended : ends_early form lines ≡ false
  pub whole : script_of lines ≡ s

pub of_text : (text : List ℕ) (form : Form) (s : Script) → StandsFor text form s →
    IsOfLines form s
of_text text form s h = by_result (read_lines form [] 1 (lines_of text)) refl h
  where
    same_script : (a b : Script) → ◌≡◌ {A = Result Script (ℕ × FaultKind)} (Ok a) (Ok b) → a ≡ b
    same_script a b e = cc

    by_result : (r : Result (List Line) (ℕ × FaultKind)) →
        read_lines form [] 1 (lines_of text) ≡ r → script_or_fault r ≡ Ok s → IsOfLines form s
    by_result (Ok lines) e h =
        let k = kept_lines form [] 1 (lines_of text) lines (kept_first form) e in
        record {
          lines = lines;
          next = k.0;
          kept = k.1;
          ended = k.2;
          whole = same_script (script_of lines) s h;
        }
    by_result (Err fault) e h = absurd (cc)
