-- The first fault of a text: no line before it has one, and there is none where no line has one.
use Rattle.std.proofs.Common.{◌≡◌, ℕ, List, Err, ap, ◌+◌, Bool, true, false, cond, [], ◌∷◌, Ok, refl, sym, ◌∙◌, arith, subst}
use Rattle.std.specs.Prelude.{Result}
use Rattle.vq_model.specs.declared.statement.FaultKind.{FaultKind}
use Rattle.vq_model.specs.declared.statement.Line.{Line}
use Rattle.vq_model.specs.declared.statement.Form.{Form}
use Rattle.vq_model.specs.declared.statement.FaultKind.TheVariants.{Syntax}
use Rattle.std.proofs.Common.{length, ◌++◌, append-nil}
use Rattle.std.proofs.lemmas.Bool.{cond-true, cond-false}
use Rattle.vq_model.specs.declared.script.Script.{Script}
use Rattle.vq_model.specs.Text.{lines_of}
use Rattle.vq_model.specs.ScriptOfLines.{script_of}
use Rattle.vq_model.specs.LineFaults.{ends_early}
use Rattle.vq_model.specs.Reading.{read_line, read_lines, go_on, StandsFor, script_or_fault}
use Rattle.vq_model.specs.LineByLine.{HaveNoFault, HasFaultHere, IsFirstFaultOf, IsFaultless}

-- equal faults have equal numbers and kinds
same_parts : (x y : ℕ × FaultKind) → ◌≡◌ {A = Result (List Line) (ℕ × FaultKind)} (Err x) (Err y) → (x.0 ≡ y.0) × (x.1 ≡ y.1)
same_parts x y h =
    let same : x ≡ y = cc in
    (ap (λ (z : ℕ × FaultKind). z.0) same, ap (λ (z : ℕ × FaultKind). z.1) same)

-- reading lines gives their first fault
pub first_fault : (form : Form) (before : List Line) (m : ℕ) (lines : List (List ℕ)) (n : ℕ) (kind : FaultKind) →
    read_lines form before m lines ≡ Err (n, kind) → IsFirstFaultOf form before m lines n kind
first_fault form before m [] n kind h = by_end (ends_early form before) refl h
  where
    by_end : (b : Bool) → ends_early form before ≡ b → cond {A = Result (List Line) (ℕ × FaultKind)} b (Err (m, Syntax)) (Ok before) ≡ Err (n, kind) → IsFirstFaultOf form before m [] n kind
    by_end true e h =
        let parts = same_parts (m, Syntax) (n, kind) h in
        let number = parts.0 in
        let named = parts.1 in
        record { front = []; back = []; parts = refl; counted = omega arith; statements = before; without = refl; here = (e, sym named) }
    by_end false e h = absurd (cc)
first_fault form before m (line ∷ lines) n kind h =
    by_line (read_line form before m line) refl h (λ now. first_fault form now (m + 1) lines n kind)
  where
    by_line : (r : Result (List Line) FaultKind) → read_line form before m line ≡ r → go_on m (λ now. read_lines form now (m + 1) lines) r ≡ Err (n, kind) →
        ((now : List Line) → read_lines form now (m + 1) lines ≡ Err (n, kind) → IsFirstFaultOf form now (m + 1) lines n kind) → IsFirstFaultOf form before m (line ∷ lines) n kind
    by_line (Ok now) e h more =
        let rest = more now h in
        let counted = rest.counted in
        record {
          front = line ∷ rest.front;
          back = rest.back;
          parts = ap (λ (ls : List (List ℕ)). line ∷ ls) rest.parts;
          counted = omega arith;
          statements = rest.statements;
          without = (now, e, rest.without);
          here = rest.here;
        }
    by_line (Err k) e h more =
        let parts = same_parts (m, k) (n, kind) h in
        let number = parts.0 in
        let named = parts.1 in
        record { front = []; back = line ∷ lines; parts = refl; counted = omega arith; statements = before; without = refl; here = subst (λ (i : ℕ). read_line form before i line ≡ Err kind) number (e ∙ ap (λ (x : FaultKind). Err x) named) }

-- lines without a fault are read to their statements, and what follows them after these
pub read_on : (form : Form) (before : List Line) (m : ℕ) (front back : List (List ℕ))
    (statements : List Line) → HaveNoFault form before m front statements →
    read_lines form before m (front ++ back) ≡ read_lines form statements (m + length front) back
read_on form before m [] back statements w =
    let zero_more : m ≡ m + 0 = omega arith in
    ap (λ (ls : List Line). read_lines form ls m back) w
    ∙ ap (λ (k : ℕ). read_lines form statements k back) zero_more
read_on form before m (line ∷ front) back statements w =
    let more : m + 1 + length front ≡ m + length (line ∷ front) = omega arith in
    ap (go_on m (λ now. read_lines form now (m + 1) (front ++ back))) w.1
    ∙ (read_on form w.0 (m + 1) front back statements w.2
    ∙ ap (λ (k : ℕ). read_lines form statements k back) more)

-- the first fault is what reading gives
pub only_fault : (form : Form) (before : List Line) (m : ℕ) (lines : List (List ℕ)) (n : ℕ)
    (kind : FaultKind) → IsFirstFaultOf form before m lines n kind →
    read_lines form before m lines ≡ Err (n, kind)
only_fault form before m lines n kind f =
    ap (read_lines form before m) f.parts
    ∙ (read_on form before m f.front f.back f.statements f.without
    ∙ (ap (λ (k : ℕ). read_lines form f.statements k f.back) (sym f.counted)
    ∙ here f.back f.here))
  where
    here : (back : List (List ℕ)) → HasFaultHere form f.statements n back kind →
        read_lines form f.statements n back ≡ Err (n, kind)
    here [] h =
        cond-true (ends_early form f.statements) (Err (n, Syntax)) (Ok f.statements) h.0
        ∙ ap (λ (k : FaultKind). Err (n, k)) (sym h.1)
    here (line ∷ back) h = ap (go_on n (λ now. read_lines form now (n + 1) back)) h

-- where reading ends well, no line has a fault and the text doesn't end too early
pub without_fault : (form : Form) (before : List Line) (m : ℕ) (lines : List (List ℕ))
    (statements : List Line) → read_lines form before m lines ≡ Ok statements →
    HaveNoFault form before m lines statements × (ends_early form statements ≡ false)
without_fault form before m [] statements h = by_end (ends_early form before) refl h
  where
    by_end : (b : Bool) → ends_early form before ≡ b →
        cond {A = Result (List Line) (ℕ × FaultKind)} b (Err (m, Syntax)) (Ok before)
        ≡ Ok statements → (before ≡ statements) × (ends_early form statements ≡ false)
    by_end true e h = absurd (cc)
    by_end false e h =
        let same : before ≡ statements = cc in
        (same, ap (ends_early form) (sym same) ∙ e)
without_fault form before m (line ∷ lines) statements h =
    by_line (read_line form before m line) refl h (λ now. without_fault form now (m + 1) lines statements)
  where
    by_line : (r : Result (List Line) FaultKind) → read_line form before m line ≡ r →
        go_on m (λ now. read_lines form now (m + 1) lines) r ≡ Ok statements →
        ((now : List Line) → read_lines form now (m + 1) lines ≡ Ok statements →
        HaveNoFault form now (m + 1) lines statements × (ends_early form statements ≡ false)) →
        HaveNoFault form before m (line ∷ lines) statements × (ends_early form statements ≡ false)
    by_line (Ok now) e h more = let rest = more now h in ((now, e, rest.0), rest.1)
    by_line (Err k) e h more = absurd (cc)

-- and the other way round
pub reads_without_fault : (form : Form) (before : List Line) (m : ℕ) (lines : List (List ℕ))
    (statements : List Line) → HaveNoFault form before m lines statements →
    ends_early form statements ≡ false → read_lines form before m lines ≡ Ok statements
reads_without_fault form before m lines statements w e =
    ap (read_lines form before m) (sym (append-nil lines))
    ∙ (read_on form before m lines [] statements w
    ∙ cond-false (ends_early form statements) (Err (m + length lines, Syntax)) (Ok statements) e)

-- A text without a faulty line stands for the script of its statements, and only such a text.
pub stands_faultless : (text : List ℕ) (form : Form) (statements : List Line) →
    IsFaultless form (lines_of text) statements → StandsFor text form (script_of statements)
stands_faultless text form statements f =
    ap script_or_fault (reads_without_fault form [] 1 (lines_of text) statements f.without f.ended)

pub faultless_stands : (text : List ℕ) (form : Form) (s : Script) → StandsFor text form s →
    (statements : List Line) × IsFaultless form (lines_of text) statements
    × (script_of statements ≡ s)
faultless_stands text form s h = by_lines (read_lines form [] 1 (lines_of text)) refl h
  where
    by_lines : (r : Result (List Line) (ℕ × FaultKind)) → read_lines form [] 1 (lines_of text) ≡ r →
        script_or_fault r ≡ Ok s → (statements : List Line)
        × IsFaultless form (lines_of text) statements × (script_of statements ≡ s)
    by_lines (Ok statements) e h =
        let w = without_fault form [] 1 (lines_of text) statements e in
        let same : script_of statements ≡ s = cc in
        (statements, record { without = w.0; ended = w.1 }, same)
    by_lines (Err f) e h = absurd (cc)
