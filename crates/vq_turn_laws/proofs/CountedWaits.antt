-- The places of the waits of a script that was read count from 1: a line with another place is out of range.
use Rattle.std.proofs.Common.{◌≡◌, ℕ, ◌≤◌, ◌+◌, Bool, true, false, not, cond, nat_lt, List, [], ◌∷◌, ◌++◌, Option, Some}
use Rattle.std.proofs.Common.{None, refl, sym, subst, ap, ◌∙◌, arith, zero, suc}
use Rattle.std.specs.Prelude.{Result, Ok, Err}
use Rattle.std.specs.List.{slice_get, filter_map, cons_option}
use Rattle.std.specs.Option.{option_map_or}
use Rattle.std.proofs.lemmas.Bool.{and_parts, ltb-true, false≢true}
use Rattle.vq_model.specs.declared.statement.Line.{Line}
use Rattle.vq_model.specs.declared.statement.Form.{Form}
use Rattle.vq_model.specs.declared.statement.FaultKind.{FaultKind}
use Rattle.vq_model.specs.declared.statement.FaultKind.TheVariants.{Syntax, Order, Number, Name, Twice, Range, Overlap}
use Rattle.vq_model.specs.declared.statement.FaultKind.TheVariants.{Limit}
use Rattle.vq_model.specs.declared.statement.Statement.{Statement}
use Rattle.vq_model.specs.declared.statement.Statement.TheVariants.{AddWait, BeginBatch, TakeHostStep}
use Rattle.vq_model.specs.declared.script.Job.{Job}
use Rattle.vq_model.specs.declared.script.Job.TheVariants.{Host, Batch as BatchJob}
use Rattle.vq_model.specs.declared.script.Batch.{Batch}
use Rattle.vq_model.specs.declared.script.Script.{Script}
use Rattle.vq_model.specs.Context.{is_end, version_of}
use Rattle.vq_model.specs.Earlier.{earlier}
use Rattle.vq_model.specs.Limits.{limits_of}
use Rattle.vq_model.specs.Meaning.{meaning}
use Rattle.vq_model.specs.LineFaults.{is_in_range, has_fault, fault_of, ends_early}
use Rattle.vq_model.specs.Text.{words_of, lines_of}
use Rattle.vq_model.specs.ScriptOfLines.{batch_lines, batch_of, wait_of, job_at, jobs_of, script_of}
use Rattle.vq_model.specs.Reading.{with_line, without_fault, read_statement, read_line, go_on, read_lines}
use Rattle.vq_model.specs.Reading.{script_or_fault}
use Rattle.vq_model.specs.SameScript.{IsRead}
use Rattle.vq_reading_laws.proofs.Cited.{batch_lines_cons, first_fails}
use Rattle.vq_turn_laws.proofs.PlanParts.{EachMark}

-- a wait's place counts from 1
abbrev IsCounted : Statement → Type 0
IsCounted (AddWait pair from) = 1 ≤ from
IsCounted other = Unit {0}

abbrev AreCounted : List Line → Type 0
AreCounted [] = Unit {0}
AreCounted (line ∷ lines) = IsCounted line.statement × AreCounted lines

counted_append : (xs ys : List Line) → AreCounted xs → AreCounted ys → AreCounted (xs ++ ys)
counted_append [] ys a b = b
counted_append (x ∷ xs) ys a b = (a.0, counted_append xs ys a.1 b)

in_range_counted : (before : List Line) (s : Statement) → is_in_range (earlier before) s ≡ true → IsCounted s
in_range_counted before (AddWait pair from) h =
    let below = nat_lt from ((limits_of (version_of before)).batch_commands + 2) in
    let more = ltb-true 0 from (and_parts (nat_lt 0 from) below h).0 in omega arith
in_range_counted before other h = tt

-- a line without a fault says nothing out of range
says_counted : (form : Form) (before : List Line) (words : List (List ℕ)) → fault_of form before words ≡ None →
    (s : Statement) → meaning form before words ≡ Some s → IsCounted s
says_counted form before words none s says =
    let one = first_fails (has_fault form before words) Syntax
    (Order ∷ Number ∷ Name ∷ Twice ∷ Range ∷ Overlap ∷ Limit ∷ []) none in
    let two = first_fails (has_fault form before words) Order
    (Number ∷ Name ∷ Twice ∷ Range ∷ Overlap ∷ Limit ∷ []) one.1 in
    let three = first_fails (has_fault form before words) Number (Name ∷ Twice ∷ Range ∷ Overlap ∷ Limit ∷ []) two.1 in
    let four = first_fails (has_fault form before words) Name (Twice ∷ Range ∷ Overlap ∷ Limit ∷ []) three.1 in
    let five = first_fails (has_fault form before words) Twice (Range ∷ Overlap ∷ Limit ∷ []) four.1 in
    let six = first_fails (has_fault form before words) Range (Overlap ∷ Limit ∷ []) five.1 in
    let fits : not (is_in_range (earlier before) s) ≡ false = sym
    (ap (λ o. option_map_or (λ x. not (is_in_range (earlier before) x)) o false) says) ∙ six.0 in
    in_range_counted before s (unless (is_in_range (earlier before) s) fits)
  where
    unless : (b : Bool) → not b ≡ false → b ≡ true
    unless true h = refl
    unless false h = absurd (false≢true (sym h))

statement_counted : (form : Form) (before : List Line) (n : ℕ) (words : List (List ℕ)) (now : List Line) →
    read_statement form before n words ≡ Ok now → AreCounted before → AreCounted now
statement_counted form before n [] now h k = let same : before ≡ now = let z = h in cc in subst AreCounted same k
statement_counted form before n (word ∷ words) now h k = by_fault (fault_of form before (word ∷ words)) refl h
  where
    by_meaning : fault_of form before (word ∷ words) ≡ None → (o : Option Statement) →
        meaning form before (word ∷ words) ≡ o → AreCounted (option_map_or (with_line before n) o before)
    by_meaning none None says = k
    by_meaning none (Some s) says = counted_append before (record { number = n; statement = s } ∷ []) k
        (says_counted form before (word ∷ words) none s says, tt)

    by_fault : (o : Option FaultKind) → fault_of form before (word ∷ words) ≡ o →
        without_fault o (option_map_or (with_line before n) (meaning form before (word ∷ words)) before) ≡ Ok now →
        AreCounted now
    by_fault (Some kind) is s = absurd (let z = s in cc)
    by_fault None is s =
        let same : option_map_or (with_line before n)
        (meaning form before (word ∷ words)) before ≡ now = let z = s in cc in
        subst AreCounted same (by_meaning is (meaning form before (word ∷ words)) refl)

lines_counted : (form : Form) (before : List Line) (n : ℕ) (lines : List (List ℕ)) (statements : List Line) →
    read_lines form before n lines ≡ Ok statements → AreCounted before → AreCounted statements
lines_counted form before n [] statements h k = by_end (ends_early form before) h
  where
    by_end : (b : Bool) →
        cond {A = Result (List Line) (ℕ × FaultKind)} b (Err (n, Syntax)) (Ok before) ≡ Ok statements →
        AreCounted statements
    by_end true s = absurd (let z = s in cc)
    by_end false s = let same : before ≡ statements = let z = s in cc in subst AreCounted same k
lines_counted form before n (line ∷ lines) statements h k = by_line (read_line form before n line) refl h
    (λ now. lines_counted form now (n + 1) lines statements)
  where
    by_line : (o : Result (List Line) FaultKind) → read_line form before n line ≡ o →
        go_on n (λ now. read_lines form now (n + 1) lines) o ≡ Ok statements →
        ((now : List Line) → read_lines form now (n + 1) lines ≡ Ok statements → AreCounted now →
        AreCounted statements) → AreCounted statements
    by_line (Ok now) is s f = f now s (statement_counted form before n (words_of line) now is k)
    by_line (Err kind) is s f = absurd (let z = s in cc)

-- The batches of lines

batch_counted : (lines : List Line) → AreCounted lines → AreCounted (batch_lines lines)
batch_counted [] k = tt
batch_counted (line ∷ lines) k = subst AreCounted (sym (batch_lines_cons line lines))
    (by_end (is_end line.statement) (batch_counted lines k.1))
  where
    by_end : (b : Bool) → AreCounted (batch_lines lines) → AreCounted (cond b [] (line ∷ batch_lines lines))
    by_end true r = tt
    by_end false r = (k.0, r)

waits_counted : (lines : List Line) → AreCounted lines → EachMark (λ m. 1 ≤ m.from) (filter_map wait_of lines)
waits_counted [] k = tt
waits_counted (line ∷ lines) k = one_wait line.number line.statement k.0 (waits_counted lines k.1)
  where
    one_wait : (n : ℕ) (s : Statement) → IsCounted s → EachMark (λ m. 1 ≤ m.from) (filter_map wait_of lines) →
        EachMark (λ m. 1 ≤ m.from)
        (cons_option (wait_of (record { number = n; statement = s })) (filter_map wait_of lines))
    one_wait n (AddWait pair from) c r = (c, r)
    one_wait n other c r = r

jobs_counted : (lines : List Line) → AreCounted lines → (j : ℕ) (b : Batch) →
    slice_get (jobs_of lines) j ≡ Some (BatchJob b) → EachMark (λ m. 1 ≤ m.from) b.waits
jobs_counted [] k j b h = absurd (let z = h in cc)
jobs_counted (line ∷ lines) k j b h = one_job line.number line.statement j h (jobs_counted lines k.1)
  where
    first_or_later : (job : Job) → ((x : Batch) → job ≡ BatchJob x → EachMark (λ m. 1 ≤ m.from) x.waits) → (i : ℕ) →
        slice_get (job ∷ jobs_of lines) i ≡ Some (BatchJob b) →
        ((m : ℕ) (x : Batch) → slice_get (jobs_of lines) m ≡ Some (BatchJob x) → EachMark (λ m. 1 ≤ m.from) x.waits) →
        EachMark (λ m. 1 ≤ m.from) b.waits
    first_or_later job f zero s r = let same : job ≡ BatchJob b = let z = s in cc in f b same
    first_or_later job f (suc i) s r = r i b s

    one_job : (n : ℕ) (s : Statement) (i : ℕ) →
        slice_get (cons_option (job_at (record { number = n; statement = s }) lines) (jobs_of lines)) i ≡ Some
        (BatchJob b) →
        ((m : ℕ) (x : Batch) → slice_get (jobs_of lines) m ≡ Some (BatchJob x) → EachMark (λ m. 1 ≤ m.from) x.waits) →
        EachMark (λ m. 1 ≤ m.from) b.waits
    one_job n (BeginBatch q) i s r =
        first_or_later (BatchJob (batch_of n q (batch_lines lines)))
        (λ x e.
        let same : batch_of n q (batch_lines lines) ≡ x = let z = e in cc in
        subst (λ (y : Batch). EachMark (λ m. 1 ≤ m.from) y.waits) same
        (waits_counted (batch_lines lines) (batch_counted lines k.1)))
        i s r
    one_job n (TakeHostStep step) i s r =
        first_or_later (Host (record { line = n; step = step })) (λ x e. absurd (let z = e in cc)) i s r
    one_job n other i s r = r i b s

-- Each wait of a script that was read counts its place from 1.
pub read_counted : (s : Script) → IsRead s → (j : ℕ) (b : Batch) → slice_get s.jobs j ≡ Some (BatchJob b) →
    EachMark (λ m. 1 ≤ m.from) b.waits
read_counted s i j b at = by_read (read_lines i.form [] 1 (lines_of i.text)) refl i.stands
  where
    by_read : (o : Result (List Line) (ℕ × FaultKind)) → read_lines i.form [] 1 (lines_of i.text) ≡ o →
        script_or_fault o ≡ Ok (record s { turns = i.turns }) → EachMark (λ m. 1 ≤ m.from) b.waits
    by_read (Err fault) is h = absurd (let z = h in cc)
    by_read (Ok lines) is h =
        let same : script_of lines ≡ record s { turns = i.turns } = let z = h in cc in
        jobs_counted lines (lines_counted i.form [] 1 (lines_of i.text) lines is tt) j b
        (ap (λ (t : Script). slice_get t.jobs j) same ∙ at)
