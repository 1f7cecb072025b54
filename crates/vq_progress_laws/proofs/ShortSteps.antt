-- A host step of a script that a text stands for has few pairs: each line without a fault keeps that limit.
use Rattle.std.proofs.Common.{◌≡◌, ℕ, zero, suc, ◌+◌, ◌≤◌, Bool, true, false, List, [], ◌∷◌, ◌++◌, length, not}
use Rattle.std.proofs.Common.{Option, Some, None, Result, Ok, Err, nat_lt, find, if◌then◌else◌, refl, sym, subst, ap, ◌∙◌, arith}
use Rattle.std.specs.List.{slice_get, cons_option}
use Rattle.std.specs.Option.{option_map_or}
use Rattle.std.proofs.lemmas.Bool.{ltb-false, or_parts}
use Rattle.vq_model.specs.declared.script.HostStep.{HostStep}
use Rattle.vq_model.specs.declared.script.HostStep.TheVariants.{Idle}
use Rattle.vq_model.specs.declared.script.HostLine.{HostLine}
use Rattle.vq_model.specs.declared.script.Job.{Job}
use Rattle.vq_model.specs.declared.script.Job.TheVariants.{Host, Batch}
use Rattle.vq_model.specs.declared.script.Script.{Script}
use Rattle.vq_model.specs.declared.statement.Line.{Line}
use Rattle.vq_model.specs.declared.statement.Form.{Form}
use Rattle.vq_model.specs.declared.statement.FaultKind.{FaultKind}
use Rattle.vq_model.specs.declared.statement.FaultKind.TheVariants.{Syntax, Order, Number, Name, Twice, Range, Overlap}
use Rattle.vq_model.specs.declared.statement.FaultKind.TheVariants.{Limit}
use Rattle.vq_model.specs.declared.statement.Statement.{Statement}
use Rattle.vq_model.specs.declared.statement.Statement.TheVariants.{TakeHostStep, BeginBatch}
use Rattle.vq_model.specs.Earlier.{earlier}
use Rattle.vq_model.specs.Limits.{limits_of}
use Rattle.vq_model.specs.LineFaults.{ends_early, fault_of, has_fault, kinds, pairs_of, passes_limit}
use Rattle.vq_model.specs.Meaning.{meaning}
use Rattle.vq_model.specs.Reading.{StandsFor, go_on, read_line, read_lines, read_script, read_statement, script_or_fault}
use Rattle.vq_model.specs.Reading.{with_line, without_fault}
use Rattle.vq_model.specs.ScriptOfLines.{job_at, jobs_of, script_of}
use Rattle.vq_model.specs.Text.{lines_of, words_of}
use Rattle.vq_reading_laws.proofs.Cited.{first_fails}

-- the most pairs of a host step; they are as many in each version
abbrev pub most_pairs : ℕ
most_pairs = (limits_of 1).pairs

-- a host step of a statement has few pairs
abbrev SaysFew : Statement → Type 0
SaysFew (TakeHostStep step) = length (pairs_of step) ≤ most_pairs
SaysFew other = Unit {0}

abbrev SayFew : List Line → Type 0
SayFew [] = Unit {0}
SayFew (line ∷ lines) = SaysFew line.statement × SayFew lines

-- Lines

few_push : (before : List Line) (line : Line) → SayFew before → SaysFew line.statement → SayFew (before ++ line ∷ [])
few_push [] line k h = (h, tt)
few_push (first ∷ before) line k h = (k.0, few_push before line k.1 h)

same_ok : (xs ys : List Line) → without_fault None xs ≡ Ok ys → xs ≡ ys
same_ok xs ys e = cc

module _ (form : Form) (before : List Line) where
  -- a line that passes no limit
  within_limit : (s : Statement) → passes_limit (earlier before) s ≡ false → SaysFew s
  within_limit (TakeHostStep step) l =
      let limits =
      or_parts (not (nat_lt (earlier before).jobs (earlier before).most.jobs))
      (nat_lt (earlier before).most.pairs (length (pairs_of step))) l in
      ltb-false most_pairs (length (pairs_of step)) limits.1
  within_limit other l = tt

  -- a line without a fault
  says_few : (words : List (List ℕ)) (s : Statement) → fault_of form before words ≡ None →
      meaning form before words ≡ Some s → SaysFew s
  says_few words s h m =
      let test = has_fault form before words in
      let one = first_fails test Syntax (Order ∷ Number ∷ Name ∷ Twice ∷ Range ∷ Overlap ∷ Limit ∷ []) h in
      let two = first_fails test Order (Number ∷ Name ∷ Twice ∷ Range ∷ Overlap ∷ Limit ∷ []) one.1 in
      let three = first_fails test Number (Name ∷ Twice ∷ Range ∷ Overlap ∷ Limit ∷ []) two.1 in
      let four = first_fails test Name (Twice ∷ Range ∷ Overlap ∷ Limit ∷ []) three.1 in
      let five = first_fails test Twice (Range ∷ Overlap ∷ Limit ∷ []) four.1 in
      let six = first_fails test Range (Overlap ∷ Limit ∷ []) five.1 in
      let seven = first_fails test Overlap (Limit ∷ []) six.1 in
      let eight = first_fails test Limit [] seven.1 in
      within_limit s
      (sym (ap (λ (o : Option Statement). option_map_or (passes_limit (earlier before)) o false) m) ∙ eight.0)

  abbrev added : ℕ → Option Statement → List Line
  added n o = option_map_or (with_line before n) o before

  statement_few : (n : ℕ) (words : List (List ℕ)) (now : List Line) → SayFew before →
      read_statement form before n words ≡ Ok now → SayFew now
  statement_few n [] now k e = subst SayFew (same_ok before now e) k
  statement_few n (word ∷ words) now k e = by_fault (fault_of form before (word ∷ words)) refl e
    where
      by_meaning : (o : Option Statement) → meaning form before (word ∷ words) ≡ o →
          fault_of form before (word ∷ words) ≡ None → SayFew (added n o)
      by_meaning None m q = k
      by_meaning (Some s) m q =
          few_push before (record { number = n; statement = s }) k (says_few (word ∷ words) s q m)

      by_fault : (f : Option FaultKind) → fault_of form before (word ∷ words) ≡ f →
          without_fault f (added n (meaning form before (word ∷ words))) ≡ Ok now → SayFew now
      by_fault None q e =
          subst SayFew (same_ok (added n (meaning form before (word ∷ words))) now e)
          (by_meaning (meaning form before (word ∷ words)) refl q)
      by_fault (Some kind) q e = absurd (cc)

abbrev ended : ℕ → List Line → Bool → Result (List Line) (ℕ × FaultKind)
ended n before b = if b then Err (n, Syntax) else Ok before

all_few : (form : Form) (before : List Line) (n : ℕ) (lines : List (List ℕ)) (all : List Line) → SayFew before →
    read_lines form before n lines ≡ Ok all → SayFew all
all_few form before n [] all k e = by_end (ends_early form before) e
  where
    by_end : (b : Bool) → ended n before b ≡ Ok all → SayFew all
    by_end true e = absurd (cc)
    by_end false e = let same : before ≡ all = cc in subst SayFew same k
all_few form before n (line ∷ lines) all k e =
    by_line (read_line form before n line) refl e (λ now k' e'. all_few form now (n + 1) lines all k' e')
  where
    by_line : (r : Result (List Line) FaultKind) → read_line form before n line ≡ r →
        go_on n (λ now. read_lines form now (n + 1) lines) r ≡ Ok all →
        ((now : List Line) → SayFew now → read_lines form now (n + 1) lines ≡ Ok all → SayFew all) → SayFew all
    by_line (Ok now) q e f = f now (statement_few form before n (words_of line) now k q) e
    by_line (Err kind) q e f = absurd (cc)

-- Jobs

abbrev step_or : Option Job → HostStep
step_or (Some (Host h)) = h.step
step_or other = Idle

module _ (n : ℕ) (lines : List Line) (h : HostLine) where
  -- a host step that begins with a line
  line_few : (s : Statement) → job_at (record { number = n; statement = s }) lines ≡ Some (Host h) → SaysFew s →
      length (pairs_of h.step) ≤ most_pairs
  line_few (TakeHostStep step) e k =
      let few : length (pairs_of step) ≤ most_pairs = k in
      let same : length (pairs_of step) ≡ length (pairs_of h.step) =
      ap (λ (o : Option Job). length (pairs_of (step_or o))) e in
      omega arith
  line_few (BeginBatch queue) e k = absurd (cc)
  line_few other e k = absurd (cc)

jobs_few : (lines : List Line) → SayFew lines → (j : ℕ) (h : HostLine) → slice_get (jobs_of lines) j ≡ Some (Host h) →
    length (pairs_of h.step) ≤ most_pairs
jobs_few [] k j h e = absurd (let none : None ≡ Some (Host h) = e in cc)
jobs_few (line ∷ lines) k j h e =
    by_job (job_at line lines) refl j e (λ i e'. jobs_few lines k.1 i h e')
  where
    by_job : (o : Option Job) → job_at line lines ≡ o → (j : ℕ) →
        slice_get (cons_option o (jobs_of lines)) j ≡ Some (Host h) →
        ((i : ℕ) → slice_get (jobs_of lines) i ≡ Some (Host h) → length (pairs_of h.step) ≤ most_pairs) →
        length (pairs_of h.step) ≤ most_pairs
    by_job None q j e f = f j e
    by_job (Some x) q zero e f = line_few line.number lines h line.statement (q ∙ e) k.0
    by_job (Some x) q (suc i) e f = f i e

-- The host steps of a script that a text stands for have few pairs.
pub few_pairs : (text : List ℕ) (form : Form) (s : Script) → StandsFor text form s → (j : ℕ) (h : HostLine) →
    slice_get s.jobs j ≡ Some (Host h) → length (pairs_of h.step) ≤ most_pairs
few_pairs text form s stands j h e = by_lines (read_lines form [] 1 (lines_of text)) refl stands
  where
    by_lines : (r : Result (List Line) (ℕ × FaultKind)) → read_lines form [] 1 (lines_of text) ≡ r →
        script_or_fault r ≡ Ok s → length (pairs_of h.step) ≤ most_pairs
    by_lines (Ok lines) q is =
        let same : script_of lines ≡ s = cc in
        jobs_few lines (all_few form [] 1 (lines_of text) lines tt q) j h
        (ap (λ (x : Script). slice_get x.jobs j) same ∙ e)
    by_lines (Err fault) q is = absurd (cc)
