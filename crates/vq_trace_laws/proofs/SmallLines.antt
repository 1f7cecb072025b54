-- The lines of a script are numbered within its text.
use Rattle.std.proofs.Common.{◌≡◌, ℕ, zero, suc, ◌<◌, ◌≤◌, ◌^◌, ◌+◌, Bool, true, false, cond, List, [], ◌∷◌, ◌++◌, length, take, Option, Some, None, Ok, Err}
use Rattle.std.proofs.Common.{refl, sym, subst, arith}
use Rattle.std.specs.Prelude.{Result}
use Rattle.std.specs.List.{slice_get, flat_map, filter_map, cons_option}
use Rattle.std.specs.Option.{option_map_or}
use Rattle.vq_model.specs.declared.statement.FaultKind.{FaultKind}
use Rattle.vq_model.specs.declared.statement.FaultKind.TheVariants.{Syntax}
use Rattle.vq_model.specs.declared.statement.Form.{Form}
use Rattle.vq_model.specs.declared.statement.Line.{Line}
use Rattle.vq_model.specs.declared.statement.Statement.{Statement}
use Rattle.vq_model.specs.declared.statement.Statement.TheVariants.{AddCommand, BeginBatch, TakeHostStep}
use Rattle.vq_model.specs.declared.script.CommandLine.{CommandLine}
use Rattle.vq_model.specs.declared.script.Job.{Job}
use Rattle.vq_model.specs.declared.script.Job.TheVariants.{Host as HostJob, Batch as BatchJob}
use Rattle.vq_model.specs.declared.script.Script.{Script}
use Rattle.vq_model.specs.LineFaults.{ends_early, fault_of}
use Rattle.vq_model.specs.Lowering.{batch_commands, plan_job, plan_of}
use Rattle.vq_model.specs.LoweredPlans.{IsPlan}
use Rattle.vq_model.specs.Meaning.{meaning}
use Rattle.vq_model.specs.Plan.{Plan, line_of_job, line_of_command}
use Rattle.vq_model.specs.Reading.{with_line, without_fault, read_statement, read_line, go_on, read_lines, script_or_fault, StandsFor}
use Rattle.vq_model.specs.ScriptOfLines.{batch_lines, command_of, job_at, jobs_of, script_of}
use Rattle.vq_model.specs.Text.{lines_of, words_of}
use Rattle.vq_reading_laws.proofs.Cited.{few_lines}
use Rattle.vq_plan_laws.proofs.Cited.{part_is}
use Rattle.vq_trace_laws.specs.ReadsBack.{HasSmallLines}

-- Reading

-- the numbers of lines are below this one
abbrev AreBelow : ℕ → List Line → Type 0
AreBelow b [] = Unit {0}
AreBelow b (line ∷ lines) = (line.number < b) × AreBelow b lines

below_more : (b c : ℕ) (lines : List Line) → b ≤ c → AreBelow b lines → AreBelow c lines
below_more b c [] l h = tt
below_more b c (line ∷ lines) l h = let k = h.0 in (omega arith, below_more b c lines l h.1)

below_push : (b : ℕ) (lines : List Line) (s : Statement) (n : ℕ) → n < b → AreBelow b lines →
    AreBelow b (with_line lines n s)
below_push b [] s n l h = (l, tt)
below_push b (line ∷ lines) s n l h = (h.0, below_push b lines s n l h.1)

module _ (form : Form) where
  statement_below : (before : List Line) (n : ℕ) (words : List (List ℕ)) (now : List Line) → AreBelow n before →
      read_statement form before n words ≡ Ok now → AreBelow (n + 1) now
  statement_below before n [] now h e =
      let same : before ≡ now = cc in
      subst (AreBelow (n + 1)) same (below_more n (n + 1) before (omega arith) h)
  statement_below before n (word ∷ words) now h e =
      by_fault (fault_of form before (word ∷ words)) e
    where
      by_meaning : (m : Option Statement) → AreBelow (n + 1) (option_map_or (with_line before n) m before)
      by_meaning None = below_more n (n + 1) before (omega arith) h
      by_meaning (Some s) =
          below_push (n + 1) before s n (omega arith) (below_more n (n + 1) before (omega arith) h)

      by_fault : (o : Option FaultKind) →
          without_fault o (option_map_or (with_line before n) (meaning form before (word ∷ words)) before) ≡ Ok now →
          AreBelow (n + 1) now
      by_fault None e =
          let same : option_map_or (with_line before n) (meaning form before (word ∷ words)) before ≡ now = cc in
          subst (AreBelow (n + 1)) same (by_meaning (meaning form before (word ∷ words)))
      by_fault (Some kind) e = absurd (cc)

  lines_below : (before : List Line) (n : ℕ) (lines : List (List ℕ)) (all : List Line) → AreBelow n before →
      read_lines form before n lines ≡ Ok all → AreBelow (n + length lines) all
  lines_below before n [] all h e = by_end (ends_early form before) e
    where
      by_end : (b : Bool) →
          cond {A = Result (List Line) (ℕ × FaultKind)} b (Err (n, Syntax)) (Ok before) ≡ Ok all →
          AreBelow (n + 0) all
      by_end true e = absurd (cc)
      by_end false e =
          let same : before ≡ all = cc in
          subst (AreBelow (n + 0)) same (below_more n (n + 0) before (omega arith) h)
  lines_below before n (line ∷ lines) all h e =
      by_line (read_line form before n line) refl e (λ now. lines_below now (n + 1) lines all)
    where
      by_line : (r : Result (List Line) FaultKind) → read_line form before n line ≡ r →
          go_on n (λ now. read_lines form now (n + 1) lines) r ≡ Ok all →
          ((now : List Line) → AreBelow (n + 1) now → read_lines form now (n + 1) lines ≡ Ok all →
          AreBelow (n + 1 + length lines) all) →
          AreBelow (n + suc (length lines)) all
      by_line (Ok now) r e more =
          below_more (n + 1 + length lines) (n + suc (length lines)) all (omega arith)
          (more now (statement_below before n (words_of line) now h r) e)
      by_line (Err kind) r e more = absurd (cc)

-- Scripts

abbrev CommandsBelow : ℕ → List CommandLine → Type 0
CommandsBelow b [] = Unit {0}
CommandsBelow b (c ∷ cs) = (c.line < b) × CommandsBelow b cs

abbrev JobBelow : ℕ → Job → Type 0
JobBelow b (HostJob h) = h.line < b
JobBelow b (BatchJob batch) = (batch.line < b) × CommandsBelow b batch.commands

abbrev JobsBelow : ℕ → List Job → Type 0
JobsBelow b [] = Unit {0}
JobsBelow b (job ∷ jobs) = JobBelow b job × JobsBelow b jobs

below_taken : (b k : ℕ) (lines : List Line) → AreBelow b lines → AreBelow b (take k lines)
below_taken b zero lines h = tt
below_taken b (suc k) [] h = tt
below_taken b (suc k) (line ∷ lines) h = (h.0, below_taken b k lines h.1)

commands_below : (b : ℕ) (lines : List Line) → AreBelow b lines → CommandsBelow b (filter_map command_of lines)
commands_below b [] h = tt
commands_below b (line ∷ lines) h = by_statement line.statement (commands_below b lines h.1)
  where
    by_statement : (s : Statement) → CommandsBelow b (filter_map command_of lines) →
        CommandsBelow b (cons_option (command_of (record { number = line.number; statement = s }))
        (filter_map command_of lines))
    by_statement (AddCommand c) more = (h.0, more)
    by_statement other more = more

jobs_below : (b : ℕ) (lines : List Line) → AreBelow b lines → JobsBelow b (jobs_of lines)
jobs_below b [] h = tt
jobs_below b (line ∷ lines) h = by_statement line.statement (jobs_below b lines h.1)
  where
    by_statement : (s : Statement) → JobsBelow b (jobs_of lines) →
        JobsBelow b (cons_option (job_at (record { number = line.number; statement = s }) lines) (jobs_of lines))
    by_statement (BeginBatch q) more =
        ((h.0, commands_below b (batch_lines lines) (below_taken b _ lines h.1)), more)
    by_statement (TakeHostStep step) more = (h.0, more)
    by_statement other more = more

text_below : (text : List ℕ) (form : Form) (s : Script) → StandsFor text form s → JobsBelow (1 + length text) s.jobs
text_below text form s h = by_lines (read_lines form [] 1 (lines_of text)) refl h
  where
    by_lines : (r : Result (List Line) (ℕ × FaultKind)) → read_lines form [] 1 (lines_of text) ≡ r →
        script_or_fault r ≡ Ok s → JobsBelow (1 + length text) s.jobs
    by_lines (Ok lines) e i =
        let same : script_of lines ≡ s = cc in
        let few = few_lines text in
        subst (λ (x : Script). JobsBelow (1 + length text) x.jobs) same
        (jobs_below (1 + length text) lines
        (below_more (1 + length (lines_of text)) (1 + length text) lines (omega arith)
        (lines_below form [] 1 (lines_of text) lines tt e)))
    by_lines (Err fault) e i = absurd (cc)

-- Plans

job_at_below : (b : ℕ) (jobs : List Job) → JobsBelow b jobs → (j : ℕ) (job : Job) → slice_get jobs j ≡ Some job →
    JobBelow b job
job_at_below b [] h j job at = absurd (let c : None ≡ Some job = at in cc)
job_at_below b (x ∷ jobs) h zero job at = let same : x ≡ job = cc in subst (JobBelow b) same h.0
job_at_below b (x ∷ jobs) h (suc j) job at = job_at_below b jobs h.1 j job at

commands_join : (b : ℕ) (xs ys : List CommandLine) → CommandsBelow b xs → CommandsBelow b ys → CommandsBelow b (xs ++ ys)
commands_join b [] ys h k = k
commands_join b (x ∷ xs) ys h k = (h.0, commands_join b xs ys h.1 k)

all_commands_below : (b : ℕ) (jobs : List Job) → JobsBelow b jobs → CommandsBelow b (flat_map batch_commands jobs)
all_commands_below b [] h = tt
all_commands_below b (HostJob x ∷ jobs) h = all_commands_below b jobs h.1
all_commands_below b (BatchJob x ∷ jobs) h =
    commands_join b x.commands (flat_map batch_commands jobs) h.0.1 (all_commands_below b jobs h.1)

command_line_below : (b : ℕ) → 0 < b → (cs : List CommandLine) → CommandsBelow b cs → (c : ℕ) →
    option_map_or (λ x. x.line) (slice_get cs c) 0 < b
command_line_below b some [] h c = some
command_line_below b some (x ∷ cs) h zero = h.0
command_line_below b some (x ∷ cs) h (suc c) = command_line_below b some cs h.1 c

module _ (p : Plan) (is : IsPlan p) (few : length is.of_script.text < 2 ^ 64) where
  below : JobsBelow (1 + length is.of_script.text) p.script.jobs
  below =
      text_below is.of_script.text is.of_script.form (record p.script { turns = is.of_script.turns })
      is.of_script.stands

  job_below : (j : ℕ) → line_of_job (plan_of p.script) j < 2 ^ 64
  job_below j =
      subst (λ (n : ℕ). n < 2 ^ 64) (sym (part_is (λ x. x.line) 0 p.script j))
      (by_job (slice_get p.script.jobs j) refl)
    where
      of_job : (job : Job) → JobBelow (1 + length is.of_script.text) job → (plan_job p.script (j, job)).line < 2 ^ 64
      of_job (HostJob h) l = omega arith
      of_job (BatchJob b) l = let k = l.0 in omega arith

      by_job : (o : Option Job) → slice_get p.script.jobs j ≡ o →
          option_map_or (λ job. (plan_job p.script (j, job)).line) o 0 < 2 ^ 64
      by_job None at = omega arith
      by_job (Some job) at =
          of_job job (job_at_below (1 + length is.of_script.text) p.script.jobs below j job at)

  command_below : (c : ℕ) → line_of_command (plan_of p.script) c < 2 ^ 64
  command_below c =
      let l = command_line_below (1 + length is.of_script.text) (omega arith)
      (flat_map batch_commands p.script.jobs)
      (all_commands_below (1 + length is.of_script.text) p.script.jobs below) c in
      omega arith

  -- Where a script's text has fewer bytes than a numeral can count, its lines have small numbers.
  pub small_lines : HasSmallLines p
  small_lines =
      record {
        jobs = λ j. subst (λ (q : Plan). line_of_job q j < 2 ^ 64) (sym is.lowered) (job_below j);
        commands = λ c. subst (λ (q : Plan). line_of_command q c < 2 ^ 64) (sym is.lowered) (command_below c);
      }
