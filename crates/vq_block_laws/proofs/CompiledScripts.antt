-- The script that a text with blocks is compiled to can be written, and its canonical text stands for it.
use Rattle.std.proofs.Common.{ℕ, ◌≡◌, ◌<◌, ◌≤◌, ◌+◌, Bool, cond, List, [], ◌∷◌, ◌++◌, length, length-append, map, option_map, Ok, refl, sym, ap, ◌∙◌, subst, arith, inl}
use Rattle.std.specs.List.{AllByRecursion as Every, cons_option}
use Rattle.std.proofs.lemmas.List.{length-map}
use Rattle.std.proofs.lemmas.List.Sums.{sum_by-cons}
use Rattle.vq_ground.proofs.Every.{every_append}
use Rattle.vq_ground.proofs.Gets.{get-map}
use Rattle.vq_model.specs.declared.script.Job.{Job}
use Rattle.vq_model.specs.declared.script.Pair.{Pair}
use Rattle.vq_model.specs.declared.script.Queue.{Queue}
use Rattle.vq_model.specs.declared.script.Script.{Script}
use Rattle.vq_model.specs.declared.script.Semaphore.{Semaphore}
use Rattle.vq_model.specs.declared.statement.Form.{Form}
use Rattle.vq_model.specs.declared.statement.Form.TheVariants.{Plain, Scheduled}
use Rattle.vq_model.specs.declared.statement.Line.{Line}
use Rattle.vq_model.specs.declared.statement.Statement.{Statement}
use Rattle.vq_model.specs.declared.statement.Statement.TheVariants.{BeginBatch, TakeHostStep}
use Rattle.vq_model.specs.Canonical.{canonical_text}
use Rattle.vq_model.specs.LineByLine.{form_of_script}
use Rattle.vq_model.specs.Context.{count, is_job, semaphores}
use Rattle.vq_model.specs.Lowering.{commands_in}
use Rattle.vq_model.specs.Reading.{StandsFor, read_lines, script_or_fault}
use Rattle.vq_model.specs.SameScript.{IsRead, IsScript, SameButLines, queue_without_line, semaphore_without_line, without_lines}
use Rattle.vq_model.specs.ScriptOfLines.{job_at, jobs_of, mark, script_of}
use Rattle.vq_model.specs.Text.{lines_of}
use Rattle.vq_reading_laws.proofs.Cited.{most_queues, plain_unscheduled, read_valid}
use Rattle.vq_canonical_laws.specs.AddedJobs.{MayBeAdded, with_more}
use Rattle.vq_canonical_laws.specs.FormatRules.{are_new, names_of, IsMarked, IsTimed, IsWaitOf, JobFits}
use Rattle.vq_canonical_laws.proofs.Cited.{added_is_written, canonical_reads_back, read_is_written, timeline_takes}
use Rattle.vq_blocks.specs.declared.block.HostThread.{HostThread}
use Rattle.vq_blocks.specs.declared.block.ThreadLine.{ThreadLine}
use Rattle.vq_blocks.specs.declared.block.ThreadStep.{ThreadStep}
use Rattle.vq_blocks.specs.declared.block.ThreadStep.TheVariants.{Wait, Signal}
use Rattle.vq_blocks.specs.BlockFaults.{most_lanes}
use Rattle.vq_blocks.specs.BlockReading.{Tells}
use Rattle.vq_blocks.specs.Blocks.{Told, nothing_told, step_count}
use Rattle.vq_blocks.specs.Compiled.{batch_of_step, queue_of_thread, script_by_input, thread_jobs}
use Rattle.vq_block_laws.specs.WithoutBlocks.{without_blocks}
use Rattle.vq_block_laws.proofs.BlockSteps.{IsTimedStep}
use Rattle.vq_block_laws.proofs.EndedLines.{emptied_back}
use Rattle.vq_block_laws.proofs.KeptThreads.{Keeps, keeps_nothing}
use Rattle.vq_block_laws.proofs.ToldLines.{lines_told}

-- The rest

-- The lines of a text with those of its blocks emptied are read as the rest of what it tells.
pub rest_is_read : (text : List ℕ) (told : Told) → Tells text told →
    read_lines Plain [] 1 (lines_of (without_blocks text)) ≡ Ok told.rest
rest_is_read text told h =
    ap (read_lines Plain [] 1) (emptied_back text)
    ∙ (lines_told nothing_told 1 (lines_of text) told keeps_nothing h).read

-- So the text without its blocks stands for the script of the rest.
pub rest_stands : (text : List ℕ) (told : Told) → Tells text told →
    StandsFor (without_blocks text) Plain (script_of told.rest)
rest_stands text told h = ap script_or_fault (rest_is_read text told h)

rest_was_read : (text : List ℕ) (told : Told) → Tells text told → IsRead (script_of told.rest)
rest_was_read text told h =
    record {
      text = without_blocks text;
      form = Plain;
      turns = (script_of told.rest).turns;
      stands = rest_stands text told h;
      kept_or_moved = inl refl;
    }

-- as many jobs as lines that begin one
jobs_counted : (lines : List Line) → length (jobs_of lines) ≡ count is_job lines
jobs_counted [] = refl
jobs_counted (line ∷ lines) =
    one_more line.number line.statement
    ∙ (ap (λ (n : ℕ). cond (is_job line.statement) 1 0 + n) (jobs_counted lines)
    ∙ sym (sum_by-cons (λ (l : Line). cond (is_job l.statement) 1 0) line lines))
  where
    one_more : (n : ℕ) (s : Statement) →
        length (cons_option (job_at (record { number = n; statement = s }) lines) (jobs_of lines))
        ≡ cond (is_job s) 1 0 + length (jobs_of lines)
    one_more n (BeginBatch q) = omega arith
    one_more n (TakeHostStep step) = omega arith
    one_more n s = omega arith

-- Batches of steps

-- a timed pair is marked, also among semaphores without lines
timed_marked : (ss : List Semaphore) (pair : Pair) → IsTimed ss pair →
    IsMarked (map semaphore_without_line ss) pair
timed_marked ss pair h =
    let found = h.0 in
    record {
      semaphore = semaphore_without_line found.semaphore;
      there = get-map semaphore_without_line ss pair.semaphore ∙ ap (option_map semaphore_without_line) found.there;
      takes = timeline_takes found.semaphore.kind pair.value found.tested h.1;
    }

module _ (s : Script) (ss : List Semaphore) (are : s.semaphores ≡ map semaphore_without_line ss)
    (second : s.version ≡ 2) where
  pair_marked : (pair : Pair) → IsTimed ss pair → IsMarked s.semaphores pair
  pair_marked pair h =
      subst (λ (xs : List Semaphore). IsMarked xs pair) (sym are) (timed_marked ss pair h)

  waits_fit : (n : ℕ) (pairs : List Pair) → Every (IsTimed ss) pairs →
      Every (IsWaitOf s 0) (map (λ pair. mark n pair 1) pairs)
  waits_fit n [] h = tt
  waits_fit n (pair ∷ pairs) h = (
    record {
      marked = pair_marked pair h.0;
      held = record { counted = omega arith; whole = λ first. refl };
      near = omega arith;
    },
    waits_fit n pairs h.1,
  )

  step_fits : (queue : ℕ) (x : ThreadLine) → queue < length s.queues → IsTimedStep ss x.step →
      JobFits s (batch_of_step queue x)
  step_fits queue x l h = by_step x.step h
    where
      by_step : (step : ThreadStep) → IsTimedStep ss step →
          JobFits s (batch_of_step queue (record { line = x.line; step = step }))
      by_step (Wait pairs) h =
          let few = h.1 in
          let long = length-map pairs (λ (pair : Pair). mark x.line pair 1) in
          record {
            queue = l;
            waits = waits_fit x.line pairs h.0;
            commands = tt;
            signals = tt;
            fence = tt;
            few_waits = omega arith;
            few_commands = omega arith;
            few_signals = omega arith;
          }
      by_step (Signal pair) h =
          record {
            queue = l;
            waits = tt;
            commands = tt;
            signals = ((pair_marked pair h, refl), tt);
            fence = tt;
            few_waits = omega arith;
            few_commands = omega arith;
            few_signals = omega arith;
          }

  steps_fit : (queue : ℕ) (steps : List ThreadLine) → queue < length s.queues →
      Every (λ x. IsTimedStep ss x.step) steps → Every (JobFits s) (map (batch_of_step queue) steps)
  steps_fit queue [] l h = tt
  steps_fit queue (x ∷ steps) l h = (step_fits queue x l h.0, steps_fit queue steps l h.1)

  threads_fit : (first : ℕ) (threads : List HostThread) → first + length threads ≤ length s.queues →
      Every (λ t. Every (λ x. IsTimedStep ss x.step) t.steps) threads →
      Every (JobFits s) (thread_jobs first threads)
  threads_fit first [] l h = tt
  threads_fit first (t ∷ threads) l h =
      every_append (JobFits s) (map (batch_of_step first) t.steps) (thread_jobs (first + 1) threads)
      (steps_fit first t.steps (omega arith) h.0) (threads_fit (first + 1) threads (omega arith) h.1)

-- they have no commands
steps_bare : (queue : ℕ) (steps : List ThreadLine) →
    Every (λ job. commands_in job ≡ 0) (map (batch_of_step queue) steps)
steps_bare queue [] = tt
steps_bare queue (x ∷ steps) = (refl, steps_bare queue steps)

threads_bare : (first : ℕ) (threads : List HostThread) →
    Every (λ job. commands_in job ≡ 0) (thread_jobs first threads)
threads_bare first [] = tt
threads_bare first (t ∷ threads) =
    every_append (λ (job : Job). commands_in job ≡ 0) (map (batch_of_step first) t.steps)
    (thread_jobs (first + 1) threads) (steps_bare first t.steps) (threads_bare (first + 1) threads)

-- and are as many as the steps
threads_counted : (first : ℕ) (threads : List HostThread) →
    length (thread_jobs first threads) ≡ step_count threads
threads_counted first [] = refl
threads_counted first (t ∷ threads) =
    let own = length-map t.steps (batch_of_step first) in
    let more = threads_counted (first + 1) threads in
    let long = length-append (map (batch_of_step first) t.steps) (thread_jobs (first + 1) threads) in
    let all = sum_by-cons (λ (n : ℕ). n) (length t.steps) (map (λ (u : HostThread). length u.steps) threads) in
    omega arith

-- Compiled scripts

thread_names : (threads : List HostThread) →
    map (λ q. q.name) (map queue_of_thread threads) ≡ map (λ t. t.name) threads
thread_names [] = refl
thread_names (t ∷ threads) = ap (λ (ns : List (List ℕ)). t.name ∷ ns) (thread_names threads)

module _ (text : List ℕ) (told : Told) (h : Tells text told) where
  abbrev rest : Script
  rest = script_of told.rest

  abbrev more_queues : List Queue
  more_queues = map queue_of_thread told.threads

  abbrev more_jobs : List Job
  more_jobs = thread_jobs (length rest.queues) told.threads

  kept : Keeps told
  kept = (lines_told nothing_told 1 (lines_of text) told keeps_nothing h).keeps

  few_lanes : length rest.queues + length told.threads ≤ most_lanes
  few_lanes = by_threads told.threads kept.fit.few
    where
      by_threads : (threads : List HostThread) →
          (0 < length threads → length rest.queues + length threads ≤ most_lanes) →
          length rest.queues + length threads ≤ most_lanes
      by_threads [] few =
          let own = (read_valid rest (rest_was_read text told h)).limits.queues in
          let most = most_queues rest.version in
          omega arith
      by_threads (t ∷ threads) few = few (omega arith)

  threads_added : MayBeAdded rest more_queues more_jobs
  threads_added =
      let lanes = few_lanes in
      let steps = kept.fit.few_steps in
      let jobs = kept.few_jobs in
      let counted = jobs_counted told.rest in
      let own = threads_counted (length rest.queues) told.threads in
      let long = length-map told.threads queue_of_thread in
      let all = length-append rest.queues more_queues in
      let bare = length-map (rest.queues ++ more_queues) queue_without_line in
      record {
        names = ap (are_new (names_of rest)) (thread_names told.threads) ∙ kept.fit.names;
        fit = threads_fit (without_lines (with_more rest more_queues more_jobs)) (semaphores told.rest) refl refl
            (length rest.queues) told.threads (omega arith) kept.fit.timed;
        bare = threads_bare (length rest.queues) told.threads;
        few_queues = omega arith;
        few_jobs = omega arith;
      }

  -- The script that a text with blocks is compiled to can be written.
  pub compiled_is_written : IsScript (script_by_input told)
  compiled_is_written =
      added_is_written rest more_queues more_jobs (read_is_written rest (rest_was_read text told h))
      (plain_unscheduled (without_blocks text) rest (rest_stands text told h)) threads_added

  -- Its canonical text stands for it, up to line numbers.
  pub compiled_reads_back : (read : Script) × StandsFor (canonical_text (script_by_input told)) Plain read
      × SameButLines read (script_by_input told)
  compiled_reads_back =
      let plain = plain_unscheduled (without_blocks text) rest (rest_stands text told h) in
      let form : form_of_script (script_by_input told) ≡ Plain =
      ap (λ (b : Bool). cond b Scheduled Plain) plain.unscheduled in
      let back = canonical_reads_back (script_by_input told) compiled_is_written in (
        back.0,
        subst (λ (f : Form). StandsFor (canonical_text (script_by_input told)) f back.0) form back.1,
        back.2,
      )
