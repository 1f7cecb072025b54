-- The lines of batches that stand for the steps of threads.
use Rattle.std.proofs.Common.{ℕ, suc, ◌≡◌, ◌+◌, List, [], ◌∷◌, ◌++◌, append-nil, append_assoc, length, map, replicate, Option, None, refl, sym, ap, ◌∙◌, arith}
use Rattle.std.specs.List.{cons_option, filter_map, flat_map}
use Rattle.std.proofs.lemmas.Grind.{flat_map-append}
use Rattle.std.proofs.lemmas.List.{map-append}
use Rattle.vq_model.specs.declared.script.Job.{Job}
use Rattle.vq_model.specs.declared.script.Job.TheVariants.{Batch as BatchJob}
use Rattle.vq_model.specs.declared.script.Mark.{Mark}
use Rattle.vq_model.specs.declared.script.Pair.{Pair}
use Rattle.vq_model.specs.declared.statement.Line.{Line}
use Rattle.vq_model.specs.declared.statement.Statement.{Statement}
use Rattle.vq_model.specs.declared.statement.Statement.TheVariants.{BeginBatch, EndBatch, AddWait, AddSignal}
use Rattle.vq_model.specs.ScriptOfLines.{batch_lines, batch_of, command_of, fence_of, first_of_list, jobs_of, mark, signal_of, wait_of}
use Rattle.vq_reading_laws.proofs.Cited.{a_line, batch_lines_cons}
use Rattle.vq_canonical_laws.specs.CanonicalStatements.{statements_of_job, wait_statement}
use Rattle.vq_blocks.specs.declared.block.HostThread.{HostThread}
use Rattle.vq_blocks.specs.declared.block.ThreadLine.{ThreadLine}
use Rattle.vq_blocks.specs.declared.block.ThreadStep.{ThreadStep}
use Rattle.vq_blocks.specs.declared.block.ThreadStep.TheVariants.{Wait, Signal}
use Rattle.vq_blocks.specs.Compiled.{batch_of_step, lines_of_step, thread_jobs}

-- Lists

-- Lines give jobs, whatever comes after them.
abbrev pub GiveJobs : List Line → List Job → Type 0
GiveJobs lines jobs = (more : List Line) → jobs_of (lines ++ more) ≡ jobs ++ jobs_of more

pub jobs_join : (a b : List Line) (js ks : List Job) → GiveJobs a js → GiveJobs b ks → GiveJobs (a ++ b) (js ++ ks)
jobs_join a b js ks of_a of_b more =
    ap jobs_of (append_assoc a b more)
    ∙ (of_a (b ++ more)
    ∙ (ap (λ (xs : List Job). js ++ xs) (of_b more) ∙ sym (append_assoc js ks (jobs_of more))))

-- Steps

-- what stands between the first line of a step's batch and its last
abbrev items_of_step : ThreadStep → List Statement
items_of_step (Wait pairs) = map (λ pair. AddWait pair 1) pairs
items_of_step (Signal pair) = AddSignal pair ∷ []

-- the lines of a step's batch, which all have the step's number
abbrev pub step_lines : ℕ → ThreadLine → List Line
step_lines queue x =
    a_line x.line (BeginBatch queue)
    ∷ map (a_line x.line) (items_of_step x.step)
    ++ a_line x.line EndBatch ∷ []

module _ (n : ℕ) where
  -- the lines of waits and of the batch's end
  abbrev wait_lines : List Pair → List Line
  wait_lines pairs = map (a_line n) (map (λ pair. AddWait pair 1) pairs)

  waits_numbered : (pairs : List Pair) →
      map (λ line. line.number) (wait_lines pairs ++ a_line n EndBatch ∷ []) ≡ replicate (suc (length pairs)) n
  waits_numbered [] = refl
  waits_numbered (pair ∷ pairs) = ap (λ (ns : List ℕ). n ∷ ns) (waits_numbered pairs)

  waits_said : (pairs : List Pair) → map (λ line. line.statement) (wait_lines pairs ++ a_line n EndBatch ∷ [])
      ≡ map wait_statement (map (λ pair. mark n pair 1) pairs) ++ EndBatch ∷ []
  waits_said [] = refl
  waits_said (pair ∷ pairs) = ap (λ (xs : List Statement). AddWait pair 1 ∷ xs) (waits_said pairs)

  module _ (more : List Line) where
    waits_batch : (pairs : List Pair) → batch_lines ((wait_lines pairs ++ a_line n EndBatch ∷ []) ++ more)
        ≡ wait_lines pairs
    waits_batch [] = batch_lines_cons (a_line n EndBatch) more
    waits_batch (pair ∷ pairs) =
        batch_lines_cons (a_line n (AddWait pair 1)) ((wait_lines pairs ++ a_line n EndBatch ∷ []) ++ more)
        ∙ ap (λ (ls : List Line). a_line n (AddWait pair 1) ∷ ls) (waits_batch pairs)

    -- they begin no job
    waits_quiet : (pairs : List Pair) → jobs_of ((wait_lines pairs ++ a_line n EndBatch ∷ []) ++ more)
        ≡ jobs_of more
    waits_quiet [] = refl
    waits_quiet (pair ∷ pairs) = waits_quiet pairs

    signal_batch : (pair : Pair) →
        batch_lines (a_line n (AddSignal pair) ∷ a_line n EndBatch ∷ more) ≡ a_line n (AddSignal pair) ∷ []
    signal_batch pair =
        batch_lines_cons (a_line n (AddSignal pair)) (a_line n EndBatch ∷ more)
        ∙ ap (λ (ls : List Line). a_line n (AddSignal pair) ∷ ls) (batch_lines_cons (a_line n EndBatch) more)

  -- what they are
  waits_are : (pairs : List Pair) → filter_map wait_of (wait_lines pairs) ≡ map (λ pair. mark n pair 1) pairs
  waits_are [] = refl
  waits_are (pair ∷ pairs) = ap (λ (ms : List Mark). mark n pair 1 ∷ ms) (waits_are pairs)

  waits_none : {A : Type 0} (part : Line → Option A) → ((pair : Pair) → part (a_line n (AddWait pair 1)) ≡ None) →
      (pairs : List Pair) → filter_map part (wait_lines pairs) ≡ []
  waits_none part none [] = refl
  waits_none part none (pair ∷ pairs) = λ i. cons_option (none pair i) (waits_none part none pairs i)

  waits_job : (queue : ℕ) (pairs : List Pair) →
      BatchJob (batch_of n queue (wait_lines pairs)) ≡ batch_of_step queue (record { line = n; step = Wait pairs })
  waits_job queue pairs = λ i.
      BatchJob (
      record {
        line = n;
        queue = queue;
        waits = waits_are pairs i;
        commands = waits_none command_of (λ pair. refl) pairs i;
        signals = waits_none signal_of (λ pair. refl) pairs i;
        fence = first_none (waits_none fence_of (λ pair. refl) pairs) i;
      }
      )
    where
      first_none : {xs : List Mark} → xs ≡ [] → first_of_list xs ≡ None
      first_none e = ap first_of_list e

module _ (queue : ℕ) where
  -- The lines of a step's batch have its numbers, ..
  step_numbered : (x : ThreadLine) → map (λ line. line.number) (step_lines queue x) ≡ lines_of_step x
  step_numbered x = by_step x.step
    where
      by_step : (step : ThreadStep) →
          map (λ line. line.number) (step_lines queue (record { line = x.line; step = step }))
          ≡ lines_of_step (record { line = x.line; step = step })
      by_step (Wait pairs) =
          let count : suc (suc (length pairs)) ≡ length pairs + 0 + 2 = omega arith in
          ap (λ (ns : List ℕ). x.line ∷ ns) (waits_numbered x.line pairs)
          ∙ ap (λ (k : ℕ). replicate k x.line) count
      by_step (Signal pair) = refl

  -- .. its statements, ..
  step_said : (x : ThreadLine) →
      map (λ line. line.statement) (step_lines queue x) ≡ statements_of_job (batch_of_step queue x)
  step_said x = by_step x.step
    where
      by_step : (step : ThreadStep) →
          map (λ line. line.statement) (step_lines queue (record { line = x.line; step = step }))
          ≡ statements_of_job (batch_of_step queue (record { line = x.line; step = step }))
      by_step (Wait pairs) =
          let said = map wait_statement (map (λ (pair : Pair). mark x.line pair 1) pairs) in
          ap (λ (xs : List Statement). BeginBatch queue ∷ xs) (waits_said x.line pairs)
          ∙ ap (λ (xs : List Statement). BeginBatch queue ∷ xs ++ EndBatch ∷ [])
          (sym (append-nil (said ++ [] ++ []) ∙ (append-nil (said ++ []) ∙ append-nil said)))
      by_step (Signal pair) = refl

  -- .. and give it.
  step_given : (x : ThreadLine) → GiveJobs (step_lines queue x) (batch_of_step queue x ∷ [])
  step_given x more = by_step x.step
    where
      by_step : (step : ThreadStep) →
          jobs_of (step_lines queue (record { line = x.line; step = step }) ++ more)
          ≡ batch_of_step queue (record { line = x.line; step = step }) ∷ jobs_of more
      by_step (Wait pairs) = λ i.
          (ap (λ (ls : List Line). BatchJob (batch_of x.line queue ls)) (waits_batch x.line more pairs)
          ∙ waits_job x.line queue pairs) i
          ∷ waits_quiet x.line more pairs i
      by_step (Signal pair) = λ i. BatchJob (batch_of x.line queue (signal_batch x.line more pair i)) ∷ jobs_of more

  -- Steps, one after another

  steps_numbered : (steps : List ThreadLine) →
      map (λ line. line.number) (flat_map (step_lines queue) steps) ≡ flat_map lines_of_step steps
  steps_numbered [] = refl
  steps_numbered (x ∷ steps) =
      map-append (λ (line : Line). line.number) (step_lines queue x) (flat_map (step_lines queue) steps)
      ∙ (λ i. step_numbered x i ++ steps_numbered steps i)

  steps_said : (steps : List ThreadLine) →
      map (λ line. line.statement) (flat_map (step_lines queue) steps)
      ≡ flat_map statements_of_job (map (batch_of_step queue) steps)
  steps_said [] = refl
  steps_said (x ∷ steps) =
      map-append (λ (line : Line). line.statement) (step_lines queue x) (flat_map (step_lines queue) steps)
      ∙ (λ i. step_said x i ++ steps_said steps i)

  steps_given : (steps : List ThreadLine) →
      GiveJobs (flat_map (step_lines queue) steps) (map (batch_of_step queue) steps)
  steps_given [] = λ more. refl
  steps_given (x ∷ steps) =
      jobs_join (step_lines queue x) (flat_map (step_lines queue) steps) (batch_of_step queue x ∷ [])
      (map (batch_of_step queue) steps) (step_given x) (steps_given steps)

-- Threads

-- the lines of threads' batches, whose queues are numbered from this one on
abbrev pub thread_lines : ℕ → List HostThread → List Line
thread_lines first [] = []
thread_lines first (t ∷ threads) = flat_map (step_lines first) t.steps ++ thread_lines (first + 1) threads

pub threads_numbered : (first : ℕ) (threads : List HostThread) →
    map (λ line. line.number) (thread_lines first threads)
    ≡ flat_map (λ t. flat_map lines_of_step t.steps) threads
threads_numbered first [] = refl
threads_numbered first (t ∷ threads) =
    map-append (λ (line : Line). line.number) (flat_map (step_lines first) t.steps) (thread_lines (first + 1) threads)
    ∙ (λ i. steps_numbered first t.steps i ++ threads_numbered (first + 1) threads i)

pub threads_said : (first : ℕ) (threads : List HostThread) →
    map (λ line. line.statement) (thread_lines first threads)
    ≡ flat_map statements_of_job (thread_jobs first threads)
threads_said first [] = refl
threads_said first (t ∷ threads) =
    map-append (λ (line : Line). line.statement) (flat_map (step_lines first) t.steps)
    (thread_lines (first + 1) threads)
    ∙ ((λ i. steps_said first t.steps i ++ threads_said (first + 1) threads i)
    ∙ sym (flat_map-append statements_of_job (map (batch_of_step first) t.steps) (thread_jobs (first + 1) threads)))

pub threads_given : (first : ℕ) (threads : List HostThread) →
    GiveJobs (thread_lines first threads) (thread_jobs first threads)
threads_given first [] = λ more. refl
threads_given first (t ∷ threads) =
    jobs_join (flat_map (step_lines first) t.steps) (thread_lines (first + 1) threads)
    (map (batch_of_step first) t.steps) (thread_jobs (first + 1) threads) (steps_given first t.steps)
    (threads_given (first + 1) threads)
