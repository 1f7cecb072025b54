-- The script that a text with blocks is compiled to: a threaded queue for each thread, a batch for each step.
-- This project's own.
use Rattle.std.specs.Prelude.{ℕ, ◌≡◌, ◌+◌, ◌++◌, List, [], ◌∷◌, None, length, map, replicate, drop}
use Rattle.std.specs.List.{before_first, enumerate_from, flat_map}
use Rattle.vq_model.specs.declared.script.Job.{Job}
use Rattle.vq_model.specs.declared.script.Job.TheVariants.{Batch as BatchJob}
use Rattle.vq_model.specs.declared.script.Mode.TheVariants.{Threaded}
use Rattle.vq_model.specs.declared.script.Queue.{Queue}
use Rattle.vq_model.specs.declared.script.Script.{Script}
use Rattle.vq_model.specs.declared.statement.Form.TheVariants.{Plain}
use Rattle.vq_model.specs.declared.statement.Line.{Line}
use Rattle.vq_model.specs.declared.statement.Statement.{Statement}
use Rattle.vq_model.specs.declared.statement.Statement.TheVariants.{HasVersion}
use Rattle.vq_model.specs.Canonical.{canonical_text}
use Rattle.vq_model.specs.Context.{buffers, semaphores, queues, is_job}
use Rattle.vq_model.specs.Reading.{StandsFor}
use Rattle.vq_model.specs.ScriptOfLines.{mark, script_of}
use Rattle.vq_blocks.specs.declared.block.HostThread.{HostThread}
use Rattle.vq_blocks.specs.declared.block.ThreadLine.{ThreadLine}
use Rattle.vq_blocks.specs.Blocks.{Told, waited_by, signaled_by}
use Rattle.vq_blocks.specs.BlockReading.{Tells}

-- The script

-- the queue that stands for a thread
abbrev pub queue_of_thread : HostThread → Queue
queue_of_thread t = record { line = t.line; name = t.name; mode = Threaded }

-- the batch that stands for a step, on a queue: a wait for each pair, or one signal
abbrev pub batch_of_step : ℕ → ThreadLine → Job
batch_of_step queue x =
    BatchJob (
    record {
      line = x.line;
      queue = queue;
      waits = map (λ pair. mark x.line pair 1) (waited_by x.step);
      commands = [];
      signals = map (λ pair. mark x.line pair 1) (signaled_by x.step);
      fence = None;
    }
    )

-- the batches of threads whose queues are numbered from this one on, thread by thread
abbrev pub thread_jobs : ℕ → List HostThread → List Job
thread_jobs first threads =
    flat_map (λ x. map (batch_of_step x.0) x.1.steps) (enumerate_from first threads)

-- A script with threads as queues behind its own, and their batches before all its jobs. It is of the second version.
abbrev pub with_threads : Script → List HostThread → Script
with_threads s threads =
    record s {
      version = 2;
      queues = s.queues ++ map queue_of_thread threads;
      jobs = thread_jobs (length s.queues) threads ++ s.jobs;
    }

-- the script of a text with blocks, with the line numbers of the text
abbrev pub script_by_input : Told → Script
script_by_input told = with_threads (script_of told.rest) told.threads

-- Its lines

-- the number of the line that names the version, 0 where there is none
abbrev pub version_line : List Line → ℕ
version_line [] = 0
version_line (first ∷ lines) = by_statement first.statement
  where
    by_statement : Statement → ℕ
    by_statement (HasVersion version) = first.number
    by_statement other = 0

-- the lines from the first job on
abbrev pub job_lines_in : List Line → List Line
job_lines_in lines = drop (length (before_first (λ line. is_job line.statement) lines)) lines

-- the batch of a step has its first line, one for each wait and signal, and its last: all come from the step's line
abbrev pub lines_of_step : ThreadLine → List ℕ
lines_of_step x = replicate (length (waited_by x.step) + length (signaled_by x.step) + 2) x.line

-- For each line of the canonical text the line of the input from which it comes; 0 for the version's, where the input
-- has none.
abbrev pub origins : Told → List ℕ
origins told =
    version_line told.rest ∷ []
    ++ map (λ b. b.line) (buffers told.rest)
    ++ map (λ x. x.line) (semaphores told.rest)
    ++ map (λ q. q.line) (queues told.rest)
    ++ map (λ t. t.line) told.threads
    ++ flat_map (λ t. flat_map lines_of_step t.steps) told.threads
    ++ map (λ line. line.number) (job_lines_in told.rest)

-- The compiled script, with the lines of its canonical text, and where these come from.
pub record IsCompiledOf (told : Told) (script : Script) (lines : List ℕ) : Type 0 where
  pub stands : StandsFor (canonical_text (script_by_input told)) Plain script
  pub origin : lines ≡ origins told

pub record IsCompiled (text : List ℕ) (script : Script) (lines : List ℕ) : Type 0 where
  pub told : Told
  pub tells : Tells text told
  pub compiled : IsCompiledOf told script lines
