-- The script that lines stand for. The format is this project's own.
use Rattle.std.specs.Prelude.{List, ℕ, Option, Some, None, [], ◌∷◌, replicate, Bool, true, false}
use Rattle.std.specs.List.{before_first, filter_map, cons_option, flat_map}
use Rattle.vq_model.specs.declared.statement.Line.{Line}
use Rattle.vq_model.specs.declared.script.Mark.{Mark}
use Rattle.vq_model.specs.declared.script.Pair.{Pair}
use Rattle.vq_model.specs.declared.statement.Statement.{Statement}
use Rattle.vq_model.specs.declared.statement.Statement.TheVariants.{AddWait, AddCommand, AddSignal, AddFence}
use Rattle.vq_model.specs.declared.statement.Statement.TheVariants.{BeginBatch, TakeHostStep, TakeTurns, BeginSchedule}
use Rattle.vq_model.specs.declared.script.CommandLine.{CommandLine}
use Rattle.vq_model.specs.declared.script.Batch.{Batch}
use Rattle.vq_model.specs.declared.script.Job.{Job}
use Rattle.vq_model.specs.declared.script.Job.TheVariants.{Host, Batch as BatchJob}
use Rattle.vq_model.specs.declared.script.Turn.{Turn}
use Rattle.vq_model.specs.declared.script.Script.{Script}
use Rattle.vq_model.specs.Context.{is_end, buffers, semaphores, queues, version_of, some}

-- the lines of a batch, from the line after its `submit` on
abbrev pub batch_lines : List Line → List Line
batch_lines lines = before_first (λ line. is_end line.statement) lines

abbrev pub mark : ℕ → Pair → ℕ → Mark
mark n pair from = record { line = n; semaphore = pair.semaphore; value = pair.value; from = from }

abbrev pub wait_of : Line → Option Mark
wait_of line = by_statement line.statement
  where
    by_statement : Statement → Option Mark
    by_statement (AddWait pair from) = Some (mark line.number pair from)
    by_statement other = None

abbrev pub command_of : Line → Option CommandLine
command_of line = by_statement line.statement
  where
    by_statement : Statement → Option CommandLine
    by_statement (AddCommand command) = Some (record { line = line.number; command = command })
    by_statement other = None

abbrev pub signal_of : Line → Option Mark
signal_of line = by_statement line.statement
  where
    by_statement : Statement → Option Mark
    by_statement (AddSignal pair) = Some (mark line.number pair 1)
    by_statement other = None

abbrev pub fence_of : Line → Option Mark
fence_of line = by_statement line.statement
  where
    by_statement : Statement → Option Mark
    by_statement (AddFence f) = Some (mark line.number (record { semaphore = f; value = 0 }) 1)
    by_statement other = None

-- the first of a list
abbrev pub first_of_list : {A : Type 0} → List A → Option A
first_of_list [] = None
first_of_list (x ∷ xs) = Some x

-- the batch of a queue with these lines
abbrev pub batch_of : ℕ → ℕ → List Line → Batch
batch_of n queue lines =
    record {
      line = n;
      queue = queue;
      waits = filter_map wait_of lines;
      commands = filter_map command_of lines;
      signals = filter_map signal_of lines;
      fence = first_of_list (filter_map fence_of lines);
    }

-- the job that begins with a line
abbrev pub job_at : Line → List Line → Option Job
job_at line lines = by_statement line.statement
  where
    by_statement : Statement → Option Job
    by_statement (BeginBatch queue) =
        Some (BatchJob (batch_of line.number queue (batch_lines lines)))
    by_statement (TakeHostStep step) = Some (Host (record { line = line.number; step = step }))
    by_statement other = None

abbrev pub jobs_of : List Line → List Job
jobs_of [] = []
jobs_of (line ∷ lines) = cons_option (job_at line lines) (jobs_of lines)

abbrev pub turns_at : Line → List Turn
turns_at line = by_statement line.statement
  where
    by_statement : Statement → List Turn
    by_statement (TakeTurns actor count) =
        replicate count (record { line = line.number; actor = actor })
    by_statement other = []

abbrev pub is_schedule : Statement → Bool
is_schedule BeginSchedule = true
is_schedule other = false

-- The script that lines stand for.
abbrev pub script_of : List Line → Script
script_of lines =
    record {
      version = version_of lines;
      buffers = buffers lines;
      semaphores = semaphores lines;
      queues = queues lines;
      jobs = jobs_of lines;
      scheduled = some is_schedule lines;
      turns = flat_map turns_at lines;
    }
