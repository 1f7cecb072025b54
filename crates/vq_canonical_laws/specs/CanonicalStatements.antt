-- The statements of a script in the order of its canonical lines, and the lines that they are, numbered.
-- The format is this project's own.
use Rattle.std.specs.Prelude.{ℕ, ◌+◌, ◌==◌, List, [], ◌∷◌, ◌++◌, map, length, drop, Option, Some, None}
use Rattle.std.specs.Prelude.{if◌then◌else◌}
use Rattle.std.specs.List.{before_first, flat_map}
use Rattle.vq_model.specs.declared.script.Batch.{Batch}
use Rattle.vq_model.specs.declared.script.Buffer.{Buffer}
use Rattle.vq_model.specs.declared.script.CommandLine.{CommandLine}
use Rattle.vq_model.specs.declared.script.Job.{Job}
use Rattle.vq_model.specs.declared.script.Job.TheVariants.{Host, Batch as BatchJob}
use Rattle.vq_model.specs.declared.script.Mark.{Mark}
use Rattle.vq_model.specs.declared.script.Queue.{Queue}
use Rattle.vq_model.specs.declared.script.Script.{Script}
use Rattle.vq_model.specs.declared.script.Semaphore.{Semaphore}
use Rattle.vq_model.specs.declared.statement.Line.{Line}
use Rattle.vq_model.specs.declared.statement.Statement.{Statement}
use Rattle.vq_model.specs.declared.statement.Statement.TheVariants.{AddWait, AddCommand, AddSignal, AddFence}
use Rattle.vq_model.specs.declared.statement.Statement.TheVariants.{DeclareBuffer, DeclareSemaphore, DeclareQueue}
use Rattle.vq_model.specs.declared.statement.Statement.TheVariants.{HasVersion, BeginBatch, EndBatch, TakeHostStep}
use Rattle.vq_model.specs.Context.{is_job}
use Rattle.vq_canonical_laws.specs.FormatRules.{pair_of}

-- Batches

abbrev pub wait_statement : Mark → Statement
wait_statement m = AddWait (pair_of m) m.from

abbrev pub command_statement : CommandLine → Statement
command_statement c = AddCommand c.command

abbrev pub signal_statement : Mark → Statement
signal_statement m = AddSignal (pair_of m)

abbrev pub fence_statements : Option Mark → List Statement
fence_statements None = []
fence_statements (Some m) = AddFence m.semaphore ∷ []

-- what stands between a batch's first line and its last: waits, commands, signals, and the fence
abbrev pub item_statements : Batch → List Statement
item_statements b =
    map wait_statement b.waits
    ++ map command_statement b.commands
    ++ map signal_statement b.signals
    ++ fence_statements b.fence

abbrev pub statements_of_job : Job → List Statement
statements_of_job (Host h) = TakeHostStep h.step ∷ []
statements_of_job (BatchJob b) = BeginBatch b.queue ∷ item_statements b ++ EndBatch ∷ []

-- Scripts

-- the first version has no line
abbrev pub version_statements : ℕ → List Statement
version_statements version = if version == 2 then HasVersion 2 ∷ [] else []

abbrev pub buffer_statement : Buffer → Statement
buffer_statement b = DeclareBuffer b.name b.size

abbrev pub semaphore_statement : Semaphore → Statement
semaphore_statement x = DeclareSemaphore x.name x.kind

abbrev pub queue_statement : Queue → Statement
queue_statement q = DeclareQueue q.name q.mode

-- The statements of a script without a schedule: its version, buffers, semaphores, queues, and jobs.
abbrev pub statements_of_script : Script → List Statement
statements_of_script s =
    version_statements s.version
    ++ (map buffer_statement s.buffers
    ++ map semaphore_statement s.semaphores
    ++ map queue_statement s.queues
    ++ flat_map statements_of_job s.jobs)

-- Lines

-- statements as lines that are numbered from n on
abbrev pub numbered : ℕ → List Statement → List Line
numbered n [] = []
numbered n (s ∷ statements) = record { number = n; statement = s } ∷ numbered (n + 1) statements

-- the lines from the first job on
abbrev pub lines_from_job : List Line → List Line
lines_from_job lines = drop (length (before_first (λ line. is_job line.statement) lines)) lines
