-- Scripts up to the numbers of their lines, and scripts that can be written.
-- The format is this project's own.
use Rattle.std.specs.Prelude.{map, ◌≡◌, ◌⊎◌, ℕ, List, []}
use Rattle.std.specs.Option.{option_map}
use Rattle.vq_model.specs.declared.script.Mark.{Mark}
use Rattle.vq_model.specs.declared.script.CommandLine.{CommandLine}
use Rattle.vq_model.specs.declared.script.Job.{Job}
use Rattle.vq_model.specs.declared.script.Job.TheVariants.{Host, Batch as BatchJob}
use Rattle.vq_model.specs.declared.script.Buffer.{Buffer}
use Rattle.vq_model.specs.declared.script.Semaphore.{Semaphore}
use Rattle.vq_model.specs.declared.script.Queue.{Queue}
use Rattle.vq_model.specs.declared.script.Turn.{Turn}
use Rattle.vq_model.specs.declared.script.Script.{Script}
use Rattle.vq_model.specs.declared.statement.Form.{Form}
use Rattle.vq_model.specs.Reading.{StandsFor}

abbrev pub mark_without_line : Mark → Mark
mark_without_line m = record m { line = 0 }

abbrev pub command_without_line : CommandLine → CommandLine
command_without_line c = record c { line = 0 }

abbrev pub job_without_lines : Job → Job
job_without_lines (Host h) = Host (record h { line = 0 })
job_without_lines (BatchJob b) =
    BatchJob (
    record {
      line = 0;
      queue = b.queue;
      waits = map mark_without_line b.waits;
      commands = map command_without_line b.commands;
      signals = map mark_without_line b.signals;
      fence = option_map mark_without_line b.fence;
    }
    )

abbrev pub buffer_without_line : Buffer → Buffer
buffer_without_line b = record b { line = 0 }

abbrev pub semaphore_without_line : Semaphore → Semaphore
semaphore_without_line x = record x { line = 0 }

abbrev pub queue_without_line : Queue → Queue
queue_without_line q = record q { line = 0 }

abbrev pub turn_without_line : Turn → Turn
turn_without_line t = record t { line = 0 }

-- the script with 0 for each number of a line
abbrev pub without_lines : Script → Script
without_lines s =
    record {
      version = s.version;
      buffers = map buffer_without_line s.buffers;
      semaphores = map semaphore_without_line s.semaphores;
      queues = map queue_without_line s.queues;
      jobs = map job_without_lines s.jobs;
      scheduled = s.scheduled;
      turns = map turn_without_line s.turns;
    }

-- Two scripts are the same up to line numbers.
abbrev pub SameButLines : Script → Script → Type 0
SameButLines a b = without_lines a ≡ without_lines b

-- A script as it is read: some text stands for it, its lines included. The turns of its schedule may
-- have been moved out of it: nothing that a plan is made of depends on them.
pub record IsRead (s : Script) : Type 0 where
  pub text : List ℕ
  pub form : Form
  pub turns : List Turn
  pub stands : StandsFor text form (record s { turns = turns })
  pub kept_or_moved : (s.turns ≡ turns) ⊎ (s.turns ≡ [])

-- A script can be written: up to line numbers, some text stands for it.
pub record IsScript (s : Script) : Type 0 where
  pub text : List ℕ
  pub form : Form
  pub written : Script
  pub stands : StandsFor text form written
  pub same : SameButLines written s
