-- A script with other numbers of lines. This project's own.
use Rattle.std.specs.Prelude.{ℕ, ◌-◌, List, map, slice_index}
use Rattle.std.specs.Option.{option_map}
use Rattle.vq_model.specs.declared.script.Buffer.{Buffer}
use Rattle.vq_model.specs.declared.script.CommandLine.{CommandLine}
use Rattle.vq_model.specs.declared.script.Job.{Job}
use Rattle.vq_model.specs.declared.script.Job.TheVariants.{Host, Batch as BatchJob}
use Rattle.vq_model.specs.declared.script.Mark.{Mark}
use Rattle.vq_model.specs.declared.script.Queue.{Queue}
use Rattle.vq_model.specs.declared.script.Script.{Script}
use Rattle.vq_model.specs.declared.script.Semaphore.{Semaphore}
use Rattle.vq_model.specs.declared.script.Turn.{Turn}
use Rattle.vq_model.specs.declared.statement.Line.{Line}

abbrev pub mark_renumbered : (ℕ → ℕ) → Mark → Mark
mark_renumbered number m = record m { line = number m.line }

abbrev pub command_renumbered : (ℕ → ℕ) → CommandLine → CommandLine
command_renumbered number c = record c { line = number c.line }

abbrev pub job_renumbered : (ℕ → ℕ) → Job → Job
job_renumbered number (Host h) = Host (record h { line = number h.line })
job_renumbered number (BatchJob b) =
    BatchJob (
    record {
      line = number b.line;
      queue = b.queue;
      waits = map (mark_renumbered number) b.waits;
      commands = map (command_renumbered number) b.commands;
      signals = map (mark_renumbered number) b.signals;
      fence = option_map (mark_renumbered number) b.fence;
    }
    )

abbrev pub buffer_renumbered : (ℕ → ℕ) → Buffer → Buffer
buffer_renumbered number b = record b { line = number b.line }

abbrev pub semaphore_renumbered : (ℕ → ℕ) → Semaphore → Semaphore
semaphore_renumbered number x = record x { line = number x.line }

abbrev pub queue_renumbered : (ℕ → ℕ) → Queue → Queue
queue_renumbered number q = record q { line = number q.line }

abbrev pub turn_renumbered : (ℕ → ℕ) → Turn → Turn
turn_renumbered number t = record t { line = number t.line }

-- the script with another number for each number of a line
abbrev pub renumbered : (ℕ → ℕ) → Script → Script
renumbered number s =
    record {
      version = s.version;
      buffers = map (buffer_renumbered number) s.buffers;
      semaphores = map (semaphore_renumbered number) s.semaphores;
      queues = map (queue_renumbered number) s.queues;
      jobs = map (job_renumbered number) s.jobs;
      scheduled = s.scheduled;
      turns = map (turn_renumbered number) s.turns;
    }

-- a line with another number
abbrev pub line_renumbered : (ℕ → ℕ) → Line → Line
line_renumbered number line = record line { number = number line.number }

-- The number that line n gets from a list: the n-th, at place n - 1.
abbrev pub nth_of : List ℕ → ℕ → ℕ
nth_of numbers n = slice_index numbers (n - 1)

-- The script, and lines, in which line n has the n-th number of a list.
abbrev pub with_numbers : List ℕ → Script → Script
with_numbers numbers s = renumbered (nth_of numbers) s

abbrev pub lines_with_numbers : List ℕ → List Line → List Line
lines_with_numbers numbers lines = map (line_renumbered (nth_of numbers)) lines
