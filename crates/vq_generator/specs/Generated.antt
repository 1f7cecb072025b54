-- The script that the program makes itself, of so many rounds. This project's own.
use Rattle.std.specs.Prelude.{ℕ, List, [], ◌∷◌, ◌+◌, ◌-◌, ◌*◌, ◌%◌, ◌==◌, not, false, None, map, filter, flat_map, codes}
use Rattle.std.specs.List.{range_with_len}
use Rattle.vq_model.specs.declared.script.Buffer.{Buffer}
use Rattle.vq_model.specs.declared.script.Semaphore.{Semaphore}
use Rattle.vq_model.specs.declared.script.SemaphoreKind.TheVariants.{Timeline}
use Rattle.vq_model.specs.declared.script.Queue.{Queue}
use Rattle.vq_model.specs.declared.script.Mode.TheVariants.{Threaded}
use Rattle.vq_model.specs.declared.script.Mark.{Mark}
use Rattle.vq_model.specs.declared.script.FillSize.TheVariants.{Count}
use Rattle.vq_model.specs.declared.script.Command.{Command}
use Rattle.vq_model.specs.declared.script.Command.TheVariants.{Fill, Copy}
use Rattle.vq_model.specs.declared.script.CommandLine.{CommandLine}
use Rattle.vq_model.specs.declared.script.Job.{Job}
use Rattle.vq_model.specs.declared.script.Job.TheVariants.{Batch as BatchJob}
use Rattle.vq_model.specs.declared.script.Script.{Script}

-- What it declares

-- a buffer of 64 bytes, a timeline that begins with 0, a threaded queue
abbrev pub small_buffer : List ℕ → Buffer
small_buffer name = record { line = 0; name = name; size = 64 }

abbrev pub timeline_from_zero : List ℕ → Semaphore
timeline_from_zero name = record { line = 0; name = name; kind = Timeline 0 }

abbrev pub threaded_queue : List ℕ → Queue
threaded_queue name = record { line = 0; name = name; mode = Threaded }

-- two buffers for each queue: queue q has those with the numbers 2q and 2q + 1
abbrev pub buffer_names : List (List ℕ)
buffer_names =
    codes "B00" ∷ codes "B01" ∷ codes "B10" ∷ codes "B11"
    ∷ codes "B20" ∷ codes "B21" ∷ codes "B30" ∷ codes "B31" ∷ []

-- a timeline for each queue, of the same number
abbrev pub timeline_names : List (List ℕ)
timeline_names = codes "T0" ∷ codes "T1" ∷ codes "T2" ∷ codes "T3" ∷ []

abbrev pub queue_names : List (List ℕ)
queue_names = codes "Q0" ∷ codes "Q1" ∷ codes "Q2" ∷ codes "Q3" ∷ []

-- What it submits

-- the buffer that a queue writes in a round: its two in turn
abbrev pub buffer_in_round : ℕ → ℕ → ℕ
buffer_in_round round queue = 2 * queue + round % 2

-- a wait or a signal of a timeline
abbrev pub mark_at : ℕ → ℕ → Mark
mark_at value timeline = record { line = 0; semaphore = timeline; value = value; from = 1 }

-- the queues but one, which are the timelines that this one waits for
abbrev pub others : ℕ → List ℕ
others queue = filter (λ other. not (other == queue)) (range_with_len 0 4)

-- all of what the next queue wrote in the round before is copied ..
abbrev pub copy_of_round : ℕ → ℕ → Command
copy_of_round round queue =
    Copy (buffer_in_round (round - 1) ((queue + 1) % 4)) 0 (buffer_in_round round queue) 0 64

-- .. and then one word of the copy is written over
abbrev pub fill_of_round : ℕ → ℕ → Command
fill_of_round round queue =
    Fill (buffer_in_round round queue) (4 * (round % 16)) (Count 4) (4 * round + queue)

-- a command without a line
abbrev pub command_line : Command → CommandLine
command_line command = record { line = 0; command = command }

-- The batch of a queue in a round, counted from 1: it waits until the other queues are done with the
-- round before.
abbrev pub generated_batch : ℕ → ℕ → Job
generated_batch round queue =
    BatchJob (
    record {
      line = 0;
      queue = queue;
      waits = map (mark_at (round - 1)) (others queue);
      commands = map command_line (copy_of_round round queue ∷ fill_of_round round queue ∷ []);
      signals = mark_at round queue ∷ [];
      fence = None;
    }
    )

-- the batches of a round, one for each queue
abbrev pub generated_round : ℕ → List Job
generated_round round = map (generated_batch round) (range_with_len 0 4)

-- The generated script of so many rounds. Its lines have no numbers.
abbrev pub generated_script : ℕ → Script
generated_script rounds =
    record {
      version = 1;
      buffers = map small_buffer buffer_names;
      semaphores = map timeline_from_zero timeline_names;
      queues = map threaded_queue queue_names;
      jobs = flat_map generated_round (range_with_len 1 rounds);
      scheduled = false;
      turns = [];
    }
