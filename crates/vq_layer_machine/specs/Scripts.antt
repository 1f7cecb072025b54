-- The script of what was submitted to a live layer.
use Rattle.std.specs.Prelude.{ℕ, List, [], ◌∷◌, Option, Some, None, true, false, map}
use Rattle.std.specs.List.{All, filter_map, cons_option}
use Rattle.vq_model.specs.declared.script.Script.{Script}
use Rattle.vq_model.specs.declared.script.Semaphore.{Semaphore}
use Rattle.vq_model.specs.declared.script.SemaphoreKind.TheVariants.{Timeline, Binary}
use Rattle.vq_model.specs.declared.script.Queue.{Queue}
use Rattle.vq_model.specs.declared.script.Mode.TheVariants.{Deferred}
use Rattle.vq_model.specs.declared.script.Job.{Job}
use Rattle.vq_model.specs.declared.script.Job.TheVariants.{Host as HostJob, Batch as BatchJob}
use Rattle.vq_model.specs.declared.script.HostStep.TheVariants.{Signal}
use Rattle.vq_model.specs.declared.script.Mark.{Mark}
use Rattle.vq_model.specs.FittingCommands.{Fits}
use Rattle.vq_layer.specs.declared.answers.Wanted.{Wanted}
use Rattle.vq_layer.specs.Names.{merged_all}
use Rattle.vq_layer_laws.specs.Runs.{Call, opens, opens_binary, opens_queue, submits}
use Rattle.vq_model.specs.declared.script.CommandLine.{CommandLine}
use Rattle.vq_layer_machine.specs.Tales.{Work, Told, Scene, layer_called, host_signals, no_scene, after_told}

-- A timeline, a binary semaphore, a queue, and a wait or a signal of a batch: they have no names and no lines. A fence
-- is a binary semaphore of the layer, and one of the script: its reset is no job.
abbrev pub timeline_of : ℕ → Semaphore
timeline_of initial = record { line = 0; name = []; kind = Timeline initial }

abbrev pub binary_told : Semaphore
binary_told = record { line = 0; name = []; kind = Binary }

abbrev pub queue_told : Queue
queue_told = record { line = 0; name = []; mode = Deferred }

abbrev pub mark_of : Wanted → Mark
mark_of w = record { line = 0; semaphore = w.timeline; value = w.value; from = 1 }

-- with the semaphore that a number stands for
abbrev pub renamed : (ℕ → ℕ) → Wanted → Wanted
renamed names w = record { timeline = names w.timeline; value = w.value }

-- a batch
abbrev pub batch_of : ℕ → List CommandLine → List Wanted → List Wanted → Job
batch_of q commands waits signals =
    BatchJob (record {
      line = 0;
      queue = q;
      waits = map mark_of waits;
      commands = commands;
      signals = map mark_of signals;
      fence = None;
    })

-- the host's signal
abbrev pub signal_of : ℕ → ℕ → Job
signal_of n value = HostJob (record { line = 0; step = Signal (record { semaphore = n; value = value }) })

-- what is opened and submitted in a tale, in its order
abbrev pub semaphore_called : Call → Option Semaphore
semaphore_called (opens initial) = Some (timeline_of initial)
semaphore_called (opens_binary signaled) = Some binary_told
semaphore_called c = None

abbrev pub queue_called : Call → Option Queue
queue_called opens_queue = Some queue_told
queue_called c = None

-- Of several signals of one timeline in a batch the greatest stands for all, in the first one's place. What is opened
-- signaled has a signal of the host's.
abbrev pub job_called : Work → Scene → Call → Option Job
job_called w sc (submits q token waits signals) =
    Some (batch_of q (w.commands token) (map (renamed sc.names) waits) (map (renamed sc.names) (merged_all [] signals)))
job_called w sc (opens_binary true) = Some (signal_of sc.opened 1)
job_called w sc c = None

abbrev pub semaphore_told : Told → Option Semaphore
semaphore_told (layer_called c) = semaphore_called c
semaphore_told t = None

abbrev pub queue_opened : Told → Option Queue
queue_opened (layer_called c) = queue_called c
queue_opened t = None

abbrev pub job_told : Work → Scene → Told → Option Job
job_told w sc (layer_called c) = job_called w sc c
job_told w sc (host_signals n value) = Some (signal_of (sc.names n) value)
job_told w sc t = None

abbrev pub jobs_from : Work → Scene → List Told → List Job
jobs_from w sc [] = []
jobs_from w sc (t ∷ tale) = cons_option (job_told w sc t) (jobs_from w (after_told w sc t) tale)

abbrev pub script_of : Work → List Told → Script
script_of w tale =
    record {
      version = 2;
      buffers = w.buffers;
      semaphores = filter_map semaphore_told tale;
      queues = filter_map queue_opened tale;
      jobs = jobs_from w no_scene tale;
      scheduled = false;
      turns = [];
    }

-- The commands of what is submitted in a tale fit the buffers.
abbrev pub DoFit : Work → ℕ → Type 0
DoFit w token = All (λ c. Fits (map (λ b. b.size) w.buffers) c.command) (w.commands token)

abbrev pub FitsTold : Work → Told → Type 0
FitsTold w (layer_called (submits q token waits signals)) = DoFit w token
FitsTold w t = Unit {0}

abbrev pub AreFitting : Work → List Told → Type 0
AreFitting w [] = Unit {0}
AreFitting w (t ∷ tale) = FitsTold w t × AreFitting w tale
