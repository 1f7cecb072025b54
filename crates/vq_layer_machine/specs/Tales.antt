-- A tale of a live layer: the calls on it that weren't refused, and what the device does with the released batches.
use Rattle.std.specs.Prelude.{ℕ, List, [], ◌∷◌, ◌++◌, ◌+◌, ◌≡◌, ◌<◌, ◌⊎◌, Bool, Option, Some, None, true, false, length, drop, if◌then◌else◌}
use Rattle.std.specs.List.{slice_get, slice_index_or}
use Rattle.std.specs.Option.{option_map, option_map_or}
use Rattle.vq_model.specs.declared.script.Buffer.{Buffer}
use Rattle.vq_model.specs.declared.script.CommandLine.{CommandLine}
use Rattle.vq_model.specs.Machine.{Step, StartStep, ApplyStep, SignalStep, FinishStep, put}
use Rattle.vq_live.specs.declared.answers.Found.TheVariants as found_as
use Rattle.vq_live.specs.Live.{Live}
use Rattle.vq_layer.specs.declared.answers.Signal.{Signal}
use Rattle.vq_layer.specs.declared.answers.Wait.{Wait}
use Rattle.vq_layer.specs.declared.answers.Wanted.{Wanted}
use Rattle.vq_layer.specs.declared.answers.Kind.TheVariants as kind_as
use Rattle.vq_layer.specs.Layer.{Layer, Batch, kind_at, queue_at, no_layer}
use Rattle.vq_layer.specs.Names.{merged_all, signals_name}
use Rattle.vq_layer.specs.Waits.{found_in}
use Rattle.vq_layer.specs.Calls.{oldest_in, completed_of, submit_fault, take_back_fault, set_fault, free_number}
use Rattle.vq_layer_laws.specs.Runs.{Call, opens, opens_binary, opens_queue, closes, submits, takes_back, releases, finishes, completes, sets}
use Rattle.vq_layer_laws.specs.Runs.{resets, refers_to, gives_back, MayCall, after_calls}

-- What batches do on the device: the buffers, and the commands of a batch by its token. The layer knows neither.
pub record Work : Type 0 where
  pub buffers : List Buffer
  pub commands : ℕ → List CommandLine

abbrev pub count_commands : Work → ℕ → ℕ
count_commands w token = length (w.commands token)

pub data Told : Type 0 where
  -- a call that is no step of the machine
  layer_called : Call → Told
  -- the oldest released batch of a queue starts on the device
  batch_starts : (queue : ℕ) → Told
  -- the batch of a queue that runs applies its next command
  batch_applies : (queue : ℕ) → Told
  -- the batch of a queue that runs makes its next signal: the first pending operation of this timeline is completed
  batch_signals : (queue timeline : ℕ) → Told
  -- the batch of a queue that runs is finished
  batch_ends : (queue : ℕ) → Told
  -- the host signals a value of a timeline
  host_signals : (timeline value : ℕ) → Told
  -- a batch is submitted that is taken back later: it has no place in the script
  batch_tried : (queue token : ℕ) → (waits signals : List Wanted) → Told
  -- the batch of a queue that was submitted last, which was tried, is taken back
  batch_taken_back : (queue : ℕ) → Told

-- the calls of a tale
abbrev pub calls_told : Told → List Call
calls_told (layer_called c) = c ∷ []
calls_told (batch_starts q) = []
calls_told (batch_applies q) = []
calls_told (batch_signals q n) = completes n ∷ []
calls_told (batch_ends q) = finishes q ∷ []
calls_told (host_signals n value) = sets n value ∷ []
calls_told (batch_tried q token waits signals) = submits q token waits signals ∷ []
calls_told (batch_taken_back q) = takes_back q ∷ []

abbrev pub calls_of : List Told → List Call
calls_of [] = []
calls_of (t ∷ tale) = calls_told t ++ calls_of tale

-- the number of a job in the script of what was submitted, and those of its first command and of its first signal
pub record Place : Type 0 where
  pub job : ℕ
  pub command : ℕ
  pub op : ℕ

-- how many commands of a batch that runs are applied, and how many of its signals are made
pub record Running : Type 0 where
  pub applied : ℕ
  pub made : ℕ

-- The state of a tale: the layer; the place that the next submission gets; of each queue the places of its batches that
-- aren't finished, in order, without those that are taken back, which stand last; how far the first one of these is,
-- where it runs; how many semaphores were opened, and which of them each number of the layer stands for: a number is
-- given again after its close.
pub record Scene : Type 0 where
  pub layer : Layer
  pub next : Place
  pub places : ℕ → List Place
  pub running : ℕ → Option Running
  pub opened : ℕ
  pub names : ℕ → ℕ

abbrev pub no_place : Place
no_place = record { job = 0; command = 0; op = 0 }

abbrev pub at_start : Running
at_start = record { applied = 0; made = 0 }

abbrev pub no_scene : Scene
no_scene =
    record {
      layer = no_layer;
      next = no_place;
      places = λ q. [];
      running = λ q. None;
      opened = 0;
      names = λ n. n;
    }

abbrev pub first_place : Scene → ℕ → Place
first_place sc q = slice_index_or (sc.places q) 0 no_place

abbrev pub running_in : Scene → ℕ → Running
running_in sc q = option_map_or (λ r. r) (sc.running q) at_start

-- When each may be told

-- how many batches of a queue aren't finished, and how many of these are released
abbrev pub count_batches : Layer → ℕ → ℕ
count_batches l q = length (queue_at l.queues q).batches

abbrev pub count_released : Layer → ℕ → ℕ
count_released l q = (queue_at l.queues q).released

-- of a queue the batches that have no place, and whether batches signal a number
abbrev pub tried_in : Scene → ℕ → List Batch
tried_in sc q = drop (length (sc.places q)) (queue_at sc.layer.queues q).batches

abbrev pub signals_some : ℕ → List Batch → Bool
signals_some n [] = false
signals_some n (b ∷ bs) = if signals_name n b.signals then true else signals_some n bs

-- No batch that is taken back signals a binary semaphore that is named here. (It may signal a timeline.)
abbrev pub AreClear : Scene → List Wanted → Type 0
AreClear sc [] = Unit {0}
AreClear sc (w ∷ ws) =
    ((kind_at sc.layer.kinds w.timeline ≡ kind_as.Timeline)
    ⊎ ((q : ℕ) → signals_some w.timeline (tried_in sc q) ≡ false))
    × AreClear sc ws

-- A batch with a place isn't submitted behind one of its queue that has none, since that one is taken back while it is
-- the last. Nor does it name a binary semaphore that such a batch signals: that signal would be used, and its batch
-- couldn't be taken back. Where nothing is taken back, each batch has a place, and this is so.
pub record MayPlace (sc : Scene) (q : ℕ) (waits signals : List Wanted) : Type 0 where
  pub each : length (sc.places q) ≡ count_batches sc.layer q
  pub waited : AreClear sc waits
  pub signaled : AreClear sc signals

-- Openings, closes, submissions, releases of what has a place, the host's references, and its resets of fences.
-- Finishes, completes, signals of the host and what is taken back are told by words of their own.
abbrev pub IsTold : Scene → Call → Type 0
IsTold sc (opens initial) = Unit {0}
IsTold sc (opens_binary signaled) = Unit {0}
IsTold sc opens_queue = Unit {0}
IsTold sc (closes n) = Unit {0}
IsTold sc (submits q token waits signals) = MayPlace sc q waits signals
IsTold sc (releases q) = count_released sc.layer q < length (sc.places q)
IsTold sc (resets n) = Unit {0}
IsTold sc (refers_to n p) = Unit {0}
IsTold sc (gives_back n p) = Unit {0}
IsTold sc c = ⊥

-- what is taken back has no place
pub record MayUndo (sc : Scene) (q : ℕ) : Type 0 where
  pub may : take_back_fault sc.layer q ≡ None
  pub tried : length (sc.places q) < count_batches sc.layer q

abbrev pub ArePast : List Live → List Wait → Type 0
ArePast ts [] = Unit {0}
ArePast ts (w ∷ ws) = (found_in ts w.wanted ≡ found_as.Past) × ArePast ts ws

-- A batch is told to start where it is the oldest released one of its queue, doesn't run yet, and each of its waits is
-- past.
pub record MayStart (sc : Scene) (q : ℕ) : Type 0 where
  pub batch : Batch
  pub oldest : oldest_in sc.layer q ≡ Some batch
  pub waiting : sc.running q ≡ None
  pub past : ArePast sc.layer.timelines batch.waits

pub record MayApply (w : Work) (sc : Scene) (q : ℕ) : Type 0 where
  pub batch : Batch
  pub oldest : oldest_in sc.layer q ≡ Some batch
  pub run : Running
  pub runs : sc.running q ≡ Some run
  pub left : run.applied < count_commands w batch.token

-- An operation is told to be completed where it is the next signal of a batch that runs, in the order in which they
-- stand in the batch, after the batch's commands.
pub record MaySignal (w : Work) (sc : Scene) (q n : ℕ) : Type 0 where
  pub batch : Batch
  pub oldest : oldest_in sc.layer q ≡ Some batch
  pub run : Running
  pub runs : sc.running q ≡ Some run
  pub applied : run.applied ≡ count_commands w batch.token
  pub signal : Signal
  pub next : slice_get batch.signals run.made ≡ Some signal
  pub of_timeline : signal.timeline ≡ n
  pub first : completed_of sc.layer n ≡ Some signal.given

-- A batch is told to be finished after all of its commands and signals.
pub record MayEnd (w : Work) (sc : Scene) (q : ℕ) : Type 0 where
  pub batch : Batch
  pub oldest : oldest_in sc.layer q ≡ Some batch
  pub all : sc.running q ≡ Some (record { applied = count_commands w batch.token; made = length batch.signals })

abbrev pub MayTell : Work → Scene → Told → Type 0
MayTell w sc (layer_called c) = IsTold sc c × MayCall sc.layer c
MayTell w sc (batch_starts q) = MayStart sc q
MayTell w sc (batch_applies q) = MayApply w sc q
MayTell w sc (batch_signals q n) = MaySignal w sc q n
MayTell w sc (batch_ends q) = MayEnd w sc q
MayTell w sc (host_signals n value) = set_fault sc.layer n value ≡ None
MayTell w sc (batch_tried q token waits signals) = submit_fault sc.layer q waits signals ≡ None
MayTell w sc (batch_taken_back q) = MayUndo sc q

-- What each leaves

abbrev pub after_place : Place → ℕ → ℕ → Place
after_place x commands signals =
    record { job = x.job + 1; command = x.command + commands; op = x.op + signals }

-- the next semaphore has the number that the layer gives next
abbrev pub scene_opened : Scene → Scene
scene_opened sc = record sc { opened = sc.opened + 1; names = put sc.names (free_number sc.layer) sc.opened }

-- what is opened signaled is signaled by the host at once
abbrev pub scene_called : Work → Scene → Call → Scene
scene_called w sc (opens initial) = scene_opened sc
scene_called w sc (opens_binary false) = scene_opened sc
scene_called w sc (opens_binary true) = record (scene_opened sc) { next = after_place sc.next 0 1 }
scene_called w sc (submits q token waits signals) =
    record sc {
      next = after_place sc.next (count_commands w token) (length (merged_all [] signals));
      places = put sc.places q (sc.places q ++ sc.next ∷ []);
    }
scene_called w sc c = sc

abbrev pub run_applied : Running → Running
run_applied r = record { applied = r.applied + 1; made = r.made }

abbrev pub run_signaled : Running → Running
run_signaled r = record { applied = r.applied; made = r.made + 1 }

abbrev pub scene_told : Work → Scene → Told → Scene
scene_told w sc (layer_called c) = scene_called w sc c
scene_told w sc (batch_starts q) = record sc { running = put sc.running q (Some at_start) }
scene_told w sc (batch_applies q) = record sc { running = put sc.running q (option_map run_applied (sc.running q)) }
scene_told w sc (batch_signals q n) =
    record sc { running = put sc.running q (option_map run_signaled (sc.running q)) }
scene_told w sc (batch_ends q) =
    record sc { places = put sc.places q (drop 1 (sc.places q)); running = put sc.running q None }
scene_told w sc (host_signals n value) = record sc { next = after_place sc.next 0 1 }
scene_told w sc (batch_tried q token waits signals) = sc
scene_told w sc (batch_taken_back q) = sc

abbrev pub after_told : Work → Scene → Told → Scene
after_told w sc t = record (scene_told w sc t) { layer = after_calls sc.layer (calls_told t) }

abbrev pub IsTaleFrom : Work → Scene → List Told → Type 0
IsTaleFrom w sc [] = Unit {0}
IsTaleFrom w sc (t ∷ tale) = MayTell w sc t × IsTaleFrom w (after_told w sc t) tale

abbrev pub after_tale : Work → Scene → List Told → Scene
after_tale w sc [] = sc
after_tale w sc (t ∷ tale) = after_tale w (after_told w sc t) tale

abbrev pub IsTale : Work → List Told → Type 0
IsTale w tale = IsTaleFrom w no_scene tale

-- The steps of the machine: a start, a command, a signal and a finish of a batch, and of the host's signal a start, its
-- signal and a finish. So it is where something is opened signaled.
abbrev pub host_steps : Place → List Step
host_steps x = StartStep x.job ∷ SignalStep x.op ∷ FinishStep x.job ∷ []

abbrev pub steps_called : Scene → Call → List Step
steps_called sc (opens_binary true) = host_steps sc.next
steps_called sc c = []

abbrev pub steps_told : Scene → Told → List Step
steps_told sc (layer_called c) = steps_called sc c
steps_told sc (batch_starts q) = StartStep (first_place sc q).job ∷ []
steps_told sc (batch_applies q) = ApplyStep ((first_place sc q).command + (running_in sc q).applied) ∷ []
steps_told sc (batch_signals q n) = SignalStep ((first_place sc q).op + (running_in sc q).made) ∷ []
steps_told sc (batch_ends q) = FinishStep (first_place sc q).job ∷ []
steps_told sc (host_signals n value) = host_steps sc.next
steps_told sc (batch_tried q token waits signals) = []
steps_told sc (batch_taken_back q) = []

abbrev pub steps_from : Work → Scene → List Told → List Step
steps_from w sc [] = []
steps_from w sc (t ∷ tale) = steps_told sc t ++ steps_from w (after_told w sc t) tale

abbrev pub steps_of : Work → List Told → List Step
steps_of w tale = steps_from w no_scene tale
