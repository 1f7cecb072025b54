-- What the parser keeps of the lines that it has read.
use Rattle.std.specs.Prelude.{ℕ, ◌≡◌, ◌+◌, Bool, nat_lt, true, false}
use Rattle.std.specs.Prelude.{List, [], ◌∷◌, ◌++◌, length, map, sum, Option}
use Rattle.std.specs.Prelude.{Some, None, is_some, if◌then◌else◌, replicate}
use Rattle.std.specs.List.{filter_map, flat_map, list_any}
use Rattle.std.specs.Option.{option_or}
use Rattle.vq_model.specs.declared.script.Buffer.{Buffer}
use Rattle.vq_model.specs.declared.script.Semaphore.{Semaphore}
use Rattle.vq_model.specs.declared.script.Queue.{Queue}
use Rattle.vq_model.specs.declared.script.Batch.{Batch}
use Rattle.vq_model.specs.declared.script.CommandLine.{CommandLine}
use Rattle.vq_model.specs.declared.script.Mark.{Mark}
use Rattle.vq_model.specs.declared.script.Job.{Job}
use Rattle.vq_model.specs.declared.script.ActorName.{ActorName}
use Rattle.vq_model.specs.declared.script.Turn.{Turn}
use Rattle.vq_model.specs.declared.script.Job.TheVariants.{Host, Batch as BatchJob}
use Rattle.vq_model.specs.declared.script.HostLine.{HostLine}
use Rattle.vq_model.specs.declared.statement.Line.{Line}
use Rattle.vq_model.specs.declared.statement.Section.{Section}
use Rattle.vq_model.specs.declared.statement.Section.TheVariants.{Outside, InBatch, InSchedule}
use Rattle.vq_model.specs.Context.{section, version_of, buffers, semaphores, queues, count, some, open_batch}
use Rattle.vq_model.specs.Context.{is_command, is_wait, is_signal, is_batch_fence, turns_of}
use Rattle.vq_model.specs.Context.{is_job, part_of, held_from}
use Rattle.vq_model.specs.Limits.{limits_of}
use Rattle.vq_model.specs.declared.limits.Limits.{Limits}
use Rattle.vq_model.specs.ScriptOfLines.{batch_lines, wait_of, command_of, signal_of, fence_of, first_of_list, jobs_of}
use Rattle.vq_model.specs.ScriptOfLines.{is_schedule, turns_at}
use Rattle.vq_script.specs.declared.known.Known.{Known}
use Rattle.vq_script.specs.declared.open_batch.OpenBatch.{OpenBatch}

-- What lines declare and submit, but for a batch that is open.
pub record Kept : Type 0 where
  -- the version, and its limits
  pub version : ℕ
  pub most : Limits
  pub buffers : List Buffer
  -- the bytes of all buffers together
  pub bytes : ℕ
  pub semaphores : List Semaphore
  pub queues : List Queue
  -- the steps of the host, and the batches that have ended
  pub jobs : List Job
  -- the commands of all batches together
  pub commands : ℕ
  -- whether the schedule has begun, and its turns
  pub scheduled : Bool
  pub turns : List Turn

abbrev pub kept : Known → Kept
kept known =
    record {
      version = known.version;
      most = known.limits;
      buffers = known.buffers.items;
      bytes = known.bytes;
      semaphores = known.semaphores.items;
      queues = known.queues.items;
      jobs = known.jobs.items;
      commands = known.commands;
      scheduled = known.scheduled;
      turns = known.turns.items;
    }

-- what is kept of no lines, or of a line that names a version
abbrev pub nothing : ℕ → Kept
nothing version =
    record {
      version = version;
      most = limits_of version;
      buffers = [];
      bytes = 0;
      semaphores = [];
      queues = [];
      jobs = [];
      commands = 0;
      scheduled = false;
      turns = [];
    }

-- what is kept after a line more

abbrev pub with_buffer : Kept → Buffer → Kept
with_buffer k b = record k { buffers = k.buffers ++ b ∷ []; bytes = k.bytes + b.size }

abbrev pub with_semaphore : Kept → Semaphore → Kept
with_semaphore k s = record k { semaphores = k.semaphores ++ s ∷ [] }

abbrev pub with_queue : Kept → Queue → Kept
with_queue k q = record k { queues = k.queues ++ q ∷ [] }

abbrev pub with_command : Kept → Kept
with_command k = record k { commands = k.commands + 1 }

abbrev pub with_batch : Kept → Batch → Kept
with_batch k b = record k { jobs = k.jobs ++ BatchJob b ∷ [] }

abbrev pub with_step : Kept → HostLine → Kept
with_step k h = record k { jobs = k.jobs ++ Host h ∷ [] }

abbrev pub with_schedule : Kept → Kept
with_schedule k = record k { scheduled = true }

abbrev pub with_turns : Kept → ℕ → ActorName → ℕ → Kept
with_turns k n actor count =
    record k { turns = k.turns ++ replicate count (record { line = n; actor = actor }) }

-- The open batch

-- an open batch, as if it ended here
abbrev pub batch_so_far : OpenBatch → Batch
batch_so_far b =
    record {
      line = b.line;
      queue = b.queue;
      waits = b.waits.items;
      commands = b.commands.items;
      signals = b.signals.items;
      fence = b.fence;
    }

abbrev pub open_so_far : Option OpenBatch → Option Batch
open_so_far None = None
open_so_far (Some b) = Some (batch_so_far b)

-- the part of the text in which the next line stands, by whether the schedule has begun
abbrev pub section_of : Bool → Option Batch → Section
section_of scheduled (Some b) = InBatch
section_of true None = InSchedule
section_of false None = Outside

abbrev pub waits_of : Option Batch → List Mark
waits_of None = []
waits_of (Some b) = b.waits

abbrev pub commands_of : Option Batch → List CommandLine
commands_of None = []
commands_of (Some b) = b.commands

abbrev pub signals_of : Option Batch → List Mark
signals_of None = []
signals_of (Some b) = b.signals

abbrev pub named_fence : Option Batch → Option Mark
named_fence None = None
named_fence (Some b) = b.fence

-- a batch that is open is a job
abbrev pub open_jobs : Option Batch → ℕ
open_jobs None = 0
open_jobs (Some b) = 1

-- the last part of a batch of which there is a line, by whether it has waits, commands, signals
-- and a fence
abbrev pub last_part_by : (waits commands signals fence : Bool) → ℕ
last_part_by waits commands signals fence =
    if fence then 4
    else if signals then 3
    else if commands then 2
    else if waits then 1
    else 0

abbrev pub last_part : Option Batch → ℕ
last_part batch =
    last_part_by (nat_lt 0 (length (waits_of batch))) (nat_lt 0 (length (commands_of batch)))
    (nat_lt 0 (length (signals_of batch))) (is_some (named_fence batch))

-- the jobs that follow, where the open batch goes on
abbrev pub jobs_with : Option Batch → List Line → List Job
jobs_with None rest = jobs_of rest
jobs_with (Some b) rest =
    BatchJob (
    record {
      line = b.line;
      queue = b.queue;
      waits = b.waits ++ filter_map wait_of (batch_lines rest);
      commands = b.commands ++ filter_map command_of (batch_lines rest);
      signals = b.signals ++ filter_map signal_of (batch_lines rest);
      fence = option_or b.fence (first_of_list (filter_map fence_of (batch_lines rest)));
    }
    ) ∷ jobs_of rest

-- a wait of these holds back a batch only from behind a place on
abbrev pub waits_past : ℕ → List Mark → Bool
waits_past n waits = list_any (λ m. nat_lt n m.from) waits

-- Lines declare and schedule what is kept of them.
pub record Declares (lines : List Line) (k : Kept) : Type 0 where
  pub version : version_of lines ≡ k.version
  pub limits : limits_of k.version ≡ k.most
  pub all_buffers : buffers lines ≡ k.buffers
  pub all_bytes : sum (map (λ b. b.size) k.buffers) ≡ k.bytes
  pub all_semaphores : semaphores lines ≡ k.semaphores
  pub all_queues : queues lines ≡ k.queues
  pub schedule : some is_schedule lines ≡ k.scheduled
  pub all_turns : flat_map turns_at lines ≡ k.turns
  pub turn_count : sum (map (λ line. turns_of line.statement) lines) ≡ length k.turns

-- The lines of the open batch so far are those of this batch.
pub record FillBatch (inside : List Line) (batch : Option Batch) : Type 0 where
  pub all_waits : count is_wait inside ≡ length (waits_of batch)
  pub all_commands : count is_command inside ≡ length (commands_of batch)
  pub all_signals : count is_signal inside ≡ length (signals_of batch)
  pub fences : some is_batch_fence inside ≡ is_some (named_fence batch)
  pub in_order : (n : ℕ) → some (λ s. nat_lt n (part_of s)) inside ≡ nat_lt n (last_part batch)
  pub held : (n : ℕ) → some (λ s. nat_lt n (held_from s)) inside ≡ waits_past n (waits_of batch)

-- Lines say what is kept of them, and leave this batch open.
pub record Holds (lines : List Line) (k : Kept) (batch : Option Batch) : Type 0 where
  pub part : section lines ≡ section_of k.scheduled batch
  -- no batch is open in the schedule
  pub unscheduled : is_some batch ≡ true → k.scheduled ≡ false
  pub declares : Declares lines k
  pub all_jobs : count is_job lines ≡ length k.jobs + open_jobs batch
  pub all_commands : count is_command lines ≡ k.commands
  pub inside : FillBatch (open_batch lines) batch
  pub jobs : (rest : List Line) → jobs_of (lines ++ rest) ≡ k.jobs ++ jobs_with batch rest

-- there are no lines
abbrev pub are_none : List Line → Bool
are_none [] = true
are_none (line ∷ lines) = false

-- The parser knows this of the lines that it has read, and whether there are any.
pub record Keeps (lines : List Line) (known : Known) : Type 0 where
  pub holds : Holds lines (kept known) (open_so_far known.batch)
  pub first : are_none lines ≡ known.first
