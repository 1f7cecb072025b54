-- What the lines before a line say: the part of the text, what is declared, the open batch.
-- The context is always the list of the earlier lines. The format is this project's own.
use Rattle.std.specs.Prelude.{List, fold, Option, Some, None, ℕ, Bool, ◌||◌, true, false, ◌&&◌, [], ◌∷◌}
use Rattle.std.specs.Prelude.{count_by, nat_lt, ◌+◌}
use Rattle.std.specs.List.{filter_map, list_any, position, slice_get, after_last}
use Rattle.std.specs.Str.{bytes_eq}
use Rattle.std.specs.Option.{option_map_or}
use Rattle.vq_model.specs.declared.statement.Section.{Section}
use Rattle.vq_model.specs.declared.statement.Section.TheVariants.{Outside, InBatch, InSchedule}
use Rattle.vq_model.specs.declared.statement.Statement.{Statement}
use Rattle.vq_model.specs.declared.statement.Statement.TheVariants.{BeginBatch, EndBatch, BeginSchedule, DeclareBuffer}
use Rattle.vq_model.specs.declared.statement.Statement.TheVariants.{DeclareSemaphore, DeclareQueue, HasVersion}
use Rattle.vq_model.specs.declared.statement.Statement.TheVariants.{TakeHostStep, AddWait, AddCommand, AddSignal}
use Rattle.vq_model.specs.declared.statement.Statement.TheVariants.{AddFence, TakeTurns}
use Rattle.vq_model.specs.declared.statement.Line.{Line}
use Rattle.vq_model.specs.Forms.{Slot, BufferName, TimelineName, BinaryName, FenceName, QueueName, ThreadedName}
use Rattle.vq_model.specs.declared.script.Buffer.{Buffer}
use Rattle.vq_model.specs.declared.script.Semaphore.{Semaphore}
use Rattle.vq_model.specs.declared.script.Queue.{Queue}
use Rattle.vq_model.specs.declared.script.SemaphoreKind.{SemaphoreKind}
use Rattle.vq_model.specs.declared.script.SemaphoreKind.TheVariants.{Timeline, Binary, Fence}
use Rattle.vq_model.specs.declared.script.Mode.{Mode}
use Rattle.vq_model.specs.declared.script.Mode.TheVariants.{Deferred, Immediate, Threaded}

-- Parts of the text

-- the part in which a statement leaves the text
abbrev pub section_after : Section → Statement → Section
section_after was (BeginBatch q) = InBatch
section_after was EndBatch = Outside
section_after was BeginSchedule = InSchedule
section_after was other = was

-- the part in which a line stands
abbrev pub section : List Line → Section
section before = fold (λ was line. section_after was line.statement) Outside before

-- Declarations

abbrev pub buffer_of : Line → Option Buffer
buffer_of line = by_statement line.statement
  where
    by_statement : Statement → Option Buffer
    by_statement (DeclareBuffer name size) =
        Some (record { line = line.number; name = name; size = size })
    by_statement other = None

abbrev pub semaphore_of : Line → Option Semaphore
semaphore_of line = by_statement line.statement
  where
    by_statement : Statement → Option Semaphore
    by_statement (DeclareSemaphore name kind) =
        Some (record { line = line.number; name = name; kind = kind })
    by_statement other = None

abbrev pub queue_of : Line → Option Queue
queue_of line = by_statement line.statement
  where
    by_statement : Statement → Option Queue
    by_statement (DeclareQueue name mode) =
        Some (record { line = line.number; name = name; mode = mode })
    by_statement other = None

-- what lines declare, in their order
abbrev pub buffers : List Line → List Buffer
buffers lines = filter_map buffer_of lines

abbrev pub semaphores : List Line → List Semaphore
semaphores lines = filter_map semaphore_of lines

abbrev pub queues : List Line → List Queue
queues lines = filter_map queue_of lines

-- some buffer, semaphore or queue has this name
abbrev pub is_taken : List Buffer → List Semaphore → List Queue → List ℕ → Bool
is_taken bs ss qs name =
    list_any (λ b. bytes_eq name b.name) bs
    || list_any (λ s. bytes_eq name s.name) ss
    || list_any (λ q. bytes_eq name q.name) qs

abbrev pub is_declared : List Line → List ℕ → Bool
is_declared before = is_taken (buffers before) (semaphores before) (queues before)

-- Names

abbrev pub is_timeline : SemaphoreKind → Bool
is_timeline (Timeline v) = true
is_timeline other = false

abbrev pub is_binary : SemaphoreKind → Bool
is_binary Binary = true
is_binary other = false

abbrev pub is_fence : SemaphoreKind → Bool
is_fence Fence = true
is_fence other = false

abbrev pub is_immediate : Mode → Bool
is_immediate Immediate = true
is_immediate other = false

abbrev pub is_deferred : Mode → Bool
is_deferred Deferred = true
is_deferred other = false

abbrev pub is_threaded : Mode → Bool
is_threaded Threaded = true
is_threaded other = false

-- the number of what has a name, among what is declared, of the kind that a place needs
abbrev pub number_in : List Buffer → List Semaphore → List Queue → Slot → List ℕ → Option ℕ
number_in bs ss qs BufferName name = position (λ b. bytes_eq name b.name) bs
number_in bs ss qs TimelineName name =
    position (λ s. bytes_eq name s.name && is_timeline s.kind) ss
number_in bs ss qs BinaryName name = position (λ s. bytes_eq name s.name && is_binary s.kind) ss
number_in bs ss qs FenceName name = position (λ s. bytes_eq name s.name && is_fence s.kind) ss
number_in bs ss qs QueueName name = position (λ q. bytes_eq name q.name) qs
number_in bs ss qs ThreadedName name =
    position (λ q. bytes_eq name q.name && is_threaded q.mode) qs
number_in bs ss qs place name = None

-- .. after these lines
abbrev pub number_at : List Line → Slot → List ℕ → Option ℕ
number_at before = number_in (buffers before) (semaphores before) (queues before)

-- the size of a buffer, 0 where there is none
abbrev pub size_in : List Buffer → ℕ → ℕ
size_in bs b = option_map_or (λ x. x.size) (slice_get bs b) 0

-- The version

-- the version that the first line names; without such a line it is 1
abbrev pub version_of : List Line → ℕ
version_of [] = 1
version_of (first ∷ lines) = by_statement first.statement
  where
    by_statement : Statement → ℕ
    by_statement (HasVersion version) = version
    by_statement other = 1

-- Statements that were made

abbrev pub is_submit : Statement → Bool
is_submit (BeginBatch q) = true
is_submit other = false

abbrev pub is_end : Statement → Bool
is_end EndBatch = true
is_end other = false

abbrev pub is_host_step : Statement → Bool
is_host_step (TakeHostStep step) = true
is_host_step other = false

abbrev pub is_wait : Statement → Bool
is_wait (AddWait pair from) = true
is_wait other = false

abbrev pub is_command : Statement → Bool
is_command (AddCommand command) = true
is_command other = false

abbrev pub is_signal : Statement → Bool
is_signal (AddSignal pair) = true
is_signal other = false

abbrev pub is_batch_fence : Statement → Bool
is_batch_fence (AddFence fence) = true
is_batch_fence other = false

abbrev pub is_job : Statement → Bool
is_job s = is_submit s || is_host_step s

-- the part of a batch to which a statement belongs; one of no batch has part 0
abbrev pub part_of : Statement → ℕ
part_of (AddWait pair from) = 1
part_of (AddCommand command) = 2
part_of (AddSignal pair) = 3
part_of (AddFence fence) = 4
part_of other = 0

-- the command of its batch from which on a wait holds back
abbrev pub held_from : Statement → ℕ
held_from (AddWait pair from) = from
held_from other = 0

-- how many lines are such statements
abbrev pub count : (Statement → Bool) → List Line → ℕ
count test lines = count_by (λ line. test line.statement) lines

-- some line is such a statement
abbrev pub some : (Statement → Bool) → List Line → Bool
some test lines = list_any (λ line. test line.statement) lines

-- the first `submit` or `host` line has come
abbrev pub has_begun : List Line → Bool
has_begun before = some (λ s. is_submit s || is_host_step s) before

-- the lines of the open batch so far
abbrev pub open_batch : List Line → List Line
open_batch before = after_last (λ line. is_submit line.statement || is_end line.statement) before

-- how many turns a line of the schedule gives
abbrev pub turns_of : Statement → ℕ
turns_of (TakeTurns actor count) = count
turns_of other = 0

-- a wait of a batch holds back no command of it, and not its signals either: it names a place past
-- them
abbrev pub waits_too_far : List Line → Bool
waits_too_far batch = some (λ s. nat_lt (count is_command batch + 1) (held_from s)) batch
