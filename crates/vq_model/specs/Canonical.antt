-- The canonical text of a script. The format is this project's own.
use Rattle.std.specs.Prelude.{ℕ, List, [], zero, suc, ◌/◌, ◌%◌, ◌∷◌, ◌+◌, ◌++◌, codes, ◌==◌}
use Rattle.std.specs.Prelude.{if◌then◌else◌, nat_lt}
use Rattle.std.specs.Prelude.{Option, Some, None, map}
use Rattle.std.specs.List.{flat_map, join_with_byte}
use Rattle.std.specs.Char.{digit_char}
use Rattle.std.specs.Fmt.{decimal}
use Rattle.vq_model.specs.declared.script.Script.{Script}
use Rattle.vq_model.specs.declared.script.SemaphoreKind.{SemaphoreKind}
use Rattle.vq_model.specs.declared.script.SemaphoreKind.TheVariants.{Binary, Timeline, Fence}
use Rattle.vq_model.specs.declared.script.FillSize.{FillSize}
use Rattle.vq_model.specs.declared.script.FillSize.TheVariants.{Whole, Count}
use Rattle.vq_model.specs.declared.script.ActorName.{ActorName}
use Rattle.vq_model.specs.declared.script.Pair.{Pair}
use Rattle.vq_model.specs.declared.script.Buffer.{Buffer}
use Rattle.vq_model.specs.declared.script.Semaphore.{Semaphore}
use Rattle.vq_model.specs.declared.script.Queue.{Queue}
use Rattle.vq_model.specs.declared.script.HostStep.{HostStep}
use Rattle.vq_model.specs.declared.script.HostStep.TheVariants.{Signal, WaitAll, WaitAny, PollAll, PollAny, Read}
use Rattle.vq_model.specs.declared.script.HostStep.TheVariants.{FenceWait, FencePoll, FenceReset, Idle}
use Rattle.vq_model.specs.declared.script.Mark.{Mark}
use Rattle.vq_model.specs.declared.script.Command.{Command}
use Rattle.vq_model.specs.declared.script.Command.TheVariants.{Fill, Update, Copy}
use Rattle.vq_model.specs.declared.script.Job.{Job}
use Rattle.vq_model.specs.declared.script.Job.TheVariants.{Host, Batch as BatchJob}
use Rattle.vq_model.specs.declared.script.Turn.{Turn}
use Rattle.vq_model.specs.Forms.{mode_word}
use Rattle.vq_model.specs.Naming.{buffer_name, semaphore_name, semaphore_kind, queue_name, actor_word, same_actor}

-- so many lower-case hexadecimal digits of a number, the last one last
abbrev pub hex_digits : ℕ → ℕ → List ℕ
hex_digits count n = digits_onto count n []
  where
    digits_onto : ℕ → ℕ → List ℕ → List ℕ
    digits_onto zero n digits = digits
    digits_onto (suc count) n digits = digits_onto count (n / 16) (digit_char (n % 16) ∷ digits)

-- the word of a fill: 0x and eight digits
abbrev pub fill_word : ℕ → List ℕ
fill_word word = codes "0x" ++ hex_digits 8 word

abbrev pub fill_size_word : FillSize → List ℕ
fill_size_word Whole = codes "whole"
fill_size_word (Count n) = decimal n

-- the words of pairs
abbrev pub pair_words : Script → Pair → List (List ℕ)
pair_words s p = semaphore_name s p.semaphore ∷ decimal p.value ∷ []

abbrev pub version_words : ℕ → List (List (List ℕ))
version_words version = if version == 2 then (codes "version" ∷ codes "2" ∷ []) ∷ [] else []

abbrev pub buffer_words : Buffer → List (List ℕ)
buffer_words b = codes "buffer" ∷ b.name ∷ decimal b.size ∷ []

abbrev pub semaphore_words : Semaphore → List (List ℕ)
semaphore_words x = by_kind x.name x.kind
  where
    by_kind : List ℕ → SemaphoreKind → List (List ℕ)
    by_kind name (Timeline value) = codes "timeline" ∷ name ∷ decimal value ∷ []
    by_kind name Binary = codes "binary" ∷ name ∷ []
    by_kind name Fence = codes "fence" ∷ name ∷ []

abbrev pub queue_words : Queue → List (List ℕ)
queue_words q = codes "queue" ∷ q.name ∷ mode_word q.mode ∷ []

abbrev pub step_words : Script → HostStep → List (List ℕ)
step_words s (Signal p) = codes "signal" ∷ pair_words s p
step_words s (WaitAll ps) = codes "wait" ∷ codes "all" ∷ flat_map (pair_words s) ps
step_words s (WaitAny ps) = codes "wait" ∷ codes "any" ∷ flat_map (pair_words s) ps
step_words s (PollAll ps) = codes "poll" ∷ codes "all" ∷ flat_map (pair_words s) ps
step_words s (PollAny ps) = codes "poll" ∷ codes "any" ∷ flat_map (pair_words s) ps
step_words s (Read t) = codes "read" ∷ semaphore_name s t ∷ []
step_words s (FenceWait f) = codes "fence" ∷ codes "wait" ∷ semaphore_name s f ∷ []
step_words s (FencePoll f) = codes "fence" ∷ codes "poll" ∷ semaphore_name s f ∷ []
step_words s (FenceReset f) = codes "fence" ∷ codes "reset" ∷ semaphore_name s f ∷ []
step_words s Idle = codes "idle" ∷ []

-- the words of a wait's or signal's semaphore: a timeline has a value, a binary semaphore none
abbrev pub marked_words : List ℕ → ℕ → SemaphoreKind → List (List ℕ)
marked_words name value (Timeline initial) = name ∷ decimal value ∷ []
marked_words name value other = name ∷ []

abbrev pub mark_words : Script → Mark → List (List ℕ)
mark_words s m = marked_words (semaphore_name s m.semaphore) m.value (semaphore_kind s m.semaphore)

-- the place from which a wait holds back is written where it is above 1
abbrev pub from_words : ℕ → List (List ℕ)
from_words from = if nat_lt 1 from then codes "from" ∷ decimal from ∷ [] else []

abbrev pub wait_words : Script → Mark → List (List ℕ)
wait_words s m = codes "wait" ∷ mark_words s m ++ from_words m.from

abbrev pub signal_words : Script → Mark → List (List ℕ)
signal_words s m = codes "signal" ∷ mark_words s m

abbrev pub fence_words : Script → Mark → List (List ℕ)
fence_words s m = codes "fence" ∷ semaphore_name s m.semaphore ∷ []

abbrev pub command_words : Script → Command → List (List ℕ)
command_words s (Fill b offset size word) =
    codes "fill" ∷ buffer_name s b ∷ decimal offset ∷ fill_size_word size ∷ fill_word word ∷ []
command_words s (Update b offset bytes) =
    codes "update" ∷ buffer_name s b ∷ decimal offset ∷ flat_map (hex_digits 2) bytes ∷ []
command_words s (Copy source from target to size) =
    codes "copy" ∷ buffer_name s source ∷ decimal from ∷ buffer_name s target ∷ decimal to ∷
    decimal size ∷ []

-- the lines of an optional fence
abbrev pub fence_lines : Script → Option Mark → List (List (List ℕ))
fence_lines s None = []
fence_lines s (Some m) = fence_words s m ∷ []

-- the lines of a job
abbrev pub job_words : Script → Job → List (List (List ℕ))
job_words s (Host h) = (codes "host" ∷ step_words s h.step) ∷ []
job_words s (BatchJob b) =
    (codes "submit" ∷ queue_name s b.queue ∷ [])
    ∷ map (wait_words s) b.waits
    ++ map (λ c. command_words s c.command) b.commands
    ++ map (signal_words s) b.signals
    ++ fence_lines s b.fence
    ++ (codes "end" ∷ []) ∷ []

-- an actor with how many turns
abbrev pub Turns : Type 0
Turns = ActorName × ℕ

-- a turn before others: neighbouring turns of one actor are one
abbrev pub with_turn : ActorName → List Turns → List Turns
with_turn a [] = (a, 1) ∷ []
with_turn a ((b, n) ∷ turns) =
    if same_actor a b then (b, n + 1) ∷ turns else (a, 1) ∷ (b, n) ∷ turns

abbrev pub joined_turns : List Turn → List Turns
joined_turns [] = []
joined_turns (t ∷ ts) = with_turn t.actor (joined_turns ts)

-- the count is written where it is above 1
abbrev pub turns_words : Script → Turns → List (List ℕ)
turns_words s (a, n) = if nat_lt 1 n then actor_word s a ∷ decimal n ∷ [] else actor_word s a ∷ []

abbrev pub schedule_words : Script → List (List (List ℕ))
schedule_words s =
    if s.scheduled then (codes "schedule" ∷ []) ∷ map (turns_words s) (joined_turns s.turns) else []

-- all lines of a script: buffers, semaphores, queues, jobs, and the schedule
abbrev pub canonical_lines : Script → List (List (List ℕ))
canonical_lines s =
    version_words s.version
    ++ map buffer_words s.buffers
    ++ map semaphore_words s.semaphores
    ++ map queue_words s.queues
    ++ flat_map (job_words s) s.jobs
    ++ schedule_words s

-- one space between words, and a line feed
abbrev pub line_text : List (List ℕ) → List ℕ
line_text words = join_with_byte 32 words ++ 10 ∷ []

-- The canonical text of a script.
abbrev pub canonical_text : Script → List ℕ
canonical_text s = flat_map line_text (canonical_lines s)
