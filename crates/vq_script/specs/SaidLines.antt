-- What a line says, before it is kept, and what is kept after it.
use Rattle.std.specs.Prelude.{ℕ, cond, ◌≡◌, ◌||◌, ◌+◌, ◌<◌, ◌≤◌, ◌^◌, Bool, true, false}
use Rattle.std.specs.Prelude.{codes, nat_lt, List, [], ◌∷◌, ◌++◌}
use Rattle.std.specs.Prelude.{Option, Some, None, is_some, map, length, ⊤}
use Rattle.std.specs.Borrow.{Bor}
use Rattle.std.specs.Option.{option_map}
use Rattle.std.specs.Str.{bytes_eq}
use Rattle.vq_model.specs.declared.script.Batch.{Batch}
use Rattle.vq_model.specs.declared.script.Command.{Command}
use Rattle.vq_model.specs.declared.script.Command.TheVariants.{Fill, Update, Copy}
use Rattle.vq_model.specs.declared.script.FillSize.TheVariants.{Whole, Count}
use Rattle.vq_model.specs.declared.script.Pair.{Pair}
use Rattle.vq_model.specs.declared.statement.LineForm.{LineForm}
use Rattle.vq_model.specs.declared.statement.LineForm.TheVariants.{BufferLine, TimelineLine, BinaryLine, FenceLine}
use Rattle.vq_model.specs.declared.statement.LineForm.TheVariants.{QueueLine, UpdateLine, SubmitLine}
use Rattle.vq_model.specs.declared.statement.LineForm.TheVariants.{SignalTimelineLine, SignalBinaryLine}
use Rattle.vq_model.specs.declared.statement.LineForm.TheVariants.{BatchFenceLine, EndLine}
use Rattle.vq_model.specs.declared.statement.LineForm.TheVariants.{ScheduleLine, TurnLine, TurnsLine}
use Rattle.vq_model.specs.declared.statement.LineForm.TheVariants.{HostSignalLine}
use Rattle.vq_model.specs.declared.statement.LineForm.TheVariants.{HostReadLine}
use Rattle.vq_model.specs.declared.statement.LineForm.TheVariants.{HostFenceWaitLine, HostFencePollLine}
use Rattle.vq_model.specs.declared.statement.LineForm.TheVariants.{HostFenceResetLine, HostIdleLine, VersionLine}
use Rattle.vq_model.specs.declared.statement.Statement.{Statement}
use Rattle.vq_model.specs.declared.statement.Statement.TheVariants.{AddWait, AddCommand, AddSignal, AddFence}
use Rattle.vq_model.specs.declared.statement.Statement.TheVariants.{BeginBatch, EndBatch, DeclareBuffer}
use Rattle.vq_model.specs.declared.statement.Statement.TheVariants.{DeclareSemaphore, DeclareQueue}
use Rattle.vq_model.specs.declared.statement.Statement.TheVariants.{BeginSchedule, TakeTurns, TakeHostStep}
use Rattle.vq_model.specs.Forms.{Slot, NewName, HexDigits}
use Rattle.vq_model.specs.Forms.{Fixed, Pairs, places}
use Rattle.vq_model.specs.LineFaults.{part_of_form}
use Rattle.vq_model.specs.Meaning.{is_hex, is_marked, hex_bytes}
use Rattle.vq_model.specs.Meaning.{statement_of, pair_places}
use Rattle.vq_model.specs.ScriptOfLines.{mark}
use Rattle.vq_model.specs.Text.{is_name}
use Rattle.vq_forms.specs.OpenWords.{opens}
use Rattle.vq_script.specs.declared.said.Said.{Said}
use Rattle.vq_script.specs.declared.said.Said.TheVariants.{Buffer, Semaphore, Queue, Submit, Wait, FillWhole}
use Rattle.vq_script.specs.declared.said.Said.TheVariants.{Fill as SaidFill, Update as SaidUpdate, Copy as SaidCopy}
use Rattle.vq_script.specs.declared.said.Said.TheVariants.{Signal, Fence, End, Host, Schedule, Turns}
use Rattle.vq_script.specs.Holds.{Kept, last_part, with_buffer, with_semaphore, with_queue, with_command, with_batch}
use Rattle.vq_script.specs.Holds.{with_step, with_schedule, with_turns}
use Rattle.vq_script.specs.LineTests.{number_of}
use Rattle.vq_model.specs.Context.{is_taken}
use Rattle.vq_script.specs.SaidSteps.{step_in, IsReadStep}
use Rattle.vq_script.specs.declared.host_steps.SaidStep.{SaidStep}

-- the statement that is said, where names stand for what is kept
abbrev pub statement_in : Kept → Said → Statement
statement_in k (Buffer name size) = DeclareBuffer name.now size
statement_in k (Semaphore name kind) = DeclareSemaphore name.now kind
statement_in k (Queue name mode) = DeclareQueue name.now mode
statement_in k (Submit queue) = BeginBatch queue
statement_in k (Wait pair from) = AddWait pair from
statement_in k (FillWhole b o w) = AddCommand (Fill b o Whole w)
statement_in k (SaidFill b o n w) = AddCommand (Fill b o (Count n) w)
statement_in k (SaidUpdate b o digits) = AddCommand (Update b o (hex_bytes digits.now))
statement_in k (SaidCopy s from t to n) = AddCommand (Copy s from t to n)
statement_in k (Signal pair) = AddSignal pair
statement_in k (Fence f) = AddFence f
statement_in k End = EndBatch
statement_in k (Host step) = TakeHostStep (step_in k step)
statement_in k Schedule = BeginSchedule
statement_in k (Turns actor count) = TakeTurns actor count

-- The words of a form

-- the places that are no fixed words
abbrev pub open_kinds : List Slot → List Slot
open_kinds [] = []
open_kinds (Fixed text ∷ more) = open_kinds more
open_kinds (place ∷ more) = place ∷ open_kinds more

-- words stand at the open places of a form
abbrev pub AreOf : LineForm → List (Slot × List ℕ) → Type 0
AreOf form words = map (λ x. x.0) words ≡ open_kinds (places form)

-- texts at places, one each
abbrev pub placed : List Slot → List (List ℕ) → List (Slot × List ℕ)
placed (place ∷ places) (text ∷ texts) = (place, text) ∷ placed places texts
placed places texts = []

abbrev pub are_one_each : List Slot → List (List ℕ) → Bool
are_one_each [] [] = true
are_one_each (place ∷ places) (text ∷ texts) = are_one_each places texts
are_one_each places texts = false

-- places that end with pairs
abbrev pub end_with_pairs : List Slot → Bool
end_with_pairs [] = false
end_with_pairs (Pairs ∷ []) = true
end_with_pairs (place ∷ more) = end_with_pairs more

-- Words are found at the open places of a form: one at each, or pairs where it ends with them.
pub record AreFound (form : LineForm) (words : List (Slot × List ℕ)) : Type 0 where
  pub each : end_with_pairs (places form) ≡ false → AreOf form words
  pub pairs : end_with_pairs (places form) ≡ true → words ≡ pair_places (map (λ x. x.1) words)

-- One word stands at each place of a form.
abbrev pub AreEach : LineForm → List (Bor (List ℕ)) → Type 0
AreEach form words = length words ≡ length (places form)

-- Words stand at the places of a form: one at each, or pairs behind the first three where it ends with them.
pub record Fits (form : LineForm) (words : List (Bor (List ℕ))) : Type 0 where
  pub each : end_with_pairs (places form) ≡ false → AreEach form words
  pub pairs : end_with_pairs (places form) ≡ true → 3 ≤ length words
  pub found : AreFound form (opens form words)

-- whether a form is one of the schedule's turns
abbrev pub is_turn_form : LineForm → Bool
is_turn_form TurnLine = true
is_turn_form TurnsLine = true
is_turn_form other = false

-- whether a word is the host, or begins as the other actors do
abbrev pub is_actor_or_marked : List ℕ → Bool
is_actor_or_marked word = bytes_eq word (codes "host") || is_marked 83 word || is_marked 82 word

-- whether turns stand where the next line stands
abbrev pub takes_turns : Bool → Option Batch → Bool
takes_turns scheduled None = scheduled
takes_turns scheduled (Some b) = false

-- whether a form names the version
abbrev pub is_version_form : LineForm → Bool
is_version_form VersionLine = true
is_version_form other = false

-- A form stands where a batch is open, or where none is; in the schedule, or before it. It doesn't name
-- the version: what it says is of the version of the lines before it.
pub record Stands (form : LineForm) (scheduled : Bool) (batch : Option Batch) : Type 0 where
  pub inside : nat_lt 0 (part_of_form form) ≡ is_some batch
  pub turns : is_turn_form form ≡ takes_turns scheduled batch
  pub later : is_version_form form ≡ false

-- the part of a batch to which a line belongs
abbrev pub part_in : Said → ℕ
part_in (Wait pair from) = 1
part_in (FillWhole b o w) = 2
part_in (SaidFill b o n w) = 2
part_in (SaidUpdate b o digits) = 2
part_in (SaidCopy s from t to n) = 2
part_in (Signal pair) = 3
part_in (Fence f) = 4
part_in End = 5
part_in other = 0

-- whether turns are taken
abbrev pub turns_in : Said → Bool
turns_in (Turns actor count) = true
turns_in other = false

-- the word that is kept as it stands, with its place: a name that is declared, or digits
abbrev pub copied_in : Said → Option (Slot × List ℕ)
copied_in (Buffer name size) = Some (NewName, name.now)
copied_in (Semaphore name kind) = Some (NewName, name.now)
copied_in (Queue name mode) = Some (NewName, name.now)
copied_in (SaidUpdate b o digits) = Some (HexDigits, digits.now)
copied_in other = None

-- .. among the words of a form
abbrev pub new_name : List (List ℕ) → Option (Slot × List ℕ)
new_name [] = None
new_name (name ∷ more) = Some (NewName, name)

abbrev pub copied : LineForm → List (List ℕ) → Option (Slot × List ℕ)
copied BufferLine words = new_name words
copied TimelineLine words = new_name words
copied BinaryLine words = new_name words
copied FenceLine words = new_name words
copied (QueueLine mode) words = new_name words
copied UpdateLine (buffer ∷ offset ∷ digits ∷ []) = Some (HexDigits, digits)
copied other words = None

-- whether a line's digits are read
abbrev pub are_digits : LineForm → List (List ℕ) → Bool
are_digits UpdateLine (buffer ∷ offset ∷ digits ∷ []) = is_hex digits
are_digits form words = true

-- What a line says, by what is kept, if its words are read.
abbrev pub named_in : Kept → LineForm → List (List ℕ) → Option Statement
named_in k form words = cond (are_digits form words) (statement_of (number_of k) form words) None

-- words are read, and say this
abbrev pub Says : Kept → LineForm → List (Slot × List ℕ) → Option Said → Type 0
Says k form words said =
    option_map (statement_in k) said ≡ named_in k form (map (λ x. x.1) words)

-- .. of the host
abbrev pub SaysStep : Kept → LineForm → List (Slot × List ℕ) → Option SaidStep → Type 0
SaysStep k form words said =
    option_map (λ x. TakeHostStep (step_in k x)) said ≡ named_in k form (map (λ x. x.1) words)

-- each pair of what is said is read
abbrev pub IsWhollyRead : Kept → Said → Type 0
IsWhollyRead k (Host step) = IsReadStep k step
IsWhollyRead k other = ⊤

-- the forms of a batch, but for its waits and its commands, and the form that begins it
abbrev pub is_batch_line : LineForm → Bool
is_batch_line SubmitLine = true
is_batch_line SignalTimelineLine = true
is_batch_line SignalBinaryLine = true
is_batch_line BatchFenceLine = true
is_batch_line EndLine = true
is_batch_line other = false

-- the steps of the host with lists of pairs, and the other ones
abbrev pub is_pairs_line : LineForm → Bool
is_pairs_line form = end_with_pairs (places form)

abbrev pub is_step_line : LineForm → Bool
is_step_line HostSignalLine = true
is_step_line HostReadLine = true
is_step_line HostFenceWaitLine = true
is_step_line HostFencePollLine = true
is_step_line HostFenceResetLine = true
is_step_line HostIdleLine = true
is_step_line other = false

abbrev pub is_host_line : LineForm → Bool
is_host_line form = is_pairs_line form || is_step_line form

-- the forms of the schedule, and the form that begins it
abbrev pub is_schedule_line : LineForm → Bool
is_schedule_line ScheduleLine = true
is_schedule_line TurnLine = true
is_schedule_line TurnsLine = true
is_schedule_line other = false

-- A line says something that suits its form and its words.
pub record Suits (form : LineForm) (words : List (Slot × List ℕ)) (said : Said) : Type 0 where
  pub part : part_in said ≡ part_of_form form
  pub turns : turns_in said ≡ is_turn_form form
  pub copies : copied_in said ≡ copied form (map (λ x. x.1) words)

-- offsets, sizes and places that have 32 bits
abbrev pub IsSmall : Said → Type 0
IsSmall (Wait pair from) = from < 2 ^ 32
IsSmall (FillWhole buffer o w) = o < 2 ^ 32
IsSmall (SaidFill buffer o n w) = (o < 2 ^ 32) × (n < 2 ^ 32)
IsSmall (SaidUpdate buffer o digits) = o < 2 ^ 32
IsSmall (SaidCopy s from t to n) = (from < 2 ^ 32) × (to < 2 ^ 32) × (n < 2 ^ 32)
IsSmall other = ⊤

-- What may be kept

abbrev pub IsNewName : Kept → List ℕ → Type 0
IsNewName k name =
    (is_name name ≡ true) × (is_taken k.buffers k.semaphores k.queues name ≡ false)

-- one command more may be kept
pub record MayCommand (k : Kept) (b : Batch) : Type 0 where
  pub room : k.commands < k.most.commands
  pub in_order : nat_lt 2 (last_part (Some b)) ≡ false

abbrev pub MayKeep : Kept → Option Batch → Said → Type 0
MayKeep k None (Buffer name size) =
    IsNewName k name.now × (length k.buffers < k.most.buffers)
    × (k.bytes + size ≤ k.most.bytes)
MayKeep k None (Semaphore name kind) =
    IsNewName k name.now × (length k.semaphores < k.most.semaphores)
MayKeep k None (Queue name mode) = IsNewName k name.now × (length k.queues < k.most.queues)
MayKeep k None (Submit queue) = k.scheduled ≡ false
MayKeep k None (Host step) = IsReadStep k step
MayKeep k None Schedule = ⊤
MayKeep k None (Turns actor count) = length k.turns + count ≤ k.most.turns
MayKeep k (Some b) (Wait pair from) = nat_lt 1 (last_part (Some b)) ≡ false
MayKeep k (Some b) (FillWhole buffer o w) = MayCommand k b
MayKeep k (Some b) (SaidFill buffer o n w) = MayCommand k b
MayKeep k (Some b) (SaidUpdate buffer o digits) = MayCommand k b × (is_hex digits.now ≡ true)
MayKeep k (Some b) (SaidCopy s from t to n) = MayCommand k b
MayKeep k (Some b) (Signal pair) = nat_lt 3 (last_part (Some b)) ≡ false
MayKeep k (Some b) (Fence f) = b.fence ≡ None
MayKeep k (Some b) End = ⊤
MayKeep k batch other = ⊥

-- A line's words and what it says have no fault, so that it may be kept.
pub record May (k : Kept) (batch : Option Batch) (said : Said) : Type 0 where
  pub keep : MayKeep k batch said
  pub small : IsSmall said

-- What is kept after a line more

abbrev pub waiting : Batch → ℕ → Pair → ℕ → Batch
waiting b n pair from = record b { waits = b.waits ++ mark n pair from ∷ [] }

abbrev pub commanding : Batch → ℕ → Command → Batch
commanding b n command =
    record b { commands = b.commands ++ record { line = n; command = command } ∷ [] }

abbrev pub signaling : Batch → ℕ → Pair → Batch
signaling b n pair = record b { signals = b.signals ++ mark n pair 1 ∷ [] }

abbrev pub fenced : Batch → ℕ → ℕ → Batch
fenced b n fence = record b { fence = Some (mark n (record { semaphore = fence; value = 0 }) 1) }

-- a batch without lines so far
abbrev pub started : ℕ → ℕ → Batch
started n queue =
    record { line = n; queue = queue; waits = []; commands = []; signals = []; fence = None }

-- what is kept where the open batch ends
abbrev pub ended : Kept → Option Batch → Kept × Option Batch
ended k None = (k, None)
ended k (Some b) = (with_batch k b, None)

-- what is kept, and the batch that is open
abbrev pub after : ℕ → Statement → Kept → Option Batch → Kept × Option Batch
after n (DeclareBuffer name size) k batch =
    (with_buffer k (record { line = n; name = name; size = size }), batch)
after n (DeclareSemaphore name kind) k batch =
    (with_semaphore k (record { line = n; name = name; kind = kind }), batch)
after n (DeclareQueue name mode) k batch =
    (with_queue k (record { line = n; name = name; mode = mode }), batch)
after n (BeginBatch queue) k batch = (k, Some (started n queue))
after n (AddWait pair from) k (Some b) = (k, Some (waiting b n pair from))
after n (AddCommand command) k (Some b) = (with_command k, Some (commanding b n command))
after n (AddSignal pair) k (Some b) = (k, Some (signaling b n pair))
after n (AddFence fence) k (Some b) = (k, Some (fenced b n fence))
after n EndBatch k batch = ended k batch
after n (TakeHostStep step) k batch = (with_step k (record { line = n; step = step }), batch)
after n BeginSchedule k batch = (with_schedule k, batch)
after n (TakeTurns actor count) k batch = (with_turns k n actor count, batch)
after n other k batch = (k, batch)
