-- The faults of a line: one test for each kind, and the order of the kinds.
-- The kinds and their order are this project's own; the ranges and alignments that are asked of
-- commands are those of Vulkan 1.3, "Clear Commands" and "Copy Commands".
use Rattle.std.specs.Prelude.{ℕ, Bool, true, List, is_some, not, false, nat_lt, ◌&&◌, ◌||◌, ◌+◌, length}
use Rattle.std.specs.Prelude.{[], ◌∷◌, find}
use Rattle.std.specs.Prelude.{Option, map}
use Rattle.std.specs.List.{list_all}
use Rattle.std.specs.Option.{option_map_or}
use Rattle.vq_model.specs.declared.statement.Line.{Line}
use Rattle.vq_model.specs.declared.statement.LineForm.{LineForm}
use Rattle.vq_model.specs.declared.statement.LineForm.TheVariants.{BufferLine, TimelineLine, BinaryLine, FenceLine}
use Rattle.vq_model.specs.declared.statement.LineForm.TheVariants.{QueueLine, WaitTimelineLine, WaitBinaryLine}
use Rattle.vq_model.specs.declared.statement.LineForm.TheVariants.{HeldTimelineLine, HeldBinaryLine, FillWholeLine}
use Rattle.vq_model.specs.declared.statement.LineForm.TheVariants.{FillLine, UpdateLine, CopyLine, SignalTimelineLine}
use Rattle.vq_model.specs.declared.statement.LineForm.TheVariants.{SignalBinaryLine, BatchFenceLine, EndLine}
use Rattle.vq_model.specs.declared.statement.Statement.{Statement}
use Rattle.vq_model.specs.declared.statement.Statement.TheVariants.{AddWait, AddCommand}
use Rattle.vq_model.specs.declared.statement.Statement.TheVariants.{DeclareBuffer, EndBatch, TakeTurns}
use Rattle.vq_model.specs.declared.statement.Statement.TheVariants.{DeclareSemaphore, DeclareQueue, BeginBatch}
use Rattle.vq_model.specs.declared.statement.Statement.TheVariants.{TakeHostStep, AddSignal}
use Rattle.vq_model.specs.declared.script.HostStep.{HostStep}
use Rattle.vq_model.specs.declared.script.HostStep.TheVariants.{WaitAll, WaitAny, PollAll, PollAny}
use Rattle.vq_model.specs.declared.script.Pair.{Pair}
use Rattle.vq_model.specs.declared.script.Command.{Command}
use Rattle.vq_model.specs.declared.script.Command.TheVariants.{Fill, Update, Copy}
use Rattle.vq_model.specs.declared.script.FillSize.TheVariants.{Whole, Count}
use Rattle.vq_model.specs.declared.statement.Form.{Form}
use Rattle.vq_model.specs.declared.statement.FaultKind.{FaultKind}
use Rattle.vq_model.specs.declared.statement.FaultKind.TheVariants.{Syntax, Order, Number, Name, Twice, Range, Overlap}
use Rattle.vq_model.specs.declared.statement.FaultKind.TheVariants.{Limit}
use Rattle.vq_model.specs.declared.statement.Form.TheVariants.{Scheduled}
use Rattle.vq_model.specs.declared.statement.Section.{Section}
use Rattle.vq_model.specs.declared.statement.Section.TheVariants.{Outside, InBatch}
use Rattle.vq_model.specs.Text.{is_name, numeral, is_plain}
use Rattle.vq_model.specs.Forms.{Slot, NewName, BufferName, TimelineName, BinaryName, FenceName, QueueName, Actor, word}
use Rattle.vq_model.specs.Forms.{Numeral, SmallNumeral, HexDigits, places}
use Rattle.vq_model.specs.Meaning.{is_actor, small_numeral, is_hex, actor_at, open_places, form_of, meaning}
use Rattle.vq_model.specs.declared.script.Buffer.{Buffer}
use Rattle.vq_model.specs.Context.{number_at, is_declared, buffers, size_in, section}
use Rattle.vq_model.specs.Earlier.{Earlier, earlier}
use Rattle.vq_model.specs.Ranges.{is_aligned, overlaps_itself}
use Rattle.vq_model.specs.Limits.{update_bytes}

-- Syntax, number, name, twice: words at places

-- Syntax: a word has the shape of its place
abbrev pub is_shaped : Slot × List ℕ → Bool
is_shaped (NewName, word) = is_name word
is_shaped (BufferName, word) = is_name word
is_shaped (TimelineName, word) = is_name word
is_shaped (BinaryName, word) = is_name word
is_shaped (FenceName, word) = is_name word
is_shaped (QueueName, word) = is_name word
is_shaped (Actor, word) = is_actor word
is_shaped (other, word) = true

-- Number: a numeral's place holds a numeral
abbrev pub is_numeric : Slot × List ℕ → Bool
is_numeric (Numeral, word) = is_some (numeral word)
is_numeric (SmallNumeral, word) = is_some (small_numeral word)
is_numeric (HexDigits, word) = is_hex word
is_numeric (other, word) = true

-- Name: a name is declared, of the kind that its place needs
abbrev pub is_known : (Slot → List ℕ → Option ℕ) → Slot × List ℕ → Bool
is_known number (BufferName, word) = is_some (number BufferName word)
is_known number (TimelineName, word) = is_some (number TimelineName word)
is_known number (BinaryName, word) = is_some (number BinaryName word)
is_known number (FenceName, word) = is_some (number FenceName word)
is_known number (QueueName, word) = is_some (number QueueName word)
is_known number (Actor, word) = is_some (actor_at number word)
is_known number (other, word) = true

-- Twice: a declared name is new
abbrev pub is_new : (List ℕ → Bool) → Slot × List ℕ → Bool
is_new taken (NewName, word) = not (taken word)
is_new taken (other, word) = true

-- some open place of a line fails a test
abbrev pub fails : (Slot × List ℕ → Bool) → List (List ℕ) → LineForm → Bool
fails test words form = not (list_all test (open_places (places form) words))

-- Order

abbrev pub is_declaration : LineForm → Bool
is_declaration BufferLine = true
is_declaration TimelineLine = true
is_declaration BinaryLine = true
is_declaration FenceLine = true
is_declaration (QueueLine mode) = true
is_declaration other = false

-- the part of a batch to which a line belongs; a line of no batch has part 0
abbrev pub part_of_form : LineForm → ℕ
part_of_form WaitTimelineLine = 1
part_of_form WaitBinaryLine = 1
part_of_form HeldTimelineLine = 1
part_of_form HeldBinaryLine = 1
part_of_form FillWholeLine = 2
part_of_form FillLine = 2
part_of_form UpdateLine = 2
part_of_form CopyLine = 2
part_of_form SignalTimelineLine = 3
part_of_form SignalBinaryLine = 3
part_of_form BatchFenceLine = 4
part_of_form EndLine = 5
part_of_form other = 0

abbrev pub is_batch_fence_form : LineForm → Bool
is_batch_fence_form BatchFenceLine = true
is_batch_fence_form other = false

-- a declaration after the first `submit` or `host` line; a line of a batch that belongs to an
-- earlier part than a line
-- before it; a second fence of a batch
abbrev pub is_out_of_order : Earlier → LineForm → Bool
is_out_of_order e form =
    (is_declaration form && e.begun)
    || e.later (part_of_form form)
    || (is_batch_fence_form form && e.fenced)

-- Range and overlap

-- bytes that begin in a buffer, at least one, and end in it
abbrev pub is_within : List Buffer → ℕ → ℕ → ℕ → Bool
is_within bs buffer offset size =
    nat_lt offset (size_in bs buffer) && nat_lt 0 size
    && not (nat_lt (size_in bs buffer) (offset + size))

abbrev pub is_command_in_range : List Buffer → Command → Bool
is_command_in_range bs (Fill b o Whole w) = nat_lt o (size_in bs b) && is_aligned o
is_command_in_range bs (Fill b o (Count n) w) =
    is_within bs b o n && is_aligned o && is_aligned n
is_command_in_range bs (Update b o bytes) =
    is_within bs b o (length bytes) && is_aligned o && is_aligned (length bytes)
    && not (nat_lt update_bytes (length bytes))
is_command_in_range bs (Copy s from t to n) =
    is_within bs s from n && is_within bs t to n

-- sizes, offsets, places and counts are in range
abbrev pub is_in_range : Earlier → Statement → Bool
is_in_range e (DeclareBuffer name size) = nat_lt 0 size
is_in_range e (AddCommand command) = is_command_in_range e.buffers command
is_in_range e (AddWait pair from) = nat_lt 0 from && nat_lt from (e.most.batch_commands + 2)
is_in_range e EndBatch = not e.too_far
is_in_range e (TakeTurns actor count) = nat_lt 0 count
is_in_range e other = true

-- the two ranges of a copy share a byte of one buffer
abbrev pub overlaps : List Buffer → Statement → Bool
overlaps bs (AddCommand command) = overlaps_itself (map (λ b. b.size) bs) command
overlaps bs other = false

-- Limit

-- the pairs of a host step
abbrev pub pairs_of : HostStep → List Pair
pairs_of (WaitAll pairs) = pairs
pairs_of (WaitAny pairs) = pairs
pairs_of (PollAll pairs) = pairs
pairs_of (PollAny pairs) = pairs
pairs_of other = []

-- the line takes a quantity past its limit
abbrev pub passes_limit : Earlier → Statement → Bool
passes_limit e (DeclareBuffer name size) =
    not (nat_lt (length e.buffers) e.most.buffers) || nat_lt e.most.bytes (e.bytes + size)
passes_limit e (DeclareSemaphore name kind) = not (nat_lt e.semaphores e.most.semaphores)
passes_limit e (DeclareQueue name mode) = not (nat_lt e.queues e.most.queues)
passes_limit e (BeginBatch queue) = not (nat_lt e.jobs e.most.jobs)
passes_limit e (TakeHostStep step) =
    not (nat_lt e.jobs e.most.jobs) || nat_lt e.most.pairs (length (pairs_of step))
passes_limit e (AddWait pair from) = not (nat_lt e.open_waits e.most.waits)
passes_limit e (AddCommand command) =
    not (nat_lt e.commands e.most.commands)
    || not (nat_lt e.open_commands e.most.batch_commands)
passes_limit e (AddSignal pair) = not (nat_lt e.open_signals e.most.signals)
passes_limit e (TakeTurns actor count) = nat_lt e.most.turns (e.turns + count)
passes_limit e other = false

-- The kinds

-- Whether a line with these words has a fault of a kind. One row for each kind.
abbrev pub has_fault : Form → List Line → List (List ℕ) → FaultKind → Bool
has_fault form before words Syntax =
    not (list_all (list_all is_plain) words)
    || option_map_or (fails is_shaped words) (form_of form before words) true
has_fault form before words Order =
    option_map_or (is_out_of_order (earlier before)) (form_of form before words) false
has_fault form before words Number =
    option_map_or (fails is_numeric words) (form_of form before words) false
has_fault form before words Name =
    option_map_or (fails (is_known (number_at before)) words) (form_of form before words) false
has_fault form before words Twice =
    option_map_or (fails (is_new (is_declared before)) words) (form_of form before words) false
has_fault form before words Range =
    option_map_or (λ s. not (is_in_range (earlier before) s)) (meaning form before words) false
has_fault form before words Overlap =
    option_map_or (overlaps (buffers before)) (meaning form before words) false
has_fault form before words Limit =
    option_map_or (passes_limit (earlier before))
    (meaning form before words) false

-- the kinds in their order
abbrev pub kinds : List FaultKind
kinds = Syntax ∷ Order ∷ Number ∷ Name ∷ Twice ∷ Range ∷ Overlap ∷ Limit ∷ []

-- The fault of a line: the first kind of which it has one.
abbrev pub fault_of : Form → List Line → List (List ℕ) → Option FaultKind
fault_of form before words = find (has_fault form before words) kinds

-- the line after the last one is Syntax where the text ends inside a batch, or without the
-- schedule that its form asks for
abbrev pub ends_early : Form → List Line → Bool
ends_early form before = by_section form (section before)
  where
    by_section : Form → Section → Bool
    by_section form InBatch = true
    by_section Scheduled Outside = true
    by_section form other = false
