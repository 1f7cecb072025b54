-- The forms of a script's lines: for each form what stands at its places.
-- The format is this project's own.
use Rattle.std.specs.Prelude.{ℕ, List, codes, [], ◌∷◌, ◌==◌, if◌then◌else◌}
use Prim.Native.String.{String}
use Rattle.vq_model.specs.declared.script.Mode.{Mode}
use Rattle.vq_model.specs.declared.script.Mode.TheVariants.{Immediate, Deferred, Threaded}
use Rattle.vq_model.specs.declared.statement.LineForm.{LineForm}
use Rattle.vq_model.specs.declared.statement.LineForm.TheVariants.{VersionLine, BufferLine, TimelineLine, BinaryLine}
use Rattle.vq_model.specs.declared.statement.LineForm.TheVariants.{FenceLine, QueueLine, SubmitLine, HostSignalLine}
use Rattle.vq_model.specs.declared.statement.LineForm.TheVariants.{HostWaitAllLine, HostWaitAnyLine, HostPollAllLine}
use Rattle.vq_model.specs.declared.statement.LineForm.TheVariants.{HostPollAnyLine, HostReadLine, HostFenceWaitLine}
use Rattle.vq_model.specs.declared.statement.LineForm.TheVariants.{HostFencePollLine, HostFenceResetLine, HostIdleLine}
use Rattle.vq_model.specs.declared.statement.LineForm.TheVariants.{ScheduleLine, WaitTimelineLine, WaitBinaryLine}
use Rattle.vq_model.specs.declared.statement.LineForm.TheVariants.{HeldTimelineLine, HeldBinaryLine, FillWholeLine}
use Rattle.vq_model.specs.declared.statement.LineForm.TheVariants.{FillLine, UpdateLine, CopyLine, SignalTimelineLine}
use Rattle.vq_model.specs.declared.statement.LineForm.TheVariants.{SignalBinaryLine, BatchFenceLine, EndLine, TurnLine}
use Rattle.vq_model.specs.declared.statement.LineForm.TheVariants.{TurnsLine}
use Rattle.vq_model.specs.declared.statement.Form.{Form}
use Rattle.vq_model.specs.declared.statement.Form.TheVariants.{Plain, Scheduled}

-- What stands at a place of a line.
pub data Slot : Type 0 where
  -- this word
  Fixed : (word : List ℕ) → Slot
  -- the name that the line declares
  NewName : Slot
  -- the name of a buffer, a timeline, a binary semaphore, a fence, a queue
  BufferName : Slot
  TimelineName : Slot
  BinaryName : Slot
  FenceName : Slot
  QueueName : Slot
  -- .. of a threaded queue, after the mark of an actor
  ThreadedName : Slot
  -- a numeral; one of 32 bits; an even number of hexadecimal digits
  Numeral : Slot
  SmallNumeral : Slot
  HexDigits : Slot
  -- an actor of the schedule
  Actor : Slot
  -- names of timelines with numerals, one pair or more, up to the line's end
  Pairs : Slot

-- the word of a mode
abbrev pub mode_word : Mode → List ℕ
mode_word Immediate = codes "immediate"
mode_word Deferred = codes "deferred"
mode_word Threaded = codes "threaded"

-- a fixed word
abbrev pub word : String → Slot
word text = Fixed (codes text)

-- The places of each form.
abbrev pub places : LineForm → List Slot
places VersionLine = word "version" ∷ word "2" ∷ []
places BufferLine = word "buffer" ∷ NewName ∷ Numeral ∷ []
places TimelineLine = word "timeline" ∷ NewName ∷ Numeral ∷ []
places BinaryLine = word "binary" ∷ NewName ∷ []
places FenceLine = word "fence" ∷ NewName ∷ []
places (QueueLine mode) = word "queue" ∷ NewName ∷ Fixed (mode_word mode) ∷ []
places SubmitLine = word "submit" ∷ QueueName ∷ []
places HostSignalLine = word "host" ∷ word "signal" ∷ TimelineName ∷ Numeral ∷ []
places HostWaitAllLine = word "host" ∷ word "wait" ∷ word "all" ∷ Pairs ∷ []
places HostWaitAnyLine = word "host" ∷ word "wait" ∷ word "any" ∷ Pairs ∷ []
places HostPollAllLine = word "host" ∷ word "poll" ∷ word "all" ∷ Pairs ∷ []
places HostPollAnyLine = word "host" ∷ word "poll" ∷ word "any" ∷ Pairs ∷ []
places HostReadLine = word "host" ∷ word "read" ∷ TimelineName ∷ []
places HostFenceWaitLine = word "host" ∷ word "fence" ∷ word "wait" ∷ FenceName ∷ []
places HostFencePollLine = word "host" ∷ word "fence" ∷ word "poll" ∷ FenceName ∷ []
places HostFenceResetLine = word "host" ∷ word "fence" ∷ word "reset" ∷ FenceName ∷ []
places HostIdleLine = word "host" ∷ word "idle" ∷ []
places ScheduleLine = word "schedule" ∷ []
places WaitTimelineLine = word "wait" ∷ TimelineName ∷ Numeral ∷ []
places WaitBinaryLine = word "wait" ∷ BinaryName ∷ []
places HeldTimelineLine = word "wait" ∷ TimelineName ∷ Numeral ∷ word "from" ∷ Numeral ∷ []
places HeldBinaryLine = word "wait" ∷ BinaryName ∷ word "from" ∷ Numeral ∷ []
places FillWholeLine = word "fill" ∷ BufferName ∷ Numeral ∷ word "whole" ∷ SmallNumeral ∷ []
places FillLine = word "fill" ∷ BufferName ∷ Numeral ∷ Numeral ∷ SmallNumeral ∷ []
places UpdateLine = word "update" ∷ BufferName ∷ Numeral ∷ HexDigits ∷ []
places CopyLine = word "copy" ∷ BufferName ∷ Numeral ∷ BufferName ∷ Numeral ∷ Numeral ∷ []
places SignalTimelineLine = word "signal" ∷ TimelineName ∷ Numeral ∷ []
places SignalBinaryLine = word "signal" ∷ BinaryName ∷ []
places BatchFenceLine = word "fence" ∷ FenceName ∷ []
places EndLine = word "end" ∷ []
places TurnLine = Actor ∷ []
places TurnsLine = Actor ∷ Numeral ∷ []

-- Where the forms stand

-- the forms outside a batch ..
abbrev pub forms_outside : List LineForm
forms_outside =
    BufferLine ∷ TimelineLine ∷ BinaryLine ∷ FenceLine
    ∷ QueueLine Immediate ∷ QueueLine Deferred ∷ QueueLine Threaded ∷ SubmitLine
    ∷ HostSignalLine ∷ HostWaitAllLine ∷ HostWaitAnyLine ∷ HostPollAllLine ∷ HostPollAnyLine
    ∷ HostReadLine
    ∷ HostFenceWaitLine ∷ HostFencePollLine ∷ HostFenceResetLine ∷ HostIdleLine ∷ []

-- .. inside ..
abbrev pub forms_in_batch : List LineForm
forms_in_batch =
    WaitTimelineLine ∷ WaitBinaryLine ∷ FillWholeLine ∷ FillLine ∷ UpdateLine ∷ CopyLine
    ∷ SignalTimelineLine ∷ SignalBinaryLine ∷ BatchFenceLine ∷ EndLine ∷ []

-- .. and in the schedule
abbrev pub forms_in_schedule : List LineForm
forms_in_schedule = TurnLine ∷ TurnsLine ∷ []

abbrev pub held_forms : ℕ → List LineForm
held_forms version = if version == 2 then HeldTimelineLine ∷ HeldBinaryLine ∷ [] else []

-- `schedule` stands in the form Scheduled alone
abbrev pub schedule_forms : Form → List LineForm
schedule_forms Plain = []
schedule_forms Scheduled = ScheduleLine ∷ []
