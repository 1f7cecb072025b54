-- What stands at a place, as the code says it.
use Rattle.std.specs.Prelude.{Bool, true, false}
use Rattle.vq_capture.specs.declared.form.Form.{Form}
use Rattle.vq_capture.specs.declared.form.Form.TheVariants.{QueueLine, BinaryLine, FenceLine, EventLine, TimelineLine}
use Rattle.vq_capture.specs.declared.form.Form.TheVariants.{ResourceLine, GoneLine, ThreadLine, AfterLine, SubmitLine}
use Rattle.vq_capture.specs.declared.form.Form.TheVariants.{HandLine, SubmitHandedLine, HostSignalLine, SawValueLine}
use Rattle.vq_capture.specs.declared.form.Form.TheVariants.{SawFenceLine, IdleLine, HostReadLine, HostWriteLine}
use Rattle.vq_capture.specs.declared.form.Form.TheVariants.{WaitTimelineLine, WaitBinaryLine, SignalTimelineLine}
use Rattle.vq_capture.specs.declared.form.Form.TheVariants.{SignalBinaryLine, BatchFenceLine, EndLine}
use Rattle.vq_capture.specs.LineForms.{Place, NewName, NameOf, ThreadName, EndedName, Numeral, Stages, SomeStages}
use Rattle.vq_capture_reader.specs.declared.slots.Slot.{Slot}
use Rattle.vq_capture_reader.specs.declared.slots.Slot.TheVariants.{New, Of, OfThread, Ended, Number, Scope}
use Rattle.vq_capture_reader.specs.declared.slots.Slot.TheVariants.{AccessScope}

abbrev pub place : Slot → Place
place New = NewName
place (Of kind) = NameOf kind
place OfThread = ThreadName
place Ended = EndedName
place Number = Numeral
place Scope = Stages
place AccessScope = SomeStages

-- whether a line of a form stands outside batches, and has words behind its first
abbrev pub is_outside : Form → Bool
is_outside QueueLine = true
is_outside BinaryLine = true
is_outside FenceLine = true
is_outside EventLine = true
is_outside TimelineLine = true
is_outside ResourceLine = true
is_outside GoneLine = true
is_outside ThreadLine = true
is_outside AfterLine = true
is_outside SubmitLine = true
is_outside HandLine = true
is_outside SubmitHandedLine = true
is_outside HostSignalLine = true
is_outside SawValueLine = true
is_outside SawFenceLine = true
is_outside IdleLine = true
is_outside HostReadLine = true
is_outside HostWriteLine = true
is_outside other = false

-- whether the host acts or waits by a line of a form
abbrev pub is_of_host : Form → Bool
is_of_host HostSignalLine = true
is_of_host SawValueLine = true
is_of_host SawFenceLine = true
is_of_host IdleLine = true
is_of_host HostReadLine = true
is_of_host HostWriteLine = true
is_of_host other = false

-- whether a line of a form waits for a semaphore, signals, or ends a batch
abbrev pub is_of_semaphores : Form → Bool
is_of_semaphores WaitTimelineLine = true
is_of_semaphores WaitBinaryLine = true
is_of_semaphores SignalTimelineLine = true
is_of_semaphores SignalBinaryLine = true
is_of_semaphores BatchFenceLine = true
is_of_semaphores EndLine = true
is_of_semaphores other = false
