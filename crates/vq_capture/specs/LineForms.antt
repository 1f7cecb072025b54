-- The forms of lines: which one some words have, by the first word and their number, and what stands at its places.
-- The format is this project's own.
use Rattle.std.specs.Prelude.{ℕ, Bool, true, false, List, [], ◌∷◌, codes, if◌then◌else◌}
use Rattle.std.specs.Prelude.{Option, Some, None}
use Rattle.std.specs.Str.{bytes_eq}
use Rattle.vq_capture.specs.declared.form.Form.{Form}
use Rattle.vq_capture.specs.declared.form.Form.TheVariants.{QueueLine, BinaryLine, FenceLine, EventLine, TimelineLine}
use Rattle.vq_capture.specs.declared.form.Form.TheVariants.{ResourceLine, GoneLine, ThreadLine, AfterLine, SubmitLine}
use Rattle.vq_capture.specs.declared.form.Form.TheVariants.{HandLine, SubmitHandedLine, HostSignalLine, SawValueLine}
use Rattle.vq_capture.specs.declared.form.Form.TheVariants.{SawFenceLine, IdleLine, HostReadLine, HostWriteLine}
use Rattle.vq_capture.specs.declared.form.Form.TheVariants.{CutLine, WaitTimelineLine, WaitBinaryLine, ReadLine}
use Rattle.vq_capture.specs.declared.form.Form.TheVariants.{WriteLine, NextLine, BarrierLine, TransitionLine, SetLine}
use Rattle.vq_capture.specs.declared.form.Form.TheVariants.{AwaitLine, SignalTimelineLine, SignalBinaryLine}
use Rattle.vq_capture.specs.declared.form.Form.TheVariants.{BatchFenceLine, EndLine}
use Rattle.vq_capture.specs.declared.statement.Kind.{Kind}
use Rattle.vq_capture.specs.declared.statement.Kind.TheVariants.{Queue, Binary, Timeline, Fence, Event, Resource}
use Rattle.vq_capture.specs.declared.statement.Kind.TheVariants.{Thread, Handed}

-- Outside a batch

abbrev pub form_outside : List (List ℕ) → Option Form
form_outside (w ∷ []) = if bytes_eq w (codes "cut") then Some CutLine else None
form_outside (w ∷ a ∷ []) =
    if bytes_eq w (codes "queue") then Some QueueLine
    else if bytes_eq w (codes "binary") then Some BinaryLine
    else if bytes_eq w (codes "fence") then Some FenceLine
    else if bytes_eq w (codes "event") then Some EventLine
    else if bytes_eq w (codes "gone") then Some GoneLine
    else if bytes_eq w (codes "thread") then Some ThreadLine
    else if bytes_eq w (codes "after") then Some AfterLine
    else if bytes_eq w (codes "submit") then Some SubmitLine
    else if bytes_eq w (codes "hand") then Some HandLine
    else if bytes_eq w (codes "saw") then Some SawFenceLine
    else if bytes_eq w (codes "idle") then Some IdleLine
    else None
form_outside (w ∷ a ∷ b ∷ []) =
    if bytes_eq w (codes "timeline") then Some TimelineLine
    else if bytes_eq w (codes "resource") then Some ResourceLine
    else if bytes_eq w (codes "submit") then Some SubmitHandedLine
    else if bytes_eq w (codes "signal") then Some HostSignalLine
    else if bytes_eq w (codes "saw") then Some SawValueLine
    else None
form_outside (w ∷ a ∷ b ∷ c ∷ []) =
    if bytes_eq w (codes "read") then Some HostReadLine
    else if bytes_eq w (codes "write") then Some HostWriteLine
    else None
form_outside words = None

-- In a batch

abbrev pub form_inside : List (List ℕ) → Option Form
form_inside (w ∷ []) =
    if bytes_eq w (codes "next") then Some NextLine
    else if bytes_eq w (codes "end") then Some EndLine
    else None
form_inside (w ∷ a ∷ []) = if bytes_eq w (codes "fence") then Some BatchFenceLine else None
form_inside (w ∷ a ∷ b ∷ []) =
    if bytes_eq w (codes "wait") then Some WaitBinaryLine
    else if bytes_eq w (codes "barrier") then Some BarrierLine
    else if bytes_eq w (codes "set") then Some SetLine
    else if bytes_eq w (codes "await") then Some AwaitLine
    else if bytes_eq w (codes "signal") then Some SignalBinaryLine
    else None
form_inside (w ∷ a ∷ b ∷ c ∷ []) =
    if bytes_eq w (codes "wait") then Some WaitTimelineLine
    else if bytes_eq w (codes "signal") then Some SignalTimelineLine
    else None
form_inside (w ∷ a ∷ b ∷ c ∷ d ∷ []) =
    if bytes_eq w (codes "read") then Some ReadLine
    else if bytes_eq w (codes "write") then Some WriteLine
    else None
form_inside (w ∷ a ∷ b ∷ c ∷ d ∷ e ∷ []) = if bytes_eq w (codes "barrier") then Some TransitionLine else None
form_inside words = None

-- the form of some words, in a batch or outside one
abbrev pub form_of : Bool → List (List ℕ) → Option Form
form_of true words = form_inside words
form_of false words = form_outside words

-- Places

-- What stands at a place behind the first word: a name that is declared there, one of a kind, one of a thread that may
-- be new, one that ends, a numeral, stages, or stages of which there is one.
pub data Place : Type 0 where
  NewName : Place
  NameOf : Kind → Place
  ThreadName : Place
  EndedName : Place
  Numeral : Place
  Stages : Place
  SomeStages : Place

-- the places of a form, behind its first word
abbrev pub places : Form → List Place
places QueueLine = NewName ∷ []
places BinaryLine = NewName ∷ []
places FenceLine = NewName ∷ []
places EventLine = NewName ∷ []
places TimelineLine = NewName ∷ Numeral ∷ []
places ResourceLine = NewName ∷ Numeral ∷ []
places GoneLine = EndedName ∷ []
places ThreadLine = ThreadName ∷ []
places AfterLine = NameOf Thread ∷ []
places SubmitLine = NameOf Queue ∷ []
places HandLine = NewName ∷ []
places SubmitHandedLine = NameOf Queue ∷ NameOf Handed ∷ []
places HostSignalLine = NameOf Timeline ∷ Numeral ∷ []
places SawValueLine = NameOf Timeline ∷ Numeral ∷ []
places SawFenceLine = NameOf Fence ∷ []
places IdleLine = NameOf Queue ∷ []
places HostReadLine = NameOf Resource ∷ Numeral ∷ Numeral ∷ []
places HostWriteLine = NameOf Resource ∷ Numeral ∷ Numeral ∷ []
places CutLine = []
places WaitTimelineLine = NameOf Timeline ∷ Numeral ∷ Stages ∷ []
places WaitBinaryLine = NameOf Binary ∷ Stages ∷ []
places ReadLine = NameOf Resource ∷ Numeral ∷ Numeral ∷ SomeStages ∷ []
places WriteLine = NameOf Resource ∷ Numeral ∷ Numeral ∷ SomeStages ∷ []
places NextLine = []
places BarrierLine = Stages ∷ Stages ∷ []
places TransitionLine = Stages ∷ Stages ∷ NameOf Resource ∷ Numeral ∷ Numeral ∷ []
places SetLine = NameOf Event ∷ Stages ∷ []
places AwaitLine = NameOf Event ∷ Stages ∷ []
places SignalTimelineLine = NameOf Timeline ∷ Numeral ∷ Stages ∷ []
places SignalBinaryLine = NameOf Binary ∷ Stages ∷ []
places BatchFenceLine = NameOf Fence ∷ []
places EndLine = []

-- The part of a batch that a line belongs to: waits, commands, signals, the fence, the end. Outside it is 0.
abbrev pub part_of : Form → ℕ
part_of WaitTimelineLine = 1
part_of WaitBinaryLine = 1
part_of ReadLine = 2
part_of WriteLine = 2
part_of NextLine = 2
part_of BarrierLine = 2
part_of TransitionLine = 2
part_of SetLine = 2
part_of AwaitLine = 2
part_of SignalTimelineLine = 3
part_of SignalBinaryLine = 3
part_of BatchFenceLine = 4
part_of EndLine = 5
part_of other = 0

-- whether the accesses that follow are of another command
abbrev pub ends_command : Form → Bool
ends_command NextLine = true
ends_command BarrierLine = true
ends_command TransitionLine = true
ends_command SetLine = true
ends_command AwaitLine = true
ends_command other = false
