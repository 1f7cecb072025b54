-- What the words of a line say at their places, each of which is read once.
use Rattle.std.specs.Prelude.{ℕ, List, ◌+◌, ◌&&◌, Bool, not, find, slice_get, Option, unwrap_or}
use Rattle.std.specs.List.{list_all}
use Rattle.std.specs.Option.{option_map, option_map_or}
use Rattle.vq_model.specs.Text.{numeral}
use Rattle.vq_capture.specs.declared.form.Form.{Form}
use Rattle.vq_capture.specs.declared.form.Form.TheVariants.{QueueLine, BinaryLine, FenceLine, EventLine, TimelineLine}
use Rattle.vq_capture.specs.declared.form.Form.TheVariants.{ResourceLine, GoneLine, ThreadLine, AfterLine, SubmitLine}
use Rattle.vq_capture.specs.declared.form.Form.TheVariants.{HandLine, SubmitHandedLine, HostSignalLine, SawValueLine}
use Rattle.vq_capture.specs.declared.form.Form.TheVariants.{SawFenceLine, IdleLine, HostReadLine, HostWriteLine}
use Rattle.vq_capture.specs.declared.form.Form.TheVariants.{CutLine, WaitTimelineLine, WaitBinaryLine, ReadLine}
use Rattle.vq_capture.specs.declared.form.Form.TheVariants.{WriteLine, NextLine, BarrierLine, TransitionLine, SetLine}
use Rattle.vq_capture.specs.declared.form.Form.TheVariants.{AwaitLine, SignalTimelineLine, SignalBinaryLine}
use Rattle.vq_capture.specs.declared.form.Form.TheVariants.{BatchFenceLine, EndLine}
use Rattle.vq_capture.specs.declared.stage.Scope.{Scope}
use Rattle.vq_capture.specs.declared.statement.Kind.TheVariants.{Queue, Binary, Fence, Event}
use Rattle.vq_capture.specs.declared.statement.AccessKind.{AccessKind}
use Rattle.vq_capture.specs.declared.statement.AccessKind.TheVariants.{Read, Write}
use Rattle.vq_capture.specs.declared.statement.Access.{Access}
use Rattle.vq_capture.specs.declared.statement.Statement.{Statement}
use Rattle.vq_capture.specs.declared.statement.Statement.TheVariants.{Declare, DeclareTimeline, DeclareResource}
use Rattle.vq_capture.specs.declared.statement.Statement.TheVariants.{Forget, GoOn, After, Submit, HandOver}
use Rattle.vq_capture.specs.declared.statement.Statement.TheVariants.{SubmitHanded, HostSignal, SawValue, SawFence}
use Rattle.vq_capture.specs.declared.statement.Statement.TheVariants.{WaitIdle, HostAccess, Cut, WaitTimeline}
use Rattle.vq_capture.specs.declared.statement.Statement.TheVariants.{WaitBinary, CommandAccess, Next, Barrier}
use Rattle.vq_capture.specs.declared.statement.Statement.TheVariants.{Transition, SetEvent, AwaitEvent}
use Rattle.vq_capture.specs.declared.statement.Statement.TheVariants.{SignalTimeline, SignalBinary, SignalFence}
use Rattle.vq_capture.specs.declared.statement.Statement.TheVariants.{EndBatch}
use Rattle.vq_capture.specs.declared.capture.FaultKind.{FaultKind}
use Rattle.vq_capture.specs.declared.capture.FaultKind.TheVariants.{Syntax, Order, Number as NumberFault}
use Rattle.vq_capture.specs.declared.capture.FaultKind.TheVariants.{Stages as StagesFault, Name as NameFault, Twice}
use Rattle.vq_capture.specs.declared.capture.FaultKind.TheVariants.{Range, NoSignal}
use Rattle.vq_capture.specs.MaskWords.{scope_of, access_scope_of}
use Rattle.vq_capture.specs.LineForms.{Place, Numeral, Stages as StagesPlace}
use Rattle.vq_capture.specs.LineForms.{SomeStages}
use Rattle.vq_capture.specs.LineFaults.{is_shaped, is_numeric, is_staged, is_known, is_new, fault_kinds}
use Rattle.vq_capture.specs.Context.{Above, Named, named}
use Rattle.vq_capture.specs.Statements.{empty_scope}
use Rattle.vq_capture_reader.specs.declared.said.Said.{Said}
use Rattle.vq_capture_reader.specs.declared.said.Said.TheVariants.{Name, Number, Stages}
use Rattle.vq_capture_reader.specs.declared.word_tests.WordTests.{WordTests}
use Rattle.vq_capture_reader.specs.Things.{thing_of}

-- Words

-- what a word says at a place
abbrev pub said_at : List Named → Place × List ℕ → Said
said_at names (Numeral, word) = Number (numeral word)
said_at names (StagesPlace, word) = Stages (scope_of word)
said_at names (SomeStages, word) = Stages (access_scope_of word)
said_at names (other, word) = Name (option_map thing_of (named names word))

-- which tests a word passes at a place
abbrev pub tests_at : Above → Place × List ℕ → WordTests
tests_at above word = record {
  shaped = is_shaped word;
  numeric = is_numeric word;
  staged = is_staged word;
  known = is_known above word;
  new = is_new above.names word;
}

-- which tests all of some words pass
abbrev pub tests_of : Above → List (Place × List ℕ) → WordTests
tests_of above words = record {
  shaped = list_all is_shaped words;
  numeric = list_all is_numeric words;
  staged = list_all is_staged words;
  known = list_all (is_known above) words;
  new = list_all (is_new above.names) words;
}

-- the tests that two pass
abbrev pub both : WordTests → WordTests → WordTests
both a b = record {
  shaped = a.shaped && b.shaped;
  numeric = a.numeric && b.numeric;
  staged = a.staged && b.staged;
  known = a.known && b.known;
  new = a.new && b.new;
}

-- whether a line has a fault of a kind, by the tests that its words pass, and by whether it is disordered, out of range
-- and unreleased
abbrev pub lacks : WordTests → Bool → Bool → Bool → FaultKind → Bool
lacks tests disordered far unreleased Syntax = not tests.shaped
lacks tests disordered far unreleased Order = disordered
lacks tests disordered far unreleased NumberFault = not tests.numeric
lacks tests disordered far unreleased StagesFault = not tests.staged
lacks tests disordered far unreleased NameFault = not tests.known
lacks tests disordered far unreleased Twice = not tests.new
lacks tests disordered far unreleased Range = far
lacks tests disordered far unreleased NoSignal = unreleased

abbrev pub first_fault : WordTests → Bool → Bool → Bool → Option FaultKind
first_fault tests disordered far unreleased = find (lacks tests disordered far unreleased) fault_kinds

-- Lines

-- what stands at a place

abbrev pub line_of : Said → ℕ
line_of (Name thing) = option_map_or (λ t. t.line) thing 0
line_of other = 0

abbrev pub line_or : ℕ → Said → ℕ
line_or line (Name thing) = option_map_or (λ t. t.line) thing line
line_or line other = line

abbrev pub number_of : Said → ℕ
number_of (Number number) = unwrap_or number 0
number_of other = 0

abbrev pub stages_of : Said → Scope
stages_of (Stages scope) = unwrap_or scope empty_scope
stages_of other = empty_scope

abbrev pub line_in : List Said → ℕ → ℕ
line_in said k = option_map_or line_of (slice_get said k) 0

abbrev pub thread_in : ℕ → List Said → ℕ → ℕ
thread_in line said k = option_map_or (line_or line) (slice_get said k) line

abbrev pub number_in : List Said → ℕ → ℕ
number_in said k = option_map_or number_of (slice_get said k) 0

abbrev pub scope_in : List Said → ℕ → Scope
scope_in said k = option_map_or stages_of (slice_get said k) empty_scope

abbrev pub access_in : AccessKind → List Said → ℕ → Access
access_in kind said k = record {
  kind = kind;
  resource = line_in said k;
  range = record { offset = number_in said (k + 1); length = number_in said (k + 2) };
}

-- what a line of a form says whose words say this, from its first place on
abbrev pub statement_in : ℕ → Form → List Said → Statement
statement_in line QueueLine xs = Declare Queue
statement_in line BinaryLine xs = Declare Binary
statement_in line FenceLine xs = Declare Fence
statement_in line EventLine xs = Declare Event
statement_in line TimelineLine xs = DeclareTimeline (number_in xs 1)
statement_in line ResourceLine xs = DeclareResource (number_in xs 1)
statement_in line GoneLine xs = Forget (line_in xs 0)
statement_in line ThreadLine xs = GoOn (thread_in line xs 0)
statement_in line AfterLine xs = After (line_in xs 0)
statement_in line SubmitLine xs = Submit (line_in xs 0)
statement_in line HandLine xs = HandOver
statement_in line SubmitHandedLine xs = SubmitHanded (line_in xs 0) (line_in xs 1)
statement_in line HostSignalLine xs = HostSignal (line_in xs 0) (number_in xs 1)
statement_in line SawValueLine xs = SawValue (line_in xs 0) (number_in xs 1)
statement_in line SawFenceLine xs = SawFence (line_in xs 0)
statement_in line IdleLine xs = WaitIdle (line_in xs 0)
statement_in line HostReadLine xs = HostAccess (access_in Read xs 0)
statement_in line HostWriteLine xs = HostAccess (access_in Write xs 0)
statement_in line CutLine xs = Cut
statement_in line WaitTimelineLine xs = WaitTimeline (line_in xs 0) (number_in xs 1) (scope_in xs 2)
statement_in line WaitBinaryLine xs = WaitBinary (line_in xs 0) (scope_in xs 1)
statement_in line ReadLine xs = CommandAccess (access_in Read xs 0) (scope_in xs 3)
statement_in line WriteLine xs = CommandAccess (access_in Write xs 0) (scope_in xs 3)
statement_in line NextLine xs = Next
statement_in line BarrierLine xs = Barrier (scope_in xs 0) (scope_in xs 1)
statement_in line TransitionLine xs = Transition (scope_in xs 0) (scope_in xs 1) (access_in Write xs 2)
statement_in line SetLine xs = SetEvent (line_in xs 0) (scope_in xs 1)
statement_in line AwaitLine xs = AwaitEvent (line_in xs 0) (scope_in xs 1)
statement_in line SignalTimelineLine xs = SignalTimeline (line_in xs 0) (number_in xs 1) (scope_in xs 2)
statement_in line SignalBinaryLine xs = SignalBinary (line_in xs 0) (scope_in xs 1)
statement_in line BatchFenceLine xs = SignalFence (line_in xs 0)
statement_in line EndLine xs = EndBatch
