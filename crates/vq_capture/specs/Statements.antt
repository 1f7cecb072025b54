-- What the words of a line say, and what the line leaves. The format is this project's own.
use Rattle.std.specs.Prelude.{ℕ, List, [], ◌∷◌, ◌++◌, ◌+◌, ◌==◌, if◌then◌else◌, slice_get}
use Rattle.std.specs.Prelude.{Option, Some, None, unwrap_or}
use Rattle.std.specs.Option.{option_map, option_map_or}
use Rattle.vq_model.specs.Text.{numeral}
use Rattle.vq_capture.specs.declared.form.Form.{Form}
use Rattle.vq_capture.specs.declared.form.Form.TheVariants.{QueueLine, BinaryLine, FenceLine, EventLine, TimelineLine}
use Rattle.vq_capture.specs.declared.form.Form.TheVariants.{ResourceLine, GoneLine, ThreadLine, AfterLine, SubmitLine}
use Rattle.vq_capture.specs.declared.form.Form.TheVariants.{HandLine, SubmitHandedLine, HostSignalLine, SawValueLine}
use Rattle.vq_capture.specs.declared.form.Form.TheVariants.{SawFenceLine, IdleLine, HostReadLine, HostWriteLine}
use Rattle.vq_capture.specs.declared.form.Form.TheVariants.{CutLine, WaitTimelineLine, WaitBinaryLine, ReadLine}
use Rattle.vq_capture.specs.declared.form.Form.TheVariants.{WriteLine, NextLine, BarrierLine, TransitionLine, SetLine}
use Rattle.vq_capture.specs.declared.form.Form.TheVariants.{AwaitLine, SignalTimelineLine, SignalBinaryLine}
use Rattle.vq_capture.specs.declared.form.Form.TheVariants.{BatchFenceLine, EndLine}
use Rattle.vq_capture.specs.declared.stage.Scope.{Scope}
use Rattle.vq_capture.specs.declared.statement.Kind.{Kind}
use Rattle.vq_capture.specs.declared.statement.Kind.TheVariants.{Queue, Binary, Timeline, Fence, Event, Resource}
use Rattle.vq_capture.specs.declared.statement.Kind.TheVariants.{Thread, Handed}
use Rattle.vq_capture.specs.declared.statement.AccessKind.{AccessKind}
use Rattle.vq_capture.specs.declared.statement.AccessKind.TheVariants.{Read, Write}
use Rattle.vq_capture.specs.declared.statement.Access.{Access}
use Rattle.vq_capture.specs.declared.statement.Statement.{Statement}
use Rattle.vq_capture.specs.declared.statement.Statement.TheVariants.{Declare, DeclareTimeline, DeclareResource}
use Rattle.vq_capture.specs.declared.statement.Statement.TheVariants.{Forget, GoOn, After, Submit, HandOver}
use Rattle.vq_capture.specs.declared.statement.Statement.TheVariants.{SubmitHanded, HostSignal, SawValue, SawFence}
use Rattle.vq_capture.specs.declared.statement.Statement.TheVariants.{WaitIdle, HostAccess, Cut, WaitTimeline}
use Rattle.vq_capture.specs.declared.statement.Statement.TheVariants.{WaitBinary, CommandAccess, Next, Barrier}
use Rattle.vq_capture.specs.declared.statement.Statement.TheVariants.{Transition, SetEvent, AwaitEvent}
use Rattle.vq_capture.specs.declared.statement.Statement.TheVariants.{SignalTimeline, SignalBinary, SignalFence}
use Rattle.vq_capture.specs.declared.statement.Statement.TheVariants.{EndBatch}
use Rattle.vq_capture.specs.declared.capture.Step.{Step}
use Rattle.vq_capture.specs.Masks.{no_stage}
use Rattle.vq_capture.specs.MaskWords.{scope_of, access_scope_of, no_access}
use Rattle.vq_capture.specs.LineForms.{part_of, ends_command}
use Rattle.vq_capture.specs.Context.{Above, Named, Opened, named, declared_at, without_name}

-- What stands at the places of a line without a fault, counted from the first word

abbrev pub word_at : List (List ℕ) → ℕ → List ℕ
word_at words k = unwrap_or (slice_get words k) []

abbrev pub number_at : List (List ℕ) → ℕ → ℕ
number_at words k = unwrap_or (numeral (word_at words k)) 0

abbrev pub empty_scope : Scope
empty_scope = record { stages = no_stage; accesses = no_access }

abbrev pub scope_at : List (List ℕ) → ℕ → Scope
scope_at words k = unwrap_or (scope_of (word_at words k)) empty_scope

abbrev pub access_scope_at : List (List ℕ) → ℕ → Scope
access_scope_at words k = unwrap_or (access_scope_of (word_at words k)) empty_scope

-- what a name is, by the line of its declaration
abbrev pub thing_at : Above → List (List ℕ) → ℕ → ℕ
thing_at above words k = declared_at above.names (word_at words k)

-- the thread of a name, which this line may be the first to name
abbrev pub thread_at : Above → ℕ → List (List ℕ) → ℕ → ℕ
thread_at above line words k = option_map_or (λ n. n.line) (named above.names (word_at words k)) line

-- an access: a resource, an offset and a length, from a place on
abbrev pub access_at : Above → AccessKind → List (List ℕ) → ℕ → Access
access_at above kind words k = record {
  kind = kind;
  resource = thing_at above words k;
  range = record { offset = number_at words (k + 1); length = number_at words (k + 2) };
}

-- What a line of a form says, at its number.
abbrev pub statement : Above → ℕ → Form → List (List ℕ) → Statement
statement above line QueueLine ws = Declare Queue
statement above line BinaryLine ws = Declare Binary
statement above line FenceLine ws = Declare Fence
statement above line EventLine ws = Declare Event
statement above line TimelineLine ws = DeclareTimeline (number_at ws 2)
statement above line ResourceLine ws = DeclareResource (number_at ws 2)
statement above line GoneLine ws = Forget (thing_at above ws 1)
statement above line ThreadLine ws = GoOn (thread_at above line ws 1)
statement above line AfterLine ws = After (thing_at above ws 1)
statement above line SubmitLine ws = Submit (thing_at above ws 1)
statement above line HandLine ws = HandOver
statement above line SubmitHandedLine ws = SubmitHanded (thing_at above ws 1) (thing_at above ws 2)
statement above line HostSignalLine ws = HostSignal (thing_at above ws 1) (number_at ws 2)
statement above line SawValueLine ws = SawValue (thing_at above ws 1) (number_at ws 2)
statement above line SawFenceLine ws = SawFence (thing_at above ws 1)
statement above line IdleLine ws = WaitIdle (thing_at above ws 1)
statement above line HostReadLine ws = HostAccess (access_at above Read ws 1)
statement above line HostWriteLine ws = HostAccess (access_at above Write ws 1)
statement above line CutLine ws = Cut
statement above line WaitTimelineLine ws = WaitTimeline (thing_at above ws 1) (number_at ws 2) (scope_at ws 3)
statement above line WaitBinaryLine ws = WaitBinary (thing_at above ws 1) (scope_at ws 2)
statement above line ReadLine ws = CommandAccess (access_at above Read ws 1) (access_scope_at ws 4)
statement above line WriteLine ws = CommandAccess (access_at above Write ws 1) (access_scope_at ws 4)
statement above line NextLine ws = Next
statement above line BarrierLine ws = Barrier (scope_at ws 1) (scope_at ws 2)
statement above line TransitionLine ws = Transition (scope_at ws 1) (scope_at ws 2) (access_at above Write ws 3)
statement above line SetLine ws = SetEvent (thing_at above ws 1) (scope_at ws 2)
statement above line AwaitLine ws = AwaitEvent (thing_at above ws 1) (scope_at ws 2)
statement above line SignalTimelineLine ws = SignalTimeline (thing_at above ws 1) (number_at ws 2) (scope_at ws 3)
statement above line SignalBinaryLine ws = SignalBinary (thing_at above ws 1) (scope_at ws 2)
statement above line BatchFenceLine ws = SignalFence (thing_at above ws 1)
statement above line EndLine ws = EndBatch

-- Where a line stands

abbrev pub batch_queue : Above → Option ℕ
batch_queue above = option_map (λ b. b.queue) above.batch

-- the queue of a line: of lines of a batch, of those that begin one, and of `idle`
abbrev pub queue_of : Above → Statement → Option ℕ
queue_of above (Submit q) = Some q
queue_of above (SubmitHanded q k) = Some q
queue_of above (WaitIdle q) = Some q
queue_of above other = batch_queue above

abbrev pub if_outside : Above → ℕ → Option ℕ
if_outside above thread = option_map_or (λ b. None) above.batch (Some thread)

-- the host thread of a line: of the lines outside batches, but declarations, ends of names, and batches that were
-- handed over above
abbrev pub thread_of : Above → Statement → Option ℕ
thread_of above (Declare k) = None
thread_of above (DeclareTimeline v) = None
thread_of above (DeclareResource n) = None
thread_of above (Forget x) = None
thread_of above (SubmitHanded q k) = None
thread_of above (GoOn h) = Some h
thread_of above other = if_outside above above.thread

-- the command of an access: what stands between two lines that end commands
abbrev pub command_of : Above → Statement → Option ℕ
command_of above (CommandAccess access scope) = option_map (λ b. b.command) above.batch
command_of above other = None

abbrev pub step_of : Above → ℕ → Statement → Step
step_of above line said = record {
  line = line;
  queue = queue_of above said;
  thread = thread_of above said;
  command = command_of above said;
  statement = said;
}

-- What a line leaves

-- the names with a new one, of this line
abbrev pub with_name : Kind → ℕ → List ℕ → List Named → List Named
with_name kind line word names = names ++ record { name = word; kind = kind; line = line } ∷ []

abbrev pub names_after : Above → ℕ → List (List ℕ) → Statement → List Named
names_after above line ws (Declare k) = with_name k line (word_at ws 1) above.names
names_after above line ws (DeclareTimeline v) = with_name Timeline line (word_at ws 1) above.names
names_after above line ws (DeclareResource n) = with_name Resource line (word_at ws 1) above.names
names_after above line ws HandOver = with_name Handed line (word_at ws 1) above.names
names_after above line ws (GoOn h) =
    if h == line then with_name Thread line (word_at ws 1) above.names else above.names
names_after above line ws (Forget x) = without_name above.names (word_at ws 1)
names_after above line ws (SubmitHanded q k) = without_name above.names (word_at ws 2)
names_after above line ws other = above.names

abbrev pub thread_after : Above → Statement → ℕ
thread_after above (GoOn h) = h
thread_after above other = above.thread

abbrev pub opened : ℕ → ℕ → Option Opened
opened queue line = Some (record { queue = queue; part = 1; command = line })

-- a batch with a line of a form behind its others
abbrev pub batch_with : ℕ → Form → Opened → Opened
batch_with line form batch = record {
  queue = batch.queue;
  part = part_of form;
  command = if ends_command form then line else batch.command;
}

abbrev pub batch_after : Above → ℕ → Form → Statement → Option Opened
batch_after above line form (Submit q) = opened q line
batch_after above line form (SubmitHanded q k) = opened q line
batch_after above line form EndBatch = None
batch_after above line form other = option_map (batch_with line form) above.batch

-- The lines above, with one more, which has no fault.
abbrev pub with_line : Above → ℕ → Form → List (List ℕ) → Above
with_line above line form ws = by (statement above line form ws)
  where
    by : Statement → Above
    by said = record {
      steps = above.steps ++ step_of above line said ∷ [];
      names = names_after above line ws said;
      thread = thread_after above said;
      batch = batch_after above line form said;
    }
