-- The lanes of a pass that asks for memory. Of each number of a queue and a thread there are 165. The first fifteen are
-- those of a pass for races. Behind them are those of storage writes at each stage, and of other writes at each stage;
-- and then, for each kind of read, those of what is shown to it at each stage.
use Rattle.std.specs.Prelude.{ℕ, Bool, true, List, [], ◌∷◌, ◌++◌, ◌+◌, ◌*◌, ◌/◌, ◌%◌, ◌||◌, not, is_some}
use Rattle.std.specs.Prelude.{if◌then◌else◌, Option, Some, None}
use Rattle.vq_capture.specs.declared.stage.Stage.{Stage}
use Rattle.vq_capture.specs.declared.stage.StageMask.{StageMask}
use Rattle.vq_capture.specs.declared.stage.AccessMask.{AccessMask}
use Rattle.vq_capture.specs.declared.stage.Scope.{Scope}
use Rattle.vq_capture.specs.declared.statement.Statement.{Statement}
use Rattle.vq_capture.specs.declared.statement.Statement.TheVariants.{Barrier, Transition, SetEvent, AwaitEvent}
use Rattle.vq_capture.specs.Masks.{no_stage}
use Rattle.vq_capture.specs.MaskWords.{no_access}
use Rattle.vq_capture.specs.Points.{Point, takes, gives}
use Rattle.vq_capture_memory.specs.AccessKinds.{names_read, share_read, has_write, has_read}
use Rattle.vq_capture_memory.specs.Seen.{kinds_of}
use Rattle.vq_capture_touched.specs.declared.touch.StepLanes.{StepLanes}
use Rattle.vq_capture_check.specs.Lanes.{stage_number, stage_lanes, given}

-- the first lane of a site, by the one that it has in a pass for races
abbrev pub wide : ℕ → ℕ
wide lane = 165 * (lane / 15) + lane % 15

abbrev pub widened : StepLanes → StepLanes
widened at = record { queue = wide at.queue; thread = wide at.thread; after = wide at.after }

-- Writes

-- a write that a scope with storage writes has, and one that it hasn't
abbrev pub storage_writes : AccessMask
storage_writes = record no_access { storage_write = true }

abbrev pub other_writes : AccessMask
other_writes = record no_access { memory_write = true }

abbrev pub is_storage : AccessMask → Bool
is_storage own = own.storage_write || not own.memory_write

-- the stages of a first scope, if it has writes of some kinds
abbrev pub written_stages : Scope → AccessMask → StageMask
written_stages scope own = if has_write scope.accesses own then scope.stages else no_stage

-- the stages at which a point makes writes of some kinds available
abbrev pub made_stages : Point → AccessMask → StageMask
made_stages p own = by p.step.statement
  where
    by : Statement → StageMask
    by (Barrier first second) = written_stages first own
    by (Transition first second access) = written_stages first own
    by (SetEvent e scope) = written_stages scope own
    by other = takes p

-- the lanes of the writes that a point makes available
abbrev pub made_lanes : StepLanes → Point → List ℕ
made_lanes at p =
    if is_some p.step.queue
    then
    stage_lanes (at.queue + 15) (made_stages p storage_writes)
    ++ stage_lanes (at.queue + 30) (made_stages p other_writes)
    else []

-- the first lane of writes of some kinds
abbrev pub writes_from : ℕ → AccessMask → ℕ
writes_from first own = if is_storage own then first + 15 else first + 30

-- The lanes by which clocks are asked for a write: that of its kind at its stage. One that is available as it comes is
-- asked for by the order that it has.
abbrev pub asked_lanes : StepLanes → Point → List ℕ
asked_lanes at x = by x.stage
  where
    by : Option Stage → List ℕ
    by (Some s) = (writes_from at.queue (kinds_of x.step.statement) + stage_number s) ∷ []
    by None = given at x

-- Reads

-- the kinds of reads: those that name none, and those of each kind
abbrev pub every_read : List AccessMask
every_read =
    no_access ∷ record no_access { memory_read = true } ∷ record no_access { index_read = true }
    ∷ record no_access { attribute_read = true } ∷ record no_access { uniform_read = true }
    ∷ record no_access { sampled_read = true } ∷ record no_access { storage_read = true }
    ∷ record no_access { attachment_read = true } ∷ []

-- whether reads of some kinds are of one of these
abbrev pub is_of_kind : AccessMask → AccessMask → Bool
is_of_kind own kind = if names_read own then share_read own kind else not (names_read kind)

-- the stages of a second scope, if it has reads of a kind
abbrev pub read_stages : Scope → AccessMask → StageMask
read_stages scope kind = if has_read scope.accesses kind then scope.stages else no_stage

-- the stages at which a point shows reads of a kind what is available
abbrev pub shown_stages : Point → AccessMask → StageMask
shown_stages p kind = by p.step.statement
  where
    by : Statement → StageMask
    by (Barrier first second) = read_stages second kind
    by (Transition first second access) = read_stages second kind
    by (AwaitEvent e scope) = read_stages scope kind
    by other = gives p

-- the lanes of what a point shows to some kinds of reads, whose lanes follow one another
abbrev pub shown_from : ℕ → Point → List AccessMask → List ℕ
shown_from first p [] = []
shown_from first p (kind ∷ kinds) = stage_lanes first (shown_stages p kind) ++ shown_from (first + 15) p kinds

abbrev pub shown_lanes : StepLanes → Point → List ℕ
shown_lanes at p = if is_some p.step.queue then shown_from (at.queue + 45) p every_read else []

-- the lanes of what is shown to a read of some kinds at a stage, by that of the first kind
abbrev pub seen_from : ℕ → AccessMask → List AccessMask → List ℕ
seen_from lane own [] = []
seen_from lane own (kind ∷ kinds) =
    if is_of_kind own kind then lane ∷ seen_from (lane + 15) own kinds else seen_from (lane + 15) own kinds

abbrev pub seen_lanes : StepLanes → AccessMask → Stage → List ℕ
seen_lanes at own s = seen_from (at.queue + 45 + stage_number s) own every_read
