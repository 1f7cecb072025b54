-- Where a write is available, where what is available is visible, and which writes an access sees.
-- Vulkan 1.3, "Availability, Visibility, and Domain Operations", "Memory Dependencies", "Semaphores", "Fences", "Host
-- Write Ordering Guarantees", and of a write after a write "Location-Ordered" in "Memory Model".
use Rattle.std.specs.Prelude.{Bool, true, false, List, ◌≡◌, ◌&&◌, ◌⊎◌, Option, Some, None}
use Rattle.vq_capture.specs.declared.stage.Stage.{Stage}
use Rattle.vq_capture.specs.declared.stage.StageMask.{StageMask}
use Rattle.vq_capture.specs.declared.stage.AccessMask.{AccessMask}
use Rattle.vq_capture.specs.declared.stage.Scope.{Scope}
use Rattle.vq_capture.specs.declared.statement.Statement.{Statement}
use Rattle.vq_capture.specs.declared.statement.Statement.TheVariants.{CommandAccess, Barrier, Transition}
use Rattle.vq_capture.specs.declared.statement.Statement.TheVariants.{SetEvent, AwaitEvent}
use Rattle.vq_capture.specs.declared.capture.Step.{Step}
use Rattle.vq_capture.specs.Masks.{has_stage}
use Rattle.vq_capture.specs.MaskWords.{no_access}
use Rattle.vq_capture.specs.Points.{Point}
use Rattle.vq_capture.specs.Before.{Before, IsEdge}
use Rattle.vq_capture_memory.specs.AccessKinds.{has_write, has_read}

-- the kinds that an access of a command names
abbrev pub kinds_of : Statement → AccessMask
kinds_of (CommandAccess access scope) = scope.accesses
kinds_of other = no_access

-- whether a scope names the stage of an access: those that are logically earlier or later don't count
abbrev pub names_stage : StageMask → Option Stage → Bool
names_stage m (Some s) = has_stage m s
names_stage m None = false

-- the accesses of a first scope
abbrev pub is_written_in : Scope → Point → Bool
is_written_in scope x = names_stage scope.stages x.stage && has_write scope.accesses (kinds_of x.step.statement)

-- the accesses of a second scope
abbrev pub is_read_in : Scope → Point → Bool
is_read_in scope y = names_stage scope.stages y.stage && has_read scope.accesses (kinds_of y.step.statement)

-- Whether the first access scope of a point has a write that is ordered directly before it. What isn't a barrier, and
-- sets no event, has all: a signal, a fence, an idle, a cut.
abbrev pub makes_available : Point → Point → Bool
makes_available p x = by p.step.statement
  where
    by : Statement → Bool
    by (Barrier first second) = is_written_in first x
    by (Transition first second access) = is_written_in first x
    by (SetEvent e scope) = is_written_in scope x
    by other = true

-- Whether the second access scope of a point has a read that it is ordered directly before. What isn't a barrier, and
-- awaits no event, has all: a submission, a wait, a cut.
abbrev pub makes_visible : Point → Point → Bool
makes_visible q y = by q.step.statement
  where
    by : Statement → Bool
    by (Barrier first second) = is_read_in second y
    by (Transition first second access) = is_read_in second y
    by (AwaitEvent e scope) = is_read_in scope y
    by other = true

-- The write at x is made available at p: p's first access scope has it.
pub record IsMadeAvailable (steps : List Step) (x p : Point) : Type 0 where
  pub edge : IsEdge steps x p
  pub scope : makes_available p x ≡ true

-- The write at x is available at p. A write of the host, and that of a layout transition, are available as they come.
pub data AvailableAt (steps : List Step) (x : Point) : Point → Type 0 where
  by_itself : x.stage ≡ None → AvailableAt steps x x
  made : {p : Point} → IsMadeAvailable steps x p → AvailableAt steps x p

-- The write at x is available to what y writes: at y, or at a point before y.
abbrev pub IsAvailableTo : List Step → Point → Point → Type 0
IsAvailableTo steps x y = IsMadeAvailable steps x y ⊎ ((p : Point) × AvailableAt steps x p × Before steps p y)

-- What is available at p is made visible to the read at y: by q, which is p or comes behind it.
pub record IsMadeVisible (steps : List Step) (p q y : Point) : Type 0 where
  pub behind : (p ≡ q) ⊎ Before steps p q
  pub edge : IsEdge steps q y
  pub scope : makes_visible q y ≡ true

-- The write at x is visible to the read at y.
abbrev pub IsVisibleTo : List Step → Point → Point → Type 0
IsVisibleTo steps x y = (p q : Point) × AvailableAt steps x p × IsMadeVisible steps p q y
