-- Accesses that conflict, and a race: two that nothing orders.
-- Vulkan 1.3, "Execution and Memory Dependencies"; which pair is named is this project's own.
use Rattle.std.specs.Prelude.{ℕ, Bool, true, false, List, ◌==◌, ◌&&◌, ◌||◌, ◌+◌, ◌≡◌, ◌<◌, ◌≤◌, nat_lt, not}
use Rattle.std.specs.Prelude.{Option, Some, None}
use Rattle.vq_capture.specs.declared.statement.AccessKind.{AccessKind}
use Rattle.vq_capture.specs.declared.statement.AccessKind.TheVariants.{Read, Write}
use Rattle.vq_capture.specs.declared.statement.Access.{Access}
use Rattle.vq_capture.specs.declared.statement.Range.{Range}
use Rattle.vq_capture.specs.declared.statement.Statement.{Statement}
use Rattle.vq_capture.specs.declared.statement.Statement.TheVariants.{HostAccess, CommandAccess, Transition}
use Rattle.vq_capture.specs.declared.capture.Step.{Step}
use Rattle.vq_capture.specs.Points.{Point, points_of_step, IsMember}
use Rattle.vq_capture.specs.Before.{Before}

-- what a line accesses
abbrev pub access_of : Statement → Option Access
access_of (HostAccess access) = Some access
access_of (CommandAccess access scope) = Some access
access_of (Transition first second access) = Some access
access_of other = None

-- whether two ranges share a unit
abbrev pub share_unit : Range → Range → Bool
share_unit a b = nat_lt a.offset (b.offset + b.length) && nat_lt b.offset (a.offset + a.length)

abbrev pub is_write : AccessKind → Bool
is_write Read = false
is_write Write = true

-- accesses of one resource that share a unit, one of them a write
abbrev pub clash : Option Access → Option Access → Bool
clash (Some a) (Some b) =
    (a.resource == b.resource) && share_unit a.range b.range && (is_write a.kind || is_write b.kind)
clash a b = false

abbrev pub same_command : Option ℕ → Option ℕ → Bool
same_command (Some c) (Some d) = c == d
same_command c d = false

-- Whether two steps conflict: their accesses clash, and aren't of one command.
abbrev pub conflict : Step → Step → Bool
conflict a b = clash (access_of a.statement) (access_of b.statement) && not (same_command a.command b.command)

-- One access is ordered before another: each of its points is before each of the other's.
abbrev pub Ordered : List Step → Step → Step → Type 0
Ordered steps a b =
    (x y : Point) → IsMember x (points_of_step a) → IsMember y (points_of_step b) → Before steps x y

-- two steps of a capture that conflict, the first above the second
pub record Conflicts (steps : List Step) (a b : Step) : Type 0 where
  pub first : IsMember a steps
  pub second : IsMember b steps
  pub above : a.line < b.line
  pub conflicts : conflict a b ≡ true

-- Two steps race: they conflict, and the first isn't ordered before the second.
pub record IsRace (steps : List Step) (a b : Step) : Type 0 where
  pub pair : Conflicts steps a b
  pub unordered : Ordered steps a b → ⊥

-- All steps that conflict are ordered.
abbrev pub AreOrdered : List Step → Type 0
AreOrdered steps = (a b : Step) → Conflicts steps a b → Ordered steps a b

-- The race that is named: it ends at the least line at which one does, and begins at the greatest from which one leads
-- there.
pub record IsNamedRace (steps : List Step) (a b : Step) : Type 0 where
  pub race : IsRace steps a b
  pub least : (c d : Step) → IsRace steps c d → b.line ≤ d.line
  pub greatest : (c : Step) → IsRace steps c b → c.line ≤ a.line
