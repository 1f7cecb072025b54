-- Writes that an access has to see, and doesn't.
-- Vulkan 1.3, "Execution and Memory Dependencies"; which pair is named is this project's own.
use Rattle.std.specs.Prelude.{Bool, true, false, List, ◌≡◌, ◌≤◌, ◌&&◌, not}
use Rattle.std.specs.Option.{option_map_or}
use Rattle.vq_capture.specs.declared.statement.Statement.{Statement}
use Rattle.vq_capture.specs.declared.statement.Statement.TheVariants.{CommandAccess, Transition}
use Rattle.vq_capture.specs.declared.capture.Step.{Step}
use Rattle.vq_capture.specs.Points.{Point, points_of_step, IsMember}
use Rattle.vq_capture.specs.Races.{access_of, is_write, Ordered, Conflicts}
use Rattle.vq_capture_memory.specs.Seen.{IsAvailableTo, IsVisibleTo}

-- whether a step writes
abbrev pub writes : Step → Bool
writes a = option_map_or (λ access. is_write access.kind) (access_of a.statement) false

-- whether a device does what a step accesses
abbrev pub is_of_device : Statement → Bool
is_of_device (CommandAccess access scope) = true
is_of_device (Transition first second access) = true
is_of_device other = false

-- Whether memory is asked of two accesses: the first writes, and the second is of a device. What the host waited for, it
-- sees.
abbrev pub asks_memory : Step → Step → Bool
asks_memory a b = writes a && is_of_device b.statement

-- whether a command reads
abbrev pub is_read : Statement → Bool
is_read (CommandAccess access scope) = not (is_write access.kind)
is_read other = false

-- what a write owes to an access: to a read that it is visible, to a write that it is available
abbrev pub IsDelivered : List Step → Bool → Point → Point → Type 0
IsDelivered steps true x y = IsVisibleTo steps x y
IsDelivered steps false x y = IsAvailableTo steps x y

-- An access sees a write: each of its points sees each of the other's.
abbrev pub Sees : List Step → Step → Step → Type 0
Sees steps a b =
    (x y : Point) → IsMember x (points_of_step a) → IsMember y (points_of_step b) → IsDelivered steps (is_read b.statement) x y

-- A write is ordered before an access that has to see it, and doesn't.
pub record IsUnseen (steps : List Step) (a b : Step) : Type 0 where
  pub pair : Conflicts steps a b
  pub asked : asks_memory a b ≡ true
  pub ordered : Ordered steps a b
  pub unseen : Sees steps a b → ⊥

-- All that conflict, and are asked, see.
abbrev pub AreSeen : List Step → Type 0
AreSeen steps = (a b : Step) → Conflicts steps a b → asks_memory a b ≡ true → Sees steps a b

-- The unseen write that is named: its access stands at the least line at which one does, and it at the greatest from
-- which one leads there.
pub record IsNamedUnseen (steps : List Step) (a b : Step) : Type 0 where
  pub unseen : IsUnseen steps a b
  pub least : (c d : Step) → IsUnseen steps c d → b.line ≤ d.line
  pub greatest : (c : Step) → IsUnseen steps c b → c.line ≤ a.line
