-- What is kept of each cell of bytes while commands are gone through: the last command that wrote it,
-- and commands that have read it since.
use Rattle.std.specs.Prelude.{ℕ, ◌≡◌, ◌<◌, ◌≤◌, ◌⊎◌, Bool, true, false, List, [], ◌∷◌}
use Rattle.std.specs.Prelude.{length, Option, Some, None}
use Rattle.std.specs.List.{slice_get}
use Rattle.std.specs.List.Sorted.{IsNonDecreasing}
use Rattle.vq_model.specs.HappensBefore.{HappensBeforeCommand}
use Rattle.vq_model.specs.LoweredPlans.{IsPlan}
use Rattle.vq_model.specs.Plan.{Plan, commands_of}
use Rattle.vq_ground.specs.Lists.{has}
use Rattle.vq_order.specs.CellRanges.{AreFirstCells, IsCellOf}
use Rattle.vq_order.specs.declared.races.accesses.MemoryAccess.{MemoryAccess}
use Rattle.vq_order.specs.declared.races.accesses.Visitor.{Visitor}
use Rattle.vq_order.specs.declared.races.cells.Cell.{Cell}
use Rattle.vq_order.specs.declared.races.cells.Known.{Known}
use Rattle.vq_order.specs.declared.races.cells.Touch.{Touch}
use Rattle.vq_order.specs.declared.races.cells.Touch.TheVariants.{Reads, Writes}
use Rattle.vq_order.specs.declared.races.accesses.Span.{Span}

-- a command is of its job
abbrev pub IsOfJob : Plan → Visitor → Type 0
IsOfJob p a = has (commands_of p a.job) a.command ≡ true

-- a command is another one, or an earlier one of its job
abbrev pub IsEarlier : Visitor → Visitor → Type 0
IsEarlier a b = (a.job ≡ b.job) × (a.command ≤ b.command)

-- a command is another one or an earlier one of its job, or happens before it
abbrev pub AtOrBefore : Plan → Visitor → Visitor → Type 0
AtOrBefore p a b = IsEarlier a b ⊎ HappensBeforeCommand p a.job b.job b.command

abbrev pub AreInOrder : Plan → Visitor → Visitor → Type 0
AreInOrder p a b = AtOrBefore p a b ⊎ AtOrBefore p b a

-- a command reads or writes a cell
pub record Visit : Type 0 where
  pub cell : ℕ
  pub by : Visitor
  pub writes : Bool

abbrev pub is_write : Touch → Bool
is_write Reads = false
is_write Writes = true

-- among these a command reads or writes a cell
abbrev pub Touched : List Visit → ℕ → Visitor → Bool → Type 0
Touched [] k j w = ⊥
Touched (t ∷ log) k j w =
    ((t.cell ≡ k) × (t.by ≡ j) × (t.writes ≡ w)) ⊎ Touched log k j w

-- a command is one of a list
abbrev pub IsAmong : List Visitor → Visitor → Type 0
IsAmong [] j = ⊥
IsAmong (i ∷ is) j = (i ≡ j) ⊎ IsAmong is j

-- a command is, or comes before, the last one that wrote a cell
pub record ByWriter (p : Plan) (writer : Option Visitor) (j : Visitor) : Type 0 where
  pub last : Visitor
  pub is_last : writer ≡ Some last
  pub comes : AtOrBefore p j last

-- a command is, or comes before, one of those that have read a cell since
pub record ByReader (p : Plan) (readers : List Visitor) (j : Visitor) : Type 0 where
  pub later : Visitor
  pub is_kept : IsAmong readers later
  pub comes : AtOrBefore p j later

-- What is kept of a cell stands for all that has touched it, and all that conflicts there is in
-- order.
pub record KeepsCell (p : Plan) (log : List Visit) (k : ℕ) (cell : Cell) : Type 0 where
  pub wrote : (j : Visitor) → Touched log k j true → ByWriter p cell.writer j
  pub read : (j : Visitor) → Touched log k j false →
      ByWriter p cell.writer j ⊎ ByReader p cell.readers.items j
  pub in_order : (i j : Visitor) (w : Bool) → Touched log k i true → Touched log k j w →
      AreInOrder p i j

-- the commands that are kept of a cell are those of the plan
pub record HasCommands (p : Plan) (cell : Cell) : Type 0 where
  pub writer : (j : Visitor) → cell.writer ≡ Some j → IsOfJob p j
  pub readers : (j : Visitor) → IsAmong cell.readers.items j → IsOfJob p j

-- a command may touch a cell: it is one of the plan, and so are those that have
pub record MayTouch (p : Plan) (cell : Cell) (by : Visitor) : Type 0 where
  pub plan : IsPlan p
  pub kept : HasCommands p cell
  pub own : IsOfJob p by

-- The commands of a job up to one of them are known: each is the command that goes through cells, an
-- earlier one of its job, or happens before it.
pub record IsKnown (p : Plan) (known by : Visitor) : Type 0 where
  pub comes : (a : Visitor) → IsEarlier a known → AtOrBefore p a by

-- both commands that are remembered are known so
abbrev pub AreKnown : Plan → Known → Visitor → Type 0
AreKnown p known by = IsKnown p known.writer by × IsKnown p known.reader by

abbrev pub IsAfterSome : Plan → Option Visitor → Visitor → Type 0
IsAfterSome p writer j = (i : Visitor) → writer ≡ Some i → AtOrBefore p i j

abbrev pub IsAfterAll : Plan → List Visitor → Visitor → Type 0
IsAfterAll p readers j = (i : Visitor) → IsAmong readers i → AtOrBefore p i j

-- One more reader: those that it comes after needn't be kept, and no other is added.
pub record KeepsLater (p : Plan) (readers : List Visitor) (j : Visitor)
    (kept : List Visitor) : Type 0 where
  pub one_more : IsAmong kept j
  pub others : (i : Visitor) → IsAmong readers i → AtOrBefore p i j ⊎ IsAmong kept i
  pub only : (i : Visitor) → IsAmong kept i → IsAmong readers i ⊎ (i ≡ j)

-- A command reads or writes a cell: what was kept before stands for all before, and what is kept
-- after it for one more.
pub record Touches (p : Plan) (j : Visitor) (w : Bool) (old new : Cell) : Type 0 where
  pub kept : HasCommands p new
  pub keeps : (log : List Visit) (k : ℕ) → KeepsCell p log k old →
      KeepsCell p (record { cell = k; by = j; writes = w } ∷ log) k new

-- Cells

-- what is kept of all cells stands for all that has touched them
abbrev pub KeepsAll : Plan → List Visit → List Cell → Type 0
KeepsAll p log cells =
    (k : ℕ) (cell : Cell) → slice_get cells k ≡ Some cell → KeepsCell p log k cell

abbrev pub HaveCommands : Plan → List Cell → Type 0
HaveCommands p cells = (k : ℕ) (cell : Cell) → slice_get cells k ≡ Some cell → HasCommands p cell

-- these touches, and those before
pub record Extended (p : Plan) (cells : List Cell) (log : List Visit)
    (Own : ℕ → Visitor → Bool → Type 0) : Type 0 where
  pub longer : List Visit
  pub keeps : KeepsAll p longer cells
  pub before : (k : ℕ) (j : Visitor) (w : Bool) → Touched log k j w → Touched longer k j w
  pub own : (k : ℕ) (j : Visitor) (w : Bool) → Own k j w → Touched longer k j w

-- Cells are gone through: what is kept after it stands for these touches, and for those before.
pub record Sweeps (p : Plan) (old new : List Cell)
    (Own : ℕ → Visitor → Bool → Type 0) : Type 0 where
  pub count : length new ≡ length old
  pub kept : HaveCommands p new
  pub extends : (log : List Visit) → KeepsAll p log old → Extended p new log Own

-- where cells begin, which are the first ones of the first buffers, and what is kept of each
pub record FitsSweep (p : Plan) (cuts firsts : List ℕ) (cells : List Cell) : Type 0 where
  pub plan : IsPlan p
  pub rise : IsNonDecreasing cuts
  pub starts : AreFirstCells cuts firsts
  pub count : length cells ≡ length cuts
  pub kept : HaveCommands p cells

-- a command touches each of these cells
pub record TouchesEach (first end : ℕ) (by : Visitor) (writes : Bool)
    (k : ℕ) (j : Visitor) (w : Bool) : Type 0 where
  pub from : first ≤ k
  pub below : k < end
  pub same_command : j ≡ by
  pub same_kind : w ≡ writes

-- a command touches the cells of a range
pub record TouchesSpan (cuts : List ℕ) (s : Span) (by : Visitor) (writes : Bool)
    (k : ℕ) (j : Visitor) (w : Bool) : Type 0 where
  pub cell : IsCellOf cuts s k
  pub same_command : j ≡ by
  pub same_kind : w ≡ writes

-- a command reads a cell
pub record ReadsCell (cuts : List ℕ) (a : MemoryAccess)
    (k : ℕ) (j : Visitor) (w : Bool) : Type 0 where
  pub span : Span
  pub is_read : a.read ≡ Some span
  pub touch : TouchesSpan cuts span a.by false k j w

abbrev pub TouchesBy : List ℕ → MemoryAccess → ℕ → Visitor → Bool → Type 0
TouchesBy cuts a k j w = TouchesSpan cuts a.written a.by true k j w ⊎ ReadsCell cuts a k j w

-- cells that nothing has touched
abbrev pub AreUntouched : List Cell → Type 0
AreUntouched cells = (k : ℕ) (cell : Cell) → slice_get cells k ≡ Some cell →
    (cell.writer ≡ None) × (cell.readers.items ≡ [])
