-- The cells of commands: where their ranges begin, and which of them the commands of jobs touch.
use Rattle.std.specs.Prelude.{ℕ, ◌≡◌, ◌<◌, Bool, true, List, Some}
use Rattle.std.specs.List.{Contains}
use Rattle.std.specs.List.Sorted.{IsNonDecreasing}
use Rattle.vq_model.specs.Plan.{Plan, commands_of}
use Rattle.vq_ground.specs.Lists.{has}
use Rattle.vq_order.specs.Accessed.{IsAccess}
use Rattle.vq_order.specs.CellRanges.{start_of}
use Rattle.vq_order.specs.Swept.{TouchesBy}
use Rattle.vq_order.specs.declared.races.accesses.MemoryAccess.{MemoryAccess}
use Rattle.vq_order.specs.declared.races.accesses.Span.{Span}
use Rattle.vq_order.specs.declared.races.accesses.Visitor.{Visitor}

-- the ranges of a command begin at some of these places
pub record HasStarts (places : List ℕ) (a : MemoryAccess) : Type 0 where
  pub written : has places (start_of a.written) ≡ true
  pub read : (s : Span) → a.read ≡ Some s → has places (start_of s) ≡ true

-- the ranges of the first commands of a plan do
abbrev pub HaveStarts : Plan → ℕ → List ℕ → Type 0
HaveStarts p count places =
    (c : ℕ) (a : MemoryAccess) → c < count → IsAccess p c a → HasStarts places a

-- Where the ranges of all commands begin, in order.
pub record AreCuts (p : Plan) (cuts : List ℕ) : Type 0 where
  pub rise : IsNonDecreasing cuts
  pub written : (c : ℕ) (a : MemoryAccess) → IsAccess p c a → Contains cuts (start_of a.written)
  pub read : (c : ℕ) (a : MemoryAccess) (s : Span) → IsAccess p c a → a.read ≡ Some s →
      Contains cuts (start_of s)

-- one of these commands, among the first ones of the plan, touches a cell
pub record TouchesAmong (p : Plan) (cuts : List ℕ) (count : ℕ) (commands : List ℕ)
    (k : ℕ) (j : Visitor) (w : Bool) : Type 0 where
  pub command : ℕ
  pub listed : has commands command ≡ true
  pub below : command < count
  pub access : MemoryAccess
  pub is_its : IsAccess p command access
  pub touch : TouchesBy cuts access k j w

-- a command of one of these jobs, among the first ones of the plan, touches a cell
pub record TouchesIn (p : Plan) (cuts : List ℕ) (count : ℕ) (jobs : List ℕ)
    (k : ℕ) (j : Visitor) (w : Bool) : Type 0 where
  pub job : ℕ
  pub in_list : has jobs job ≡ true
  pub among : TouchesAmong p cuts count (commands_of p job) k j w
