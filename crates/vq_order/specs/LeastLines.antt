-- The least pair of lines, by the second line and then by the first.
use Rattle.std.specs.Prelude.{ℕ, ◌≡◌, ◌<◌, length, Bool, nat_lt, nat_eq, ◌&&◌, ◌||◌}
use Rattle.std.specs.Prelude.{if◌then◌else◌, Option, Some, None}
use Rattle.std.specs.List.{slice_get}
use Rattle.vq_model.specs.declared.plan.Need.{Need}
use Rattle.vq_model.specs.Checks.{IsLeastPair, NoLines}
use Rattle.vq_model.specs.Plan.{Plan, needs}
use Rattle.vq_order.specs.declared.lines.Lines.{Lines}

-- the least lines of which something holds, or none
abbrev pub AreLeastOrNone : (ℕ → ℕ → Type 0) → Option Lines → Type 0
AreLeastOrNone P None = NoLines P
AreLeastOrNone P (Some x) = IsLeastPair P x.first x.second

-- whether two lines come before two others
abbrev pub comes_first : Lines → Lines → Bool
comes_first x y = nat_lt x.second y.second || (nat_eq x.second y.second && nat_lt x.first y.first)

-- the lesser of lines that may be there and others
abbrev pub lower_lines : Option Lines → Lines → Lines
lower_lines None y = y
lower_lines (Some x) y = if comes_first y x then y else x

abbrev pub lower_of : Option Lines → Option Lines → Option Lines
lower_of o None = o
lower_of o (Some y) = Some (lower_lines o y)

-- lines of one of the first numbers
pub record IsOfFirst (R : ℕ → ℕ → ℕ → Type 0) (n a b : ℕ) : Type 0 where
  pub number : ℕ
  pub below : number < n
  pub holds : R number a b

-- at a place among what a job waits for
pub record IsOfNeed (p : Plan) (R : Need → ℕ → ℕ → Type 0) (j k a b : ℕ) : Type 0 where
  pub need : Need
  pub of_job : slice_get (needs p j) k ≡ Some need
  pub holds : R need a b

-- among what a job waits for
abbrev pub IsOfNeeds : Plan → (Need → ℕ → ℕ → Type 0) → ℕ → ℕ → ℕ → Type 0
IsOfNeeds p R j a b = IsOfFirst (IsOfNeed p R j) (length (needs p j)) a b
