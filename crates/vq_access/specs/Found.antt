-- What is found for a value of a chain. This project's own.
use Rattle.std.specs.Prelude.{ℕ, ◌≡◌, ◌<◌, ◌≤◌, ◌⊎◌, Some, length}
use Rattle.vq_model.specs.Plan.{Plan, initial, resolver}
use Rattle.vq_turns.specs.declared.look.Found.{Found}
use Rattle.vq_turns.specs.declared.look.Found.TheVariants.{Past, Pending, NotYet}
use Rattle.vq_board_laws.specs.declared.view.OpState.{OpState}
use Rattle.vq_board_laws.specs.declared.view.OpState.TheVariants.{Unbound as UnboundOp}
use Rattle.vq_board_laws.specs.declared.view.OpState.TheVariants.{Bound as BoundOp, Past as PastOp}
use Rattle.vq_board_laws.specs.PointSteps.{recalls}
use Rattle.vq_board.specs.declared.parts.Pass.{Pass}
use Rattle.vq_board.specs.Named.{view, board_of}

abbrev pub found_by : ℕ → OpState → Found
found_by e UnboundOp = NotYet e
found_by e (BoundOp q) = Pending e q
found_by e PastOp = Past

-- the value isn't above the initial one, and nothing was looked at
pub record IsEarly (p : Plan) (x y : Pass) (t v : ℕ) (result : Found) : Type 0 where
  pub early : v ≤ initial p t
  pub answer : result ≡ Past
  pub same : view y ≡ view x

-- the pass recalled what resolves the value
pub record HasRecalled (p : Plan) (x y : Pass) (t v : ℕ) (result : Found) : Type 0 where
  pub above : initial p t < v
  pub op : ℕ
  pub state : OpState
  pub resolves : resolver p t v ≡ Some op
  pub answer : result ≡ found_by op state
  pub recalled : view y ≡ recalls (view x) op state
  pub point : (q : ℕ) → state ≡ BoundOp q → q < length p.ops

abbrev pub HasFound : Plan → Pass → Pass → ℕ → ℕ → Found → Type 0
HasFound p x y t v result =
    (board_of y ≡ board_of x) × (IsEarly p x y t v result ⊎ HasRecalled p x y t v result)
