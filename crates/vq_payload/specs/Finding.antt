-- What a look for a value shows. This project's own.
use Rattle.std.specs.Prelude.{ℕ, ◌≡◌, ◌<◌, ◌+◌, ◌⊎◌, Some, length}
use Rattle.std.specs.List.{slice_get}
use Rattle.vq_model.specs.Plan.{resolver}
use Rattle.vq_timeline_core.specs.declared.answers.Found.{Found}
use Rattle.vq_timeline_core.specs.declared.answers.Found.TheVariants.{Past, Pending, NotYet}
use Rattle.vq_board_laws.specs.declared.view.Fact.TheVariants.{BoundTo, Past as PastFact}
use Rattle.vq_board_laws.specs.declared.view.OpState.{OpState}
use Rattle.vq_board_laws.specs.declared.view.OpState.TheVariants.{Unbound as UnboundOp}
use Rattle.vq_board_laws.specs.declared.view.OpState.TheVariants.{Bound as BoundOp, Past as PastOp}
use Rattle.vq_board_laws.specs.Knowledge.{Knows, KnowsMade}
use Rattle.vq_board_laws.specs.PointSteps.{op_number, recalls}
use Rattle.vq_board_laws.specs.Words.{op_word}
use Rattle.vq_board.specs.declared.parts.Board.{Board}
use Rattle.vq_board.specs.declared.parts.Pass.{Pass}
use Rattle.vq_board.specs.Firsts.{counted_state}
use Rattle.vq_board.specs.Named.{view, counts_of, TurnsWith, Finds}
use Rattle.vq_payload.specs.Chains.{PlanChain, operations}

-- the answer, by the place of the operation that resolves the value, and by what was found of it
abbrev pub found_by : ℕ → OpState → Found
found_by i UnboundOp = NotYet i
found_by i (BoundOp q) = Pending i q
found_by i PastOp = Past (i + 1)

-- The pass recalled what resolves the value, and the answer is what this showed. What it showed
-- agrees with what the pass knew.
pub record HasRecalled (b : Board) (c : PlanChain) (x y : Pass) (v : ℕ) (result : Found)
    : Type 0 where
  pub index : ℕ
  pub op : ℕ
  pub state : OpState
  pub resolves : resolver c.plan c.number v ≡ Some op
  pub place : slice_get (operations c) index ≡ Some op
  pub answer : result ≡ found_by index state
  pub pass :
      TurnsWith x y (recalls (view x) op state)
      (counted_state c.plan.ops op state (counts_of x))
  pub point : (q : ℕ) → state ≡ BoundOp q → q < length c.plan.ops
  pub unmade : state ≡ UnboundOp → ¬ KnowsMade c.plan (view x).known op
  pub past : Knows (view x).known (PastFact op) → state ≡ PastOp
  pub bound : (q : ℕ) → Knows (view x).known (BoundTo op q) → (state ≡ BoundOp q) ⊎ (state ≡ PastOp)
  pub step : Finds b x y (op_word op) (op_number state)
