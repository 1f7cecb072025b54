-- The points that lists have for a batch's signals, and what looks at them show. This project's own.
use Rattle.std.specs.Prelude.{ℕ, ◌≡◌, ◌<◌, true, List, Some}
use Rattle.std.specs.List.{slice_get}
use Rattle.vq_ground.specs.Lists.{has}
use Rattle.vq_turns.specs.declared.outcome.Want.{Want}
use Rattle.vq_turns.specs.declared.outcome.Want.TheVariants.{Exchange}
use Rattle.vq_board_laws.specs.declared.view.View.{View}
use Rattle.vq_board_laws.specs.PointSteps.{sees}
use Rattle.vq_board_laws.specs.Words.{Carries}
use Rattle.vq_board.specs.declared.parts.Pass.{Pass}
use Rattle.vq_board.specs.Named.{view, board_of}
use Rattle.vq_board_laws.specs.Learning.{Learns}
use Rattle.vq_access_laws.specs.Tests.{knows_taken}

-- the pass of the same board has looked and learned, and done nothing else
abbrev pub HasLearned : Pass → Pass → Type 0
HasLearned x y = (board_of y ≡ board_of x) × Learns (view x) (view y)

-- the first of the operations, so many, are known to have points
abbrev pub AreTaken : View → List ℕ → ℕ → Type 0
AreTaken v es n = (k e : ℕ) → k < n → slice_get es k ≡ Some e → knows_taken v.known e ≡ true

-- The last step was a look at a point: its word doesn't carry one of the operations.
pub record IsUntaken (v w : View) (es : List ℕ) (e found : ℕ) : Type 0 where
  pub among : has es e ≡ true
  pub not_carried : ¬ Carries found e
  pub before : View
  pub learned : Learns v before
  pub point : ℕ
  pub last : w ≡ sees before point found

abbrev pub SawUntaken : View → View → List ℕ → Want → Type 0
SawUntaken v w es (Exchange e found) = IsUntaken v w es e found
SawUntaken v w es other = ⊥
