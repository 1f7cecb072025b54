-- Steps of the board that are steps of the machine, and steps that leave its run alone. This
-- project's own.
use Rattle.std.specs.Prelude.{ℕ, List, ◌≡◌}
use Rattle.vq_model.specs.Machine.{Step, after_progress}
use Rattle.vq_model.specs.ProgressRuns.{CanProgress}
use Rattle.vq_model.specs.Plan.{Plan}
use Rattle.vq_board_laws.specs.Words.{words_of, shown}

-- The step of the machine may come in the state that the first words show, and the others show what
-- it leaves.
pub record IsMachineStep (p : Plan) (before after : List ℕ) (x : Step) : Type 0 where
  pub may_come : CanProgress p (shown p (words_of before)) x
  pub leaves : shown p (words_of after) ≡ after_progress p (shown p (words_of before)) x

-- both lists of words show the same state
abbrev pub ShowsTheSame : Plan → List ℕ → List ℕ → Type 0
ShowsTheSame p before after = shown p (words_of after) ≡ shown p (words_of before)
