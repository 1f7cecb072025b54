use mathlib.Core.Logic.{dite}
use native.Mathlib.Decide.{ℕ_discrete}
use Rattle.vq_board_laws.proofs.TurnSteps.{one_runner, one_holder}
use Rattle.vq_board_laws.proofs.laws.one_pass_runs.Goals as goal

pub returns-clause-job : goal.returns-clause-job
returns-clause-job c = λ p s kept i k j v w at at' runs runs'. dite (ℕ_discrete i k) (λ e. e) (λ ne. absurd (one_runner p s kept k i j w v at' at ne runs' runs))

pub returns-clause-turn : goal.returns-clause-turn
returns-clause-turn c = λ p s kept i k m n v w at at' held held'. dite (ℕ_discrete i k) (λ e. e) (λ ne. absurd (one_holder p s kept k i n m w v at' at ne held' held))
