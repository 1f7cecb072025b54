-- The end of a board. This project's own.
use Rattle.std.specs.Prelude.{ℕ, List, ◌≡◌, ◌<◌, ◌++◌, length}
use Rattle.vq_model.specs.Machine.{Step, Run, state_after, IsFinished}
use Rattle.vq_model.specs.Memory.{Memory}
use Rattle.vq_model.specs.OutputText.{answer_text, buffers_text, lines_answered}
use Rattle.vq_model.specs.Outputs.{IsOutput}
use Rattle.vq_model.specs.Plan.{Plan}
use Rattle.vq_model.specs.SlowRun.{bytes_after}
use Rattle.vq_board_laws.specs.declared.view.Fact.TheVariants.{Job}
use Rattle.vq_board_laws.specs.declared.view.JobState.TheVariants.{Finished}
use Rattle.vq_board_laws.specs.declared.view.Told.{Told}
use Rattle.vq_board_laws.specs.declared.view.View.{View}
use Rattle.vq_board_laws.specs.Knowledge.{Knows}
use Rattle.vq_board_laws.specs.Reached.{answer_told, lines_told}

-- the pass knows each job finished
abbrev pub KnowsAllFinished : Plan → View → Type 0
KnowsAllFinished p v = (j : ℕ) → j < length p.jobs → Knows v.known (Job j Finished)

-- The bytes are what the log of a finished run leaves, the commands in the order in which they were
-- entered, and the run's answers are those that were told, with the lines in the order in which they
-- were told.
pub record IsFoldOfRun (p : Plan) (told : List Told) (bytes : Memory) : Type 0 where
  pub steps : List Step
  pub run : Run p steps
  pub finished : IsFinished p (state_after p steps)
  pub folded : bytes ≡ bytes_after p (state_after p steps).progress.applied
  pub answers : (j : ℕ) → (state_after p steps).answer j ≡ answer_told told j
  pub lines : lines_answered p (state_after p steps) ≡ lines_told p told

-- the answers that were told and these bytes are an output of the plan
abbrev pub IsToldOutput : Plan → List Told → Memory → Type 0
IsToldOutput p told bytes =
    IsOutput p (answer_text (lines_told p told) ++ buffers_text p.script.buffers bytes)
