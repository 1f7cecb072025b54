-- What contracts see of a host that watches, and of what a run has left. This project's own.
use Rattle.std.specs.Prelude.{ℕ, ◌≡◌, ◌<◌, ◌++◌, List}
use Rattle.vq_model.specs.declared.plan.AnswerLine.{AnswerLine}
use Rattle.vq_model.specs.Outputs.{IsOutput}
use Rattle.vq_model.specs.OutputText.{answer_text, buffers_text}
use Rattle.vq_model.specs.Plan.{Plan}
use Rattle.vq_board_laws.specs.declared.view.Fact.TheVariants.{Job}
use Rattle.vq_board_laws.specs.declared.view.JobState.TheVariants.{Finished}
use Rattle.vq_board_laws.specs.Knowledge.{Knows}
use Rattle.vq_board_laws.specs.Reached.{lines_told}
use Rattle.vq_board.specs.declared.parts.Closed.{Closed}
use Rattle.vq_board.specs.declared.parts.Pass.{Pass}
use Rattle.vq_board.specs.Named.{bytes_of, plan_of_closed, told_of, view}

-- a host that watches for the end of the run: its pass, the answers that it told, and how many jobs it has seen finished
pub record Watched : Type 0 where
  pub pass : Pass
  pub answers : List AnswerLine
  pub seen : ℕ

-- the pass knows the first n jobs finished
abbrev pub HasSeenFirst : Pass → ℕ → Type 0
HasSeenFirst x n = (j : ℕ) → j < n → Knows (view x).known (Job j Finished)

-- what a run has left: its plan, what its host steps were answered, and the board that was closed
pub record LeftOver : Type 0 where
  pub ordered : Plan
  pub answers : List AnswerLine
  pub closed : Closed

-- the closed board is of the plan, the answers are those that its host told, and with the buffers they are an output
pub record IsLeftOver (p : Plan) (answers : List AnswerLine) (c : Closed) : Type 0 where
  pub plan : plan_of_closed c ≡ p
  pub told : answers ≡ lines_told p (told_of c)
  pub output : IsOutput p (answer_text answers ++ buffers_text p.script.buffers (bytes_of c))
