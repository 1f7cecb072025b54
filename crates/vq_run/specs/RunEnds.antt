-- What a run by threads shows of a run of the machine. This project's own.
use Rattle.std.specs.Prelude.{ℕ, ◌≡◌, ◌++◌, List}
use Rattle.vq_model.specs.declared.plan.AnswerLine.{AnswerLine}
use Rattle.vq_model.specs.Machine.{Step, Run, state_after, IsFinished}
use Rattle.vq_model.specs.Memory.{Memory}
use Rattle.vq_model.specs.Outputs.{IsOutput}
use Rattle.vq_model.specs.OutputText.{answer_text, buffers_text, lines_answered}
use Rattle.vq_model.specs.Plan.{Plan}
use Rattle.vq_model.specs.SlowRun.{bytes_after}

-- A finished run of the plan's machine gives these answers, in the order of the script, and its commands, in the order
-- in which they were applied, leave these bytes.
pub record IsEndOfRun (p : Plan) (answers : List AnswerLine) (bytes : Memory) : Type 0 where
  pub steps : List Step
  pub run : Run p steps
  pub finished : IsFinished p (state_after p steps)
  pub answered : answers ≡ lines_answered p (state_after p steps)
  pub left : bytes ≡ bytes_after p (state_after p steps).progress.applied

-- An output of a plan that a finished run of its machine gives: the text is that of the run's answers, line for line,
-- and of the bytes that it leaves.
pub record IsRunText (p : Plan) (text : List ℕ) : Type 0 where
  pub output : IsOutput p text
  pub answers : List AnswerLine
  pub bytes : Memory
  pub ended : IsEndOfRun p answers bytes
  pub spelled : text ≡ answer_text answers ++ buffers_text p.script.buffers bytes
