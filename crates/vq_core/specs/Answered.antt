-- The answers of a world by job. This project's own.
use Rattle.std.specs.Prelude.{ℕ, ◌≡◌, ◌≤◌, List, [], length, Option, None, map}
use Rattle.std.specs.List.{range_with_len}
use Rattle.vq_model.specs.declared.plan.Answer.{Answer}
use Rattle.vq_model.specs.declared.plan.AnswerLine.{AnswerLine}
use Rattle.vq_point_laws.specs.Points.{PointState}

-- what each of so many jobs was answered
abbrev pub AreAnswers : PointState → ℕ → List (Option Answer) → Type 0
AreAnswers w n given = given ≡ map w.machine.answer (range_with_len 0 n)

-- No job is answered, there is no line, and there is room for a line of each job.
pub record IsRoom (given : List (Option Answer)) (lines : List AnswerLine) (room : ℕ) : Type 0 where
  pub unanswered : given ≡ map (λ j. None) (range_with_len 0 (length given))
  pub empty : lines ≡ []
  pub each : length given ≤ room
