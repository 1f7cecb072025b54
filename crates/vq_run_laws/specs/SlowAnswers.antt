-- The answers that a slow run may be given: each by the payloads that the jobs before it leave.
-- Vulkan 1.3, "Host Operations on Semaphores", "Fences". The slow run is this project's own.
use Rattle.std.specs.Prelude.{ℕ, ◌≡◌, ◌++◌, ◌∷◌, List, Option, Some, None, if◌then◌else◌}
use Rattle.std.specs.Prelude.{length}
use Rattle.std.specs.List.{list_all, list_any, filter_map, range_with_len}
use Rattle.std.specs.Option.{option_map}
use Rattle.vq_model.specs.declared.plan.Answer.{Answer}
use Rattle.vq_model.specs.declared.plan.Answer.TheVariants.{Reached, Timeout, NotReady, Value}
use Rattle.vq_model.specs.declared.plan.AnswerLine.{AnswerLine}
use Rattle.vq_model.specs.declared.plan.Question.{Question}
use Rattle.vq_model.specs.declared.plan.Question.TheVariants.{Silent, Reached as AsksReached, PollAll, PollAny, Fence}
use Rattle.vq_model.specs.declared.plan.Question.TheVariants.{Value as AsksValue}
use Rattle.vq_model.specs.Plan.{Plan, asked, question}
use Rattle.vq_model.specs.Machine.{is_reached}
use Rattle.vq_model.specs.SlowRun.{final, payload_after, slow_order}
use Rattle.vq_model.specs.OutputText.{answer_at, answer_text, buffers_text}
use Rattle.vq_model.specs.Outputs.{IsOutput}

-- what a job that asks this is answered where these jobs are done
abbrev pub slow_answer : Plan → List ℕ → ℕ → Question → Option Answer
slow_answer p done j Silent = None
slow_answer p done j AsksReached = Some Reached
slow_answer p done j PollAll =
    Some (if list_all (is_reached (payload_after p done)) (asked p j) then Reached else Timeout)
slow_answer p done j PollAny =
    Some (if list_any (is_reached (payload_after p done)) (asked p j) then Reached else Timeout)
slow_answer p done j Fence =
    Some (if list_all (is_reached (payload_after p done)) (asked p j) then Reached else NotReady)
slow_answer p done j (AsksValue t) = Some (Value (payload_after p done t))

-- each job of the slow run is answered so after those before it
abbrev pub AreSlowAnswers : Plan → (ℕ → Option Answer) → Type 0
AreSlowAnswers p answers = (done : List ℕ) (j : ℕ) (rest : List ℕ) →
    slow_order p ≡ (done ++ j ∷ rest) → answers j ≡ slow_answer p done j (question p j)

-- the lines of these answers, in the order of the script
abbrev pub lines_of_answers : Plan → (ℕ → Option Answer) → List AnswerLine
lines_of_answers p answers =
    filter_map (λ j. option_map (answer_at p j) (answers j)) (range_with_len 0 (length p.jobs))

-- With such answers the text of the slow run is one that a run may give.
abbrev pub AnswersSlowly : Plan → Type 0
AnswersSlowly p = (answers : ℕ → Option Answer) → AreSlowAnswers p answers →
    IsOutput p (answer_text (lines_of_answers p answers) ++ buffers_text p.script.buffers (final p))
