-- Outputs and the runs that tell them.
-- Vulkan 1.3, "Host Operations on Semaphores" (vkWaitSemaphores). The machine and its runs are this project's own.
use Rattle.std.specs.Prelude.{ℕ, ◌≡◌, ◌++◌, List, true}
use Rattle.vq_model.specs.declared.plan.Question.TheVariants.{Reached as AsksReached}
use Rattle.vq_model.specs.Plan.{Plan, question, waits_for_any}
use Rattle.vq_model.specs.Machine.{IsFinished, Run, Step, state_after}
use Rattle.vq_model.specs.Outputs.{IsOutput}
use Rattle.vq_model.specs.OutputText.{answers_of, buffers_text}
use Rattle.vq_model.specs.SlowRun.{bytes_after}

-- A job that waits for any of several is a wait of the host, which is answered. Every plan of a script keeps it:
-- without it a job that is never answered could want what no answer shows.
abbrev pub AnswersWaitsForAny : Plan → Type 0
AnswersWaitsForAny p = (j : ℕ) → waits_for_any p j ≡ true → question p j ≡ AsksReached

-- Each output of a plan is the text of one of its finished runs: its answers, line for line, and its final bytes.
abbrev pub OutputsAreTold : Plan → Type 0
OutputsAreTold p = (text : List ℕ) → IsOutput p text →
    (steps : List Step) × Run p steps × IsFinished p (state_after p steps)
    × (text ≡ (answers_of p (state_after p steps)
    ++ buffers_text p.script.buffers (bytes_after p (state_after p steps).progress.applied)))
