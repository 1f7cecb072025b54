-- Runs of the machine without answers, the slow run as a list of steps, and one result of all runs. Vulkan 1.3,
-- "Queue Submission".
use Rattle.std.specs.Prelude.{ℕ, Bool, List, false, [], true, ◌∷◌, not, fold, filter, map, ◌++◌, ◌≡◌}
use Rattle.vq_model.specs.Plan.{Plan, commands_of, signals_of}
use Rattle.vq_model.specs.Machine.{AnswerStep, ApplyStep, CanApply, CanSignal, CanStart, FinishStep, IsDone, Progress, SignalStep, StartStep, Step, after_progress, opening_progress, Run, state_after, IsFinished}
use Rattle.vq_model.specs.SlowRun.{bytes_after, final}

-- When a step other than an answer may come, as far as progress says.
abbrev pub CanProgress : Plan → Progress → Step → Type 0
CanProgress p s (StartStep j) = CanStart p s j
CanProgress p s (ApplyStep c) = (j : ℕ) × CanApply p s j c
CanProgress p s (SignalStep e) = CanSignal p s e
CanProgress p s (FinishStep j) = IsDone p s j
CanProgress p s (AnswerStep j a) = ⊥

abbrev pub ProgressFrom : Plan → Progress → List Step → Type 0
ProgressFrom p s [] = Unit {0}
ProgressFrom p s (x ∷ xs) = CanProgress p s x × ProgressFrom p (after_progress p s x) xs

-- a run without answers
abbrev pub ProgressRun : Plan → List Step → Type 0
ProgressRun p steps = ProgressFrom p (opening_progress p) steps

abbrev pub progress_after : Plan → List Step → Progress
progress_after p steps = fold (after_progress p) (opening_progress p) steps

abbrev pub is_answer : Step → Bool
is_answer (AnswerStep j a) = true
is_answer other = false

abbrev pub without_answers : List Step → List Step
without_answers steps = filter (λ x. not (is_answer x)) steps

-- the steps of jobs, one after another, each job whole
abbrev pub steps_of_jobs : Plan → List ℕ → List Step
steps_of_jobs p [] = []
steps_of_jobs p (j ∷ js) =
    StartStep j ∷ (map ApplyStep (commands_of p j)
    ++ (map SignalStep (signals_of p j) ++ (FinishStep j ∷ steps_of_jobs p js)))

-- One result: every finished run leaves the bytes of the slow run.
abbrev pub HasOneResult : Plan → Type 0
HasOneResult p =
    (steps : List Step) → Run p steps → IsFinished p (state_after p steps) →
    bytes_after p (state_after p steps).progress.applied ≡ final p
