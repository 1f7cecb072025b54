-- What the laws on runs say of a plan. Vulkan 1.3, "Execution and Memory Dependencies", "Semaphore
-- Waiting"; the machine and its runs are this project's own.
use Rattle.std.specs.Prelude.{ℕ, ◌≡◌, ◌≤◌, ◌↔◌, ◌++◌, ◌∷◌, true, false, List, [], Some}
use Rattle.vq_model.specs.declared.plan.Event.{Event}
use Rattle.vq_model.specs.Plan.{Plan, commands_of, signals_of, job_of, chain_of, value, is_host_step}
use Rattle.vq_ground.specs.Lists.{has}
use Rattle.vq_model.specs.Edges.{At, stage_of}
use Rattle.vq_model.specs.EdgeReasons.{HasNoHeldWait}
use Rattle.vq_model.specs.Machine.{Step, StartStep, Run, state_after, AreFinished}
use Rattle.vq_model.specs.ProgressRuns.{ProgressRun, progress_after}
use Rattle.vq_model.specs.Machine.{IsFinished, was_since}
use Rattle.vq_model.specs.SlowRun.{bytes_after, final, slow_order}
use Rattle.vq_model.specs.ProgressRuns.{steps_of_jobs}
use Rattle.vq_model.specs.HappensBefore.{HappensBefore, HappensBeforeAt, HappensBeforeCommand}
use Rattle.vq_model.specs.Sure.{IsSure, IsSureAt}
use Rattle.vq_model.specs.Outputs.{IsOutput}
use Rattle.vq_model.specs.OutputText.{answers_of, buffers_text}
use Rattle.vq_point_laws.specs.Points.{HistoryFrom, opening_points, steps_of}

-- Every finished run without answers leaves the bytes of the slow run.
abbrev pub HasOneProgress : Plan → Type 0
HasOneProgress p =
    (steps : List Step) → ProgressRun p steps → AreFinished p (progress_after p steps) →
    bytes_after p (progress_after p steps).applied ≡ final p

-- In each state of a run, what must come before has come.
pub record IsSureInTime (p : Plan) : Type 0 where
  -- what is sure for the first place of a started job is made, and the commands before that place
  -- are applied
  pub started : (steps : List Step) → Run p steps → (e j : ℕ) →
      (state_after p steps).progress.started j ≡ true → IsSureAt p e j (At 1) →
      (state_after p steps).progress.made e ≡ true
  pub started_commands : (steps : List Step) → Run p steps → (i j c : ℕ) →
      (state_after p steps).progress.started j ≡ true → HappensBeforeAt p i j (At 1) →
      has (commands_of p i) c ≡ true → has (state_after p steps).progress.applied c ≡ true
  -- so for the place of an applied command
  pub applied : (steps : List Step) → Run p steps → (e j c : ℕ) → has (commands_of p j) c ≡ true →
      has (state_after p steps).progress.applied c ≡ true → IsSureAt p e j (stage_of p j c) →
      (state_after p steps).progress.made e ≡ true
  pub applied_commands : (steps : List Step) → Run p steps → (i j c d : ℕ) →
      has (commands_of p i) c ≡ true → has (commands_of p j) d ≡ true →
      has (state_after p steps).progress.applied d ≡ true → HappensBeforeCommand p i j d →
      has (state_after p steps).progress.applied c ≡ true
  -- what is sure for a job with a made signal, or for a finished job, is made
  pub signaled : (steps : List Step) → Run p steps → (e j f : ℕ) → job_of p f ≡ Some j →
      (state_after p steps).progress.made f ≡ true → IsSure p e j →
      (state_after p steps).progress.made e ≡ true
  pub finished : (steps : List Step) → Run p steps → (e j : ℕ) →
      (state_after p steps).progress.finished j ≡ true → IsSure p e j →
      (state_after p steps).progress.made e ≡ true
  -- for a host step its start is enough, and for each job where no wait is held
  pub host_steps : (steps : List Step) → Run p steps → (e j : ℕ) → is_host_step p j ≡ true →
      (state_after p steps).progress.started j ≡ true → IsSure p e j →
      (state_after p steps).progress.made e ≡ true
  pub unheld : HasNoHeldWait p → (steps : List Step) → Run p steps → (e j : ℕ) →
      (state_after p steps).progress.started j ≡ true → IsSure p e j →
      (state_after p steps).progress.made e ≡ true

-- The slow run is a finished run: the jobs of its order one after another, each whole.
pub record SlowRunIsRun (p : Plan) : Type 0 where
  pub run : ProgressRun p (steps_of_jobs p (slow_order p))
  pub finished : AreFinished p (progress_after p (steps_of_jobs p (slow_order p)))

-- In each state of a run an operation is made exactly where its chain's payload has reached its value.
abbrev pub MakesAsPayloadsSay : Plan → Type 0
MakesAsPayloadsSay p =
    (steps : List Step) → Run p steps → (e t : ℕ) → chain_of p e ≡ Some t →
    ((state_after p steps).progress.made e ≡ true)
    ↔ (value p e ≤ (state_after p steps).progress.payload t)

-- While a job without signals runs, no operation of a job after it is made.
abbrev pub MakesNoneAfter : Plan → Type 0
MakesNoneAfter p =
    (steps : List Step) → Run p steps → (e i j : ℕ) → signals_of p i ≡ [] →
    (state_after p steps).progress.finished i ≡ false → HappensBefore p i j → job_of p e ≡ Some j →
    (state_after p steps).progress.made e ≡ false

-- What a read may give is what the payload was in some state from the job's start to now.
pub record ReadsPayloads (p : Plan) : Type 0 where
  pub was : (a b : List Step) → (j t n : ℕ) → Run p (a ++ StartStep j ∷ b) →
      was_since p (state_after p (a ++ StartStep j ∷ b)) j t n ≡ true →
      (front back : List Step) × (b ≡ front ++ back)
      × ((state_after p (a ++ StartStep j ∷ front)).progress.payload t ≡ n)
  pub may : (a b : List Step) → (j t n : ℕ) → Run p (a ++ StartStep j ∷ b) →
      (front back : List Step) → b ≡ front ++ back →
      (state_after p (a ++ StartStep j ∷ front)).progress.payload t ≡ n →
      was_since p (state_after p (a ++ StartStep j ∷ b)) j t n ≡ true

-- A history of events, without those on points, is a run of the machine.
abbrev pub HistoriesAreRuns : Plan → Type 0
HistoriesAreRuns p =
    (events : List Event) → HistoryFrom p (opening_points p) events → Run p (steps_of events)

-- The text of a finished run, answers and buffers, is one of the plan's outputs.
abbrev pub RunsGiveOutputs : Plan → Type 0
RunsGiveOutputs p =
    (steps : List Step) → Run p steps → IsFinished p (state_after p steps) →
    IsOutput p (answers_of p (state_after p steps)
    ++ buffers_text p.script.buffers (bytes_after p (state_after p steps).progress.applied))
