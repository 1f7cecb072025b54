-- The machine of the specification: payloads that only rise, and jobs whose steps may come in any
-- allowed order.
-- Vulkan 1.3, "Semaphores" (signal and wait operations), "Host Operations on Semaphores" (waits,
-- signals and reads of the host), "Fences", "Queue Submission".
use Rattle.std.specs.Prelude.{ℕ, Bool, List, Option, ◌==◌, if◌then◌else◌, false, [], None, true, Some}
use Rattle.std.specs.Prelude.{◌∷◌, ◌++◌}
use Rattle.std.specs.Prelude.{nat_le, ◌&&◌, not, find, ◌≡◌, ◌<◌, length, ◌||◌, is_some, nat_lt, fold}
use Rattle.std.specs.List.{list_any, list_all}
use Rattle.vq_model.specs.declared.plan.Answer.{Answer}
use Rattle.vq_model.specs.declared.plan.Need.{Need}
use Rattle.vq_model.specs.declared.plan.Answer.TheVariants.{Reached, Timeout, NotReady, Value}
use Rattle.vq_model.specs.declared.plan.Question.{Question}
use Rattle.vq_model.specs.declared.plan.Question.TheVariants.{Reached as AsksReached, PollAll, PollAny, Fence}
use Rattle.vq_model.specs.declared.plan.Question.TheVariants.{Value as AsksValue}
use Rattle.vq_model.specs.Plan.{Plan, initial, value, chain_of, waits_for_any, commands_of, signals_of, chain}
use Rattle.vq_ground.specs.Lists.{has}
use Rattle.vq_model.specs.Plan.{question, is_silent, asked}
use Rattle.vq_model.specs.Edges.{Stage, needs_at, At, must_finish, stage_of, AtEnd}

-- States

-- What jobs, signals and commands have come to. Sets are tests.
pub record Progress : Type 0 where
  -- the payload of each chain
  pub payload : ℕ → ℕ
  pub started : ℕ → Bool
  pub finished : ℕ → Bool
  -- the signal operations that were made
  pub made : ℕ → Bool
  -- the commands, in the order in which they were applied
  pub applied : List ℕ

-- The state of the machine.
pub record State : Type 0 where
  pub progress : Progress
  pub answer : ℕ → Option Answer
  -- for a started job, the payloads at its start
  pub at_start : ℕ → ℕ → ℕ

-- a function, changed at one place
abbrev pub put : {A : Type 0} → (ℕ → A) → ℕ → A → ℕ → A
put f at x k = if k == at then x else f k

-- every payload has its initial value, and nothing else has happened
abbrev pub opening_progress : Plan → Progress
opening_progress p =
    record {
      payload = initial p;
      started = λ j. false;
      finished = λ j. false;
      made = λ e. false;
      applied = [];
    }

abbrev pub opening_state : Plan → State
opening_state p = record { progress = opening_progress p; answer = λ j. None; at_start = λ j t. 0 }

-- Steps and what they leave

pub data Step : Type 0 where
  StartStep : (job : ℕ) → Step
  ApplyStep : (command : ℕ) → Step
  SignalStep : (op : ℕ) → Step
  FinishStep : (job : ℕ) → Step
  AnswerStep : (job : ℕ) → Answer → Step

-- What a step leaves. An answer changes nothing of progress.
abbrev pub with_signal : Plan → Progress → ℕ → Option ℕ → Progress
with_signal p s e None = s
with_signal p s e (Some t) =
    record s { payload = put s.payload t (value p e); made = put s.made e true }

abbrev pub after_progress : Plan → Progress → Step → Progress
after_progress p s (StartStep j) = record s { started = put s.started j true }
after_progress p s (ApplyStep c) = record s { applied = s.applied ++ c ∷ [] }
after_progress p s (SignalStep e) = with_signal p s e (chain_of p e)
after_progress p s (FinishStep j) = record s { finished = put s.finished j true }
after_progress p s (AnswerStep j a) = s

abbrev pub after_step : Plan → State → Step → State
after_step p s (StartStep j) =
    record s {
      progress = after_progress p s.progress (StartStep j);
      at_start = put s.at_start j
          s.progress.payload;
    }
after_step p s (AnswerStep j a) = record s { answer = put s.answer j (Some a) }
after_step p s other = record s { progress = after_progress p s.progress other }

-- When a step may come

-- A wait is satisfied when the payload is its value or greater. (Vulkan 1.3, "Semaphore Waiting")
abbrev pub is_reached : (ℕ → ℕ) → Need → Bool
is_reached payload n = nat_le n.value (payload n.chain)

-- all needs at a place of a job are reached, or one of them where the job waits for any
abbrev pub are_reached : Plan → (ℕ → ℕ) → ℕ → Stage → Bool
are_reached p payload j k =
    if waits_for_any p j then list_any (is_reached payload) (needs_at p j k)
    else list_all (is_reached payload) (needs_at p j k)

-- A job can start when the jobs that must be finished before it are, and its needs at the first
-- place are reached.
abbrev pub can_start : Plan → (ℕ → Bool) → (ℕ → ℕ) → ℕ → Bool
can_start p finished payload j =
    list_all finished (must_finish p j) && are_reached p payload j (At 1)

-- the first of a list that isn't done
abbrev pub next : (ℕ → Bool) → List ℕ → Option ℕ
next done xs = find (λ x. not (done x)) xs

pub record CanStart (p : Plan) (s : Progress) (j : ℕ) : Type 0 where
  pub exists : j < length p.jobs
  pub waiting : s.started j ≡ false
  pub ready : can_start p s.finished s.payload j ≡ true

-- A command comes after the waits that hold back its place. (Vulkan 1.3, "Semaphore Waiting")
pub record CanApply (p : Plan) (s : Progress) (j c : ℕ) : Type 0 where
  pub started : s.started j ≡ true
  pub unfinished : s.finished j ≡ false
  pub next : next (has s.applied) (commands_of p j) ≡ Some c
  pub ready : are_reached p s.payload j (stage_of p j c) ≡ true

-- A batch's signals come after its commands and its waits, and each sets a greater payload.
-- (Vulkan 1.3, "Semaphore Signaling")
pub record CanSignal (p : Plan) (s : Progress) (e : ℕ) : Type 0 where
  pub job : ℕ
  pub chain : ℕ
  pub in_chain : chain_of p e ≡ Some chain
  pub started : s.started job ≡ true
  pub unfinished : s.finished job ≡ false
  pub commands : list_all (has s.applied) (commands_of p job) ≡ true
  pub next : next s.made (signals_of p job) ≡ Some e
  pub ready : are_reached p s.payload job AtEnd ≡ true
  pub rises : s.payload chain < value p e

-- all that a job has to do is done
pub record IsDone (p : Plan) (s : Progress) (j : ℕ) : Type 0 where
  pub started : s.started j ≡ true
  pub unfinished : s.finished j ≡ false
  pub commands : list_all (has s.applied) (commands_of p j) ≡ true
  pub signals : list_all s.made (signals_of p j) ≡ true
  pub ready : are_reached p s.payload j AtEnd ≡ true

pub record CanFinish (p : Plan) (s : State) (j : ℕ) : Type 0 where
  pub done : IsDone p s.progress j
  pub answered : (is_silent (question p j) || is_some (s.answer j)) ≡ true

-- Answers

-- a payload had this value at a moment since the start of a job
abbrev pub was_since : Plan → State → ℕ → ℕ → ℕ → Bool
was_since p s j t n =
    (n == s.at_start j t)
    || (nat_lt (s.at_start j t) n
    && list_any (λ e. s.progress.made e && (value p e == n)) (chain p t))

-- What a job may be answered. A poll answers by the payloads at its start or since.
abbrev pub may_answer : Plan → State → ℕ → Question → Answer → Bool
may_answer p s j AsksReached Reached = are_reached p s.progress.payload j AtEnd
may_answer p s j PollAll Reached = list_all (is_reached s.progress.payload) (asked p j)
may_answer p s j PollAny Reached = list_any (is_reached s.progress.payload) (asked p j)
may_answer p s j Fence Reached = list_all (is_reached s.progress.payload) (asked p j)
may_answer p s j PollAll Timeout = not (list_all (is_reached (s.at_start j)) (asked p j))
may_answer p s j PollAny Timeout = not (list_any (is_reached (s.at_start j)) (asked p j))
may_answer p s j Fence NotReady = not (list_all (is_reached (s.at_start j)) (asked p j))
may_answer p s j (AsksValue t) (Value n) = was_since p s j t n
may_answer p s j other answer = false

pub record CanAnswer (p : Plan) (s : State) (j : ℕ) (a : Answer) : Type 0 where
  pub started : s.progress.started j ≡ true
  pub unanswered : is_some (s.answer j) ≡ false
  pub allowed : may_answer p s j (question p j) a ≡ true

abbrev pub CanStep : Plan → State → Step → Type 0
CanStep p s (StartStep j) = CanStart p s.progress j
CanStep p s (ApplyStep c) = (j : ℕ) × CanApply p s.progress j c
CanStep p s (SignalStep e) = CanSignal p s.progress e
CanStep p s (FinishStep j) = CanFinish p s j
CanStep p s (AnswerStep j a) = CanAnswer p s j a

-- Runs

-- from a state on, each step may come in the state before it
abbrev pub RunFrom : Plan → State → List Step → Type 0
RunFrom p s [] = Unit {0}
RunFrom p s (x ∷ xs) = CanStep p s x × RunFrom p (after_step p s x) xs

abbrev pub Run : Plan → List Step → Type 0
Run p steps = RunFrom p (opening_state p) steps

abbrev pub state_after : Plan → List Step → State
state_after p steps = fold (after_step p) (opening_state p) steps

abbrev pub AreFinished : Plan → Progress → Type 0
AreFinished p s = (j : ℕ) → j < length p.jobs → s.finished j ≡ true

abbrev pub IsFinished : Plan → State → Type 0
IsFinished p s = AreFinished p s.progress
