-- The machine with several host threads: that of the rest, beside which each thread makes its steps one after another.
-- Vulkan 1.3, "Host Operations on Semaphores": vkSignalSemaphore and vkWaitSemaphores on threads of the application.
use Rattle.std.specs.Prelude.{ℕ, Bool, true, false, ◌≡◌, ◌<◌, ◌+◌, ◌==◌, ◌&&◌, ◌||◌, List, [], ◌∷◌, length, take}
use Rattle.std.specs.Prelude.{Option, Some, is_some, nat_le, nat_lt}
use Rattle.std.specs.List.{list_all, list_any, enumerate_from, flat_map, slice_get}
use Rattle.std.specs.Option.{option_and_then, option_map_or}
use Rattle.vq_model.specs.declared.plan.Answer.{Answer}
use Rattle.vq_model.specs.declared.plan.Answer.TheVariants.{Value}
use Rattle.vq_model.specs.declared.plan.Question.{Question}
use Rattle.vq_model.specs.declared.plan.Question.TheVariants.{Value as AsksValue}
use Rattle.vq_model.specs.declared.script.HostStep.{HostStep}
use Rattle.vq_model.specs.declared.script.HostStep.TheVariants.{Idle}
use Rattle.vq_model.specs.declared.script.Job.{Job}
use Rattle.vq_model.specs.declared.script.Job.TheVariants.{Host, Batch as BatchJob}
use Rattle.vq_model.specs.declared.script.Pair.{Pair}
use Rattle.vq_model.specs.Lowering.{plan_of}
use Rattle.vq_model.specs.Machine.{State, Step, StartStep, AnswerStep, CanStep, after_step, opening_state, may_answer}
use Rattle.vq_model.specs.Machine.{was_since, put}
use Rattle.vq_model.specs.Plan.{Plan, question}
use Rattle.vq_model.specs.ScriptOfLines.{script_of}
use Rattle.vq_blocks.specs.declared.block.HostThread.{HostThread}
use Rattle.vq_blocks.specs.declared.block.ThreadLine.{ThreadLine}
use Rattle.vq_blocks.specs.declared.block.ThreadStep.{ThreadStep}
use Rattle.vq_blocks.specs.declared.block.ThreadStep.TheVariants.{Wait, Signal}
use Rattle.vq_blocks.specs.Blocks.{Told, signaled_by}

-- States and steps

-- The state: that of the rest, whose payloads all share, and how many steps each thread has made.
pub record HostsState : Type 0 where
  pub rest : State
  pub done : ℕ → ℕ

-- the plan of the rest
abbrev pub rest_plan : Told → Plan
rest_plan told = plan_of (script_of told.rest)

abbrev pub hosts_opening : Told → HostsState
hosts_opening told = record { rest = opening_state (rest_plan told); done = λ t. 0 }

-- a step of the rest, or the next one of a thread
pub data HostsStep : Type 0 where
  OfRest : Step → HostsStep
  OfThread : (thread : ℕ) → HostsStep

abbrev pub payload : HostsState → ℕ → ℕ
payload s = s.rest.progress.payload

-- the next step of a thread
abbrev pub next_of : List HostThread → (ℕ → ℕ) → ℕ → Option ThreadLine
next_of threads done t = option_and_then (λ x. slice_get x.steps (done t)) (slice_get threads t)

-- What a step leaves

-- a signal sets the payload
abbrev pub with_payload : State → Pair → State
with_payload s pair =
    record s {
      progress = record s.progress { payload = put s.progress.payload pair.semaphore pair.value };
    }

abbrev pub after_thread : State → ThreadStep → State
after_thread s (Wait pairs) = s
after_thread s (Signal pair) = with_payload s pair

abbrev pub after_hosts : Told → HostsState → HostsStep → HostsState
after_hosts told s (OfRest x) = record s { rest = after_step (rest_plan told) s.rest x }
after_hosts told s (OfThread t) =
    record {
      rest = option_map_or (λ x. after_thread s.rest x.step) (next_of told.threads s.done t) s.rest;
      done = put s.done t (s.done t + 1);
    }

-- When a step may come

-- A wait comes where each pair is reached, a signal where it sets a greater payload.
-- (Vulkan 1.3, vkWaitSemaphores, vkSignalSemaphore)
abbrev pub CanTake : HostsState → ThreadStep → Type 0
CanTake s (Wait pairs) = list_all (λ pair. nat_le pair.value (payload s pair.semaphore)) pairs ≡ true
CanTake s (Signal pair) = payload s pair.semaphore < pair.value

-- every thread has made all its steps
abbrev pub AreDone : List HostThread → (ℕ → ℕ) → Type 0
AreDone threads done = (t : ℕ) (x : HostThread) → slice_get threads t ≡ Some x → done t ≡ length x.steps

abbrev pub is_idle_step : HostStep → Bool
is_idle_step Idle = true
is_idle_step other = false

abbrev pub is_idle : Job → Bool
is_idle (Host h) = is_idle_step h.step
is_idle (BatchJob b) = false

-- whether a job of the rest is an idle step
abbrev pub is_idle_at : Told → ℕ → Bool
is_idle_at told j = option_map_or is_idle (slice_get (script_of told.rest).jobs j) false

-- the signals that threads have made
abbrev pub thread_signals : List HostThread → (ℕ → ℕ) → List Pair
thread_signals threads done =
    flat_map (λ x. flat_map (λ line. signaled_by line.step) (take (done x.0) x.1.steps)) (enumerate_from 0 threads)

-- a payload had this value at a moment since the start of a job, by a signal of the rest or of a thread
abbrev pub was_since_among : Told → HostsState → ℕ → ℕ → ℕ → Bool
was_since_among told s j t n =
    was_since (rest_plan told) s.rest j t n
    || (nat_lt (s.rest.at_start j t) n
    && list_any (λ pair. (pair.semaphore == t) && (pair.value == n)) (thread_signals told.threads s.done))

-- what a job of the rest may be answered: a read may see what a thread has signaled
abbrev pub may_be_answered : Told → HostsState → ℕ → Question → Answer → Bool
may_be_answered told s j (AsksValue t) (Value n) = was_since_among told s j t n
may_be_answered told s j other a = may_answer (rest_plan told) s.rest j other a

pub record CanAnswerAmong (told : Told) (s : HostsState) (j : ℕ) (a : Answer) : Type 0 where
  pub started : s.rest.progress.started j ≡ true
  pub unanswered : is_some (s.rest.answer j) ≡ false
  pub allowed : may_be_answered told s j (question (rest_plan told) j) a ≡ true

-- A step of the rest may come as ever; but an idle step starts only when every thread has made all its steps, which is
-- this project's own rule.
abbrev pub CanRest : Told → HostsState → Step → Type 0
CanRest told s (StartStep j) =
    CanStep (rest_plan told) s.rest (StartStep j) × (is_idle_at told j ≡ true → AreDone told.threads s.done)
CanRest told s (AnswerStep j a) = CanAnswerAmong told s j a
CanRest told s other = CanStep (rest_plan told) s.rest other

-- the next step of a thread may come
pub record CanThread (told : Told) (s : HostsState) (t : ℕ) : Type 0 where
  pub line : ThreadLine
  pub next : next_of told.threads s.done t ≡ Some line
  pub can : CanTake s line.step

abbrev pub CanHosts : Told → HostsState → HostsStep → Type 0
CanHosts told s (OfRest x) = CanRest told s x
CanHosts told s (OfThread t) = CanThread told s t

-- Runs

-- from a state on, each step may come in the state before it
abbrev pub HostsRunFrom : Told → HostsState → List HostsStep → Type 0
HostsRunFrom told s [] = Unit {0}
HostsRunFrom told s (x ∷ xs) = CanHosts told s x × HostsRunFrom told (after_hosts told s x) xs

abbrev pub HostsRun : Told → List HostsStep → Type 0
HostsRun told steps = HostsRunFrom told (hosts_opening told) steps
