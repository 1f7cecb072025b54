-- The plan of a script.
-- Vulkan 1.3, "Queue Submission" (batches), "Semaphores" (binary: a wait needs its signal submitted
-- earlier), "Fences".
use Rattle.std.specs.Prelude.{ℕ, ◌==◌, Bool, false, ◌+◌, ◌&&◌, ◌||◌, if◌then◌else◌, List, []}
use Rattle.std.specs.Prelude.{◌∷◌, take, nat_lt}
use Rattle.std.specs.Prelude.{count_by, map, length, Option, Some, None, fold, filter}
use Rattle.std.specs.Option.{option_map_or}
use Rattle.std.specs.List.{range_with_len, slice_get, filter_map, flat_map, enumerate_from}
use Rattle.vq_model.specs.declared.script.Job.{Job}
use Rattle.vq_model.specs.declared.script.Job.TheVariants.{Host, Batch}
use Rattle.vq_model.specs.declared.script.HostStep.{HostStep}
use Rattle.vq_model.specs.declared.script.HostStep.TheVariants.{FenceReset, WaitAll, WaitAny, FenceWait, PollAll}
use Rattle.vq_model.specs.declared.script.HostStep.TheVariants.{PollAny, Read, FencePoll, Idle}
use Rattle.vq_model.specs.declared.script.Script.{Script}
use Rattle.vq_model.specs.declared.script.Pair.{Pair}
use Rattle.vq_model.specs.declared.plan.Need.{Need}
use Rattle.vq_model.specs.declared.script.Mark.{Mark}
use Rattle.vq_model.specs.declared.plan.Question.{Question}
use Rattle.vq_model.specs.declared.plan.Question.TheVariants.{Silent, Reached, PollAll as AsksAll, PollAny as AsksAny}
use Rattle.vq_model.specs.declared.plan.Question.TheVariants.{Fence as AsksFence, Value as AsksValue}
use Rattle.vq_model.specs.declared.plan.Lane.{Lane}
use Rattle.vq_model.specs.declared.plan.Lane.TheVariants.{Host as HostLane, Queue as QueueLane}
use Rattle.vq_model.specs.declared.plan.PlanJob.{PlanJob}
use Rattle.vq_model.specs.declared.script.CommandLine.{CommandLine}
use Rattle.vq_model.specs.Signals.{is_timeline_at, all_signals, initial_value, chain_ops, op_at}
use Rattle.vq_model.specs.Plan.{same_lane, Plan}

-- Values of fences

abbrev pub names_fence : ℕ → Job → Bool
names_fence f (Host h) = false
names_fence f (Batch b) = option_map_or (λ m. m.semaphore == f) b.fence false

abbrev pub step_resets : ℕ → HostStep → Bool
step_resets f (FenceReset g) = f == g
step_resets f other = false

abbrev pub resets_fence : ℕ → Job → Bool
resets_fence f (Host h) = step_resets f h.step
resets_fence f (Batch b) = false

-- how many effective resets of a fence jobs hold; a reset is effective where the fence was named
-- since the last one
abbrev pub effective_resets : ℕ → Bool → List Job → ℕ
effective_resets f named [] = 0
effective_resets f named (job ∷ jobs) =
    if resets_fence f job && named then 1 + effective_resets f false jobs
    else effective_resets f (named || names_fence f job) jobs

-- the value that a wait or a poll of a fence asks for
abbrev pub fence_value : Script → ℕ → ℕ → ℕ
fence_value s j f = effective_resets f false (take j s.jobs) + 1

-- What jobs wait for

abbrev pub of_pair : ℕ → Pair → Need
of_pair line x = record { line = line; chain = x.semaphore; value = x.value; from = 1 }

-- a wait of a binary semaphore names the last signal that is written before it
abbrev pub of_wait : Script → ℕ → Mark → Need
of_wait s j m =
    record {
      line = m.line;
      chain = m.semaphore;
      value = if is_timeline_at s m.semaphore then m.value
          else count_by (λ x. (x.semaphore == m.semaphore) && nat_lt x.job j) (all_signals s);
      from = m.from;
    }

abbrev pub step_needs : Script → ℕ → ℕ → HostStep → List Need
step_needs s j line (WaitAll pairs) = map (of_pair line) pairs
step_needs s j line (WaitAny pairs) = map (of_pair line) pairs
step_needs s j line (FenceWait f) =
    record { line = line; chain = f; value = fence_value s j f; from = 1 } ∷ []
step_needs s j line other = []

abbrev pub step_asked : Script → ℕ → ℕ → HostStep → List Need
step_asked s j line (PollAll pairs) = map (of_pair line) pairs
step_asked s j line (PollAny pairs) = map (of_pair line) pairs
step_asked s j line (FencePoll f) =
    record { line = line; chain = f; value = fence_value s j f; from = 1 } ∷ []
step_asked s j line (Read t) = record { line = line; chain = t; value = 0; from = 1 } ∷ []
step_asked s j line other = []

abbrev pub step_question : HostStep → Question
step_question (WaitAll pairs) = Reached
step_question (WaitAny pairs) = Reached
step_question (FenceWait f) = Reached
step_question Idle = Reached
step_question (PollAll pairs) = AsksAll
step_question (PollAny pairs) = AsksAny
step_question (FencePoll f) = AsksFence
step_question (Read t) = AsksValue t
step_question other = Silent

abbrev pub asks_any : HostStep → Bool
asks_any (WaitAny pairs) = nat_lt 1 (length pairs)
asks_any other = false

-- Lanes

abbrev pub lane_of : Job → Lane
lane_of (Host h) = HostLane
lane_of (Batch b) = QueueLane b.queue

-- the last of the first jobs that passes a test
abbrev pub last_from : ℕ → (Job → Bool) → List Job → Option ℕ → Option ℕ
last_from n test [] found = found
last_from n test (job ∷ jobs) found =
    last_from (n + 1) test jobs (if test job then Some n else found)

abbrev pub last_before : Script → ℕ → (Job → Bool) → Option ℕ
last_before s j test = last_from 0 test (take j s.jobs) None

-- Commands and signals of a job

abbrev pub commands_in : Job → ℕ
commands_in (Host h) = 0
commands_in (Batch b) = length b.commands

-- commands are numbered through all batches
abbrev pub job_commands : Script → ℕ → Job → List ℕ
job_commands s j job =
    range_with_len (fold (λ n x. n + commands_in x) 0 (take j s.jobs)) (commands_in job)

abbrev pub job_ops : Script → ℕ → List ℕ
job_ops s j =
    filter (λ e. option_map_or (λ x. x.job == j) (slice_get (all_signals s) e) false)
    (range_with_len 0 (length (all_signals s)))

-- what an idle step waits for: the last batch of each queue
abbrev pub step_idle : Script → ℕ → HostStep → List ℕ
step_idle s j Idle =
    filter_map (λ q. last_before s j (λ x. same_lane (QueueLane q) (lane_of x)))
    (range_with_len 0 (length s.queues))
step_idle s j other = []

-- The plan

abbrev pub plan_job : Script → ℕ × Job → PlanJob
plan_job s (j, Host h) =
    record {
      line = h.line;
      lane = HostLane;
      previous = last_before s j (λ x. same_lane HostLane (lane_of x));
      host_before = None;
      any = asks_any h.step;
      needs = step_needs s j h.line h.step;
      asked = step_asked s j h.line h.step;
      idle_after = step_idle s j h.step;
      commands = [];
      signals = job_ops s j;
      question = step_question h.step;
    }
plan_job s (j, Batch b) =
    record {
      line = b.line;
      lane = QueueLane b.queue;
      previous = last_before s j (λ x. same_lane (QueueLane b.queue) (lane_of x));
      host_before = last_before s j (λ x. same_lane HostLane (lane_of x));
      any = false;
      needs = map (of_wait s j) b.waits;
      asked = [];
      idle_after = [];
      commands = job_commands s j (Batch b);
      signals = job_ops s j;
      question = Silent;
    }

abbrev pub batch_commands : Job → List CommandLine
batch_commands (Host h) = []
batch_commands (Batch b) = b.commands

abbrev pub plan_of : Script → Plan
plan_of s =
    record {
      script = s;
      sizes = map (λ b. b.size) s.buffers;
      commands = flat_map batch_commands s.jobs;
      jobs = map (plan_job s) (enumerate_from 0 s.jobs);
      ops = map (op_at s) (enumerate_from 0 (all_signals s));
      initials = map (λ x. initial_value x.kind) s.semaphores;
      chains = map (chain_ops s) (range_with_len 0 (length s.semaphores));
    }
