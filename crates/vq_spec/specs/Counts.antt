-- What lowering keeps of the jobs before one.
use Rattle.std.specs.Prelude.{ℕ, List, ◌≡◌, ◌≤◌, map, take, length, count_by, if◌then◌else◌, Option}
use Rattle.std.specs.Prelude.{Bool, false}
use Rattle.std.specs.Prelude.{[]}
use Rattle.std.specs.List.{flat_map, enumerate_from, range_with_len, slice_index}
use Rattle.vq_model.specs.declared.script.Script.{Script}
use Rattle.vq_model.specs.declared.script.Mark.{Mark}
use Rattle.vq_model.specs.declared.script.Batch.{Batch}
use Rattle.vq_model.specs.declared.script.Job.{Job}
use Rattle.vq_model.specs.declared.plan.PlanJob.{PlanJob}
use Rattle.vq_model.specs.declared.plan.Question.TheVariants.{Silent}
use Rattle.vq_model.specs.declared.plan.Op.{Op}
use Rattle.vq_model.specs.declared.plan.Need.{Need}
use Rattle.vq_model.specs.declared.plan.Lane.TheVariants.{Host as HostLane, Queue as QueueLane}
use Rattle.vq_model.specs.Lowering.{batch_commands, plan_job, lane_of, last_before}
use Rattle.vq_model.specs.Plan.{same_lane}
use Rattle.vq_model.specs.Signals.{Signaling, job_signals, all_signals, signals_semaphore, value_at, is_timeline_at}
use Rattle.vq_spec.specs.Fences.{AreFences}
use Rattle.vq_spec.specs.declared.lowering.Lowered.{Lowered}
use Rattle.vq_spec.specs.declared.signals.Signals.{Signals}

-- Signals

-- the signals of the jobs before one
abbrev pub signals_before : Script → ℕ → List Signaling
signals_before s j = flat_map job_signals (enumerate_from 0 (take j s.jobs))

-- an operation whose place in its chain isn't known yet
abbrev pub unplaced : Script → ℕ × Signaling → Op
unplaced s (e, x) =
    record {
      chain = x.semaphore;
      index = 0;
      value = value_at s e;
      job = x.job;
      line = x.line;
    }

-- the first operations
abbrev pub first_ops : Script → ℕ → List Op
first_ops s n = map (unplaced s) (enumerate_from 0 (take n (all_signals s)))

-- how many of the first signals each semaphore has
abbrev pub counts_of : Script → ℕ → List ℕ
counts_of s n =
    map (λ t. count_by (signals_semaphore t) (take n (all_signals s)))
    (range_with_len 0 (length s.semaphores))

-- These are the first signals of a script.
pub record AreSignals (s : Script) (x : Signals) : Type 0 where
  pub ops : x.ops.items ≡ first_ops s (length x.ops.items)
  pub counts : x.counts.items ≡ counts_of s (length x.ops.items)
  pub within : length x.ops.items ≤ length (all_signals s)

-- Waits

-- the value of a mark: the one that is written, or this number for a binary semaphore or a fence
abbrev pub value_by : Script → Mark → ℕ → ℕ
value_by s m count = if is_timeline_at s m.semaphore then m.value else count

-- what a wait asks for, where each semaphore has so many signals
abbrev pub need_by : Script → List ℕ → Mark → Need
need_by s counts m =
    record {
      line = m.line;
      chain = m.semaphore;
      value = value_by s m (slice_index counts m.semaphore);
      from = m.from;
    }

-- Jobs

abbrev pub in_queue : ℕ → Job → Bool
in_queue q job = same_lane (QueueLane q) (lane_of job)

-- the last job of each queue before a job
abbrev pub last_of_queues : Script → ℕ → List (Option ℕ)
last_of_queues s j = map (λ q. last_before s j (in_queue q)) (range_with_len 0 (length s.queues))

abbrev pub is_step : Job → Bool
is_step job = same_lane HostLane (lane_of job)

-- the job of a batch, by what the jobs before it say
abbrev pub batch_job : Batch → Option ℕ → Option ℕ → List Need → List ℕ → List ℕ → PlanJob
batch_job b previous host_before needs commands signals =
    record {
      line = b.line;
      lane = QueueLane b.queue;
      previous = previous;
      host_before = host_before;
      any = false;
      needs = needs;
      asked = [];
      idle_after = [];
      commands = commands;
      signals = signals;
      question = Silent;
    }

-- These are the parts of the jobs before one.
pub record AreLowered (s : Script) (j : ℕ) (x : Lowered) : Type 0 where
  pub jobs : x.jobs.items ≡ map (plan_job s) (enumerate_from 0 (take j s.jobs))
  pub commands : x.commands ≡ length (flat_map batch_commands (take j s.jobs))
  pub last : x.last.items ≡ last_of_queues s j
  pub host : x.host ≡ last_before s j is_step
  pub fences : AreFences s j x.fences.items
  pub signals : AreSignals s x.signals
  pub operations : length x.signals.ops.items ≡ length (signals_before s j)
