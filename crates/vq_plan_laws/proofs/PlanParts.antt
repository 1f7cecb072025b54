-- The jobs and the operations of a plan as those of its script.
use Rattle.std.proofs.Common.{◌≡◌, ℕ, ◌+◌, Option, Some, None, option_map, refl, ap, ◌∙◌, arith, [], fold, take}
use Rattle.std.specs.List.{slice_get, enumerate_from, range_with_len}
use Rattle.vq_model.specs.declared.script.Script.{Script}
use Rattle.vq_model.specs.declared.script.Job.{Job}
use Rattle.vq_model.specs.Lowering.{plan_job, plan_of, job_ops, commands_in}
use Rattle.vq_model.specs.declared.plan.PlanJob.{PlanJob}
use Rattle.vq_ground.proofs.Gets.{get-map, get-enumerate}
use Rattle.std.specs.Option.{option_map_or}
use Rattle.vq_model.specs.declared.script.Job.TheVariants.{Host, Batch}
use Rattle.vq_model.specs.Plan.{signals_of, commands_of, job_of, chain_of}
use Rattle.vq_model.specs.Signals.{Signaling, all_signals, op_at}

-- The jobs of a plan

pub job_is : (s : Script) (j : ℕ) → slice_get (plan_of s).jobs j ≡ option_map (λ job. plan_job s (j, job)) (slice_get s.jobs j)
job_is s j = get-map (plan_job s) (enumerate_from 0 s.jobs) j ∙ (ap (option_map (plan_job s)) (get-enumerate 0 s.jobs j) ∙ by_job (slice_get s.jobs j))
  where
    by_job : (o : Option Job) → option_map (plan_job s) (option_map (λ x. (0 + j, x)) o) ≡ option_map (λ job. plan_job s (j, job)) o
    by_job None = refl
    by_job (Some job) = let f : ℕ → Option PlanJob = λ n. Some (plan_job s (n, job)) in let e : 0 + j ≡ j = omega arith in ap f e

-- a part of a job of a plan
pub part_is : {B : Type 0} (part : PlanJob → B) (none : B) (s : Script) (j : ℕ) → option_map_or part (slice_get (plan_of s).jobs j) none ≡ option_map_or (λ job. part (plan_job s (j, job))) (slice_get s.jobs j) none
part_is part none s j = ap (λ o. option_map_or part o none) (job_is s j) ∙ by_job (slice_get s.jobs j)
  where
    by_job : (o : Option Job) → option_map_or part (option_map (λ job. plan_job s (j, job)) o) none ≡ option_map_or (λ job. part (plan_job s (j, job))) o none
    by_job None = refl
    by_job (Some job) = refl

pub signals_is : (s : Script) (j : ℕ) → signals_of (plan_of s) j ≡ option_map_or (λ job. job_ops s j) (slice_get s.jobs j) []
signals_is s j = part_is (λ x. x.signals) [] s j ∙ by_job (slice_get s.jobs j)
  where
    by_job : (o : Option Job) → option_map_or (λ job. (plan_job s (j, job)).signals) o [] ≡ option_map_or (λ job. job_ops s j) o []
    by_job None = refl
    by_job (Some (Host h)) = refl
    by_job (Some (Batch b)) = refl

-- the commands of a job are numbered from here on
unfoldable pub offset : Script → ℕ → ℕ
offset s j = fold (λ n x. n + commands_in x) 0 (take j s.jobs)

pub commands_are : (s : Script) (j : ℕ) → commands_of (plan_of s) j ≡ option_map_or (λ job. range_with_len (offset s j) (commands_in job)) (slice_get s.jobs j) []
unfolding offset
commands_are s j = part_is (λ x. x.commands) [] s j ∙ by_job (slice_get s.jobs j)
  where
    by_job : (o : Option Job) → option_map_or (λ job. (plan_job s (j, job)).commands) o [] ≡ option_map_or (λ job. range_with_len (offset s j) (commands_in job)) o []
    by_job None = refl
    by_job (Some (Host h)) = refl
    by_job (Some (Batch b)) = refl

-- The operations of a plan

pub op_is : (s : Script) (e : ℕ) → slice_get (plan_of s).ops e ≡ option_map (λ x. op_at s (e, x)) (slice_get (all_signals s) e)
op_is s e = get-map (op_at s) (enumerate_from 0 (all_signals s)) e ∙ (ap (option_map (op_at s)) (get-enumerate 0 (all_signals s) e) ∙ by_op (slice_get (all_signals s) e))
  where
    by_op : (o : Option Signaling) → option_map (op_at s) (option_map (λ x. (0 + e, x)) o) ≡ option_map (λ x. op_at s (e, x)) o
    by_op None = refl
    by_op (Some x) = let f = λ (n : ℕ). Some (op_at s (n, x)) in let q : 0 + e ≡ e = omega arith in ap f q

pub op_job_is : (s : Script) (e : ℕ) → job_of (plan_of s) e ≡ option_map (λ x. x.job) (slice_get (all_signals s) e)
op_job_is s e = ap (option_map (λ o. o.job)) (op_is s e) ∙ by_op (slice_get (all_signals s) e)
  where
    by_op : (o : Option Signaling) → option_map (λ x. x.job) (option_map (λ x. op_at s (e, x)) o) ≡ option_map (λ x. x.job) o
    by_op None = refl
    by_op (Some x) = refl

pub op_chain_is : (s : Script) (e : ℕ) → chain_of (plan_of s) e ≡ option_map (λ x. x.semaphore) (slice_get (all_signals s) e)
op_chain_is s e = ap (option_map (λ o. o.chain)) (op_is s e) ∙ by_op (slice_get (all_signals s) e)
  where
    by_op : (o : Option Signaling) → option_map (λ x. x.chain) (option_map (λ x. op_at s (e, x)) o) ≡ option_map (λ x. x.semaphore) o
    by_op None = refl
    by_op (Some x) = refl
