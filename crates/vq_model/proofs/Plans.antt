-- What exists in a plan: batches among its jobs, operations and commands by what names them.
use Rattle.std.proofs.Common.{◌≡◌, ℕ, ◌<◌, true, false, not, nat_lt, ltb, length, Option, Some, None, refl, ap}
use Rattle.std.specs.List.{slice_get}
use Rattle.std.specs.Option.{option_map_or, option_map}
use Rattle.std.proofs.lemmas.Bool.{and_from, and_parts, false≢true, lt-ltb, ltb-true, not-true}
use Rattle.std.proofs.lemmas.Option.{slice_get_within}
use Rattle.vq_model.specs.declared.plan.Op.{Op}
use Rattle.vq_model.specs.declared.script.CommandLine.{CommandLine}
use Rattle.vq_model.specs.declared.plan.Lane.{Lane}
use Rattle.vq_model.specs.declared.plan.Lane.TheVariants.{Host as HostLane, Queue as QueueLane}
use Rattle.vq_model.specs.declared.plan.PlanJob.{PlanJob}
use Rattle.vq_model.specs.Plan.{Plan, chain_of, commands_of, is_batch, is_host_lane, is_host_step, job_of}
use Rattle.vq_ground.specs.Lists.{has}
use Rattle.vq_model.specs.WellFormed.{IsWellFormed}
use Rattle.vq_model.specs.Checks.{is_immediate_batch, is_immediate_lane}
use Rattle.vq_ground.proofs.Gets.{get_within}
use Rattle.vq_ground.proofs.Options.{some_of}

pub batch_exists : (p : Plan) (j : ℕ) → is_batch p j ≡ true → j < length p.jobs
batch_exists p j h = ltb-true j (length p.jobs) (and_parts (ltb j (length p.jobs)) (not (is_host_step p j)) h).0

pub batch_no_step : (p : Plan) (j : ℕ) → is_batch p j ≡ true → is_host_step p j ≡ false
batch_no_step p j b =
    not-true (is_host_step p j) (and_parts (nat_lt j (length p.jobs)) (not (is_host_step p j)) b).1

pub batch_of : (p : Plan) (j : ℕ) → j < length p.jobs → is_host_step p j ≡ false → is_batch p j ≡ true
batch_of p j inside e =
    and_from (ltb j (length p.jobs)) (not (is_host_step p j)) (lt-ltb j (length p.jobs) inside) (ap not e)

-- a batch of an immediate queue is no host step
pub immediate_batch : (p : Plan) (j : ℕ) → is_immediate_batch p j ≡ true → is_host_step p j ≡ false
immediate_batch p j h = by_job (slice_get p.jobs j) h
  where
    by_lane : (l : Lane) → is_immediate_lane p l ≡ true → is_host_lane l ≡ false
    by_lane HostLane h = absurd (false≢true h)
    by_lane (QueueLane q) h = refl

    by_job : (o : Option PlanJob) → option_map_or (λ x. is_immediate_lane p x.lane) o false ≡ true →
        option_map_or (λ x. is_host_lane x.lane) o false ≡ false
    by_job None h = refl
    by_job (Some x) h = by_lane x.lane h

pub op_within : (p : Plan) (e t : ℕ) → chain_of p e ≡ Some t → e < length p.ops
op_within p e t c = let x = some_of (λ o. o.chain) (slice_get p.ops e) t c in get_within p.ops e x.0 x.1

pub command_exists : (p : Plan) → IsWellFormed p → (j c : ℕ) → has (commands_of p j) c ≡ true →
    c < length p.commands
command_exists p w j c h =
    let f = w.fits c j h in
    let o = some_of (λ (x : CommandLine). x.command) (slice_get p.commands c) f.0 f.1 in
    get_within p.commands c o.0 o.1

-- an operation with a job is one of the plan
pub op_exists : (p : Plan) (e j : ℕ) → job_of p e ≡ Some j → e < length p.ops
op_exists p e j h = by_op (slice_get p.ops e) refl h
  where
    by_op : (o : Option Op) → slice_get p.ops e ≡ o → option_map (λ x. x.job) o ≡ Some j → e < length p.ops
    by_op None is m = absurd (let c = m in cc)
    by_op (Some x) is m = slice_get_within p.ops e x is
