-- What is known of each plan of a script that was read.
use Rattle.std.proofs.Common.{sym, subst, ◌<◌, ◌^◌, length, arith}
use Rattle.vq_model.specs.LoweredPlans.{IsPlan}
use Rattle.vq_model.specs.Plan.{Plan}
use Rattle.vq_model.specs.WellFormed.{IsWellFormed, KeepsHostOrder}
use Rattle.vq_plan_laws.proofs.WellFormedPlans.{well_formed}
use Rattle.vq_reading_laws.proofs.Cited.{read_valid, read_batches, read_steps, read_lines_rise, queues_fit}
use Rattle.vq_model.specs.Lanes.{KeepsLanes, KeepsSemaphores, HasLinesInOrder}
use Rattle.vq_plan_laws.proofs.PlanLanes.{keeps_lanes, keeps_semaphores}
use Rattle.vq_plan_laws.proofs.PlanLines.{lines_in_order}
use Rattle.vq_plan_laws.proofs.HostPlans.{host_order}

pub plan_well_formed : (p : Plan) → IsPlan p → IsWellFormed p
plan_well_formed p i = subst IsWellFormed (sym i.lowered) (well_formed p.script (read_valid p.script i.of_script))

pub plan_lanes : (p : Plan) → IsPlan p → KeepsLanes p
plan_lanes p i =
    let r = i.of_script in
    subst KeepsLanes (sym i.lowered) (keeps_lanes p.script (read_valid p.script r) (read_batches p.script r))

pub plan_semaphores : (p : Plan) → IsPlan p → KeepsSemaphores p
plan_semaphores p i =
    let r = i.of_script in
    subst KeepsSemaphores (sym i.lowered) (keeps_semaphores p.script (read_valid p.script r) (read_batches p.script r) (read_steps p.script r))

pub plan_lines : (p : Plan) → IsPlan p → HasLinesInOrder p
plan_lines p i = subst HasLinesInOrder (sym i.lowered) (lines_in_order p.script (read_lines_rise p.script i.of_script))

pub plan_hosts : (p : Plan) → IsPlan p → KeepsHostOrder p
plan_hosts p i =
    subst KeepsHostOrder (sym i.lowered) (host_order p.script (read_valid p.script i.of_script))

-- a plan has few queues
pub few_queues : (p : Plan) → IsPlan p → length p.script.queues < 2 ^ 32
few_queues p plan =
    let most = (read_valid p.script plan.of_script).limits.queues in
    let fit = queues_fit p.script.version in
    omega arith
