use Rattle.std.proofs.Common.{◌≢◌, ◌<◌, ◌≤◌, ◌-◌, ℕ, length}
use Rattle.vq_model.specs.Lanes.{lane_at}
use Rattle.vq_spec.proofs.heads.next_in_lane.Given as goal

abbrev pub decreases-loop-job : goal.decreases-loop-job
decreases-loop-job l = length l.plan.jobs - l.job

abbrev pub invariant-loop-job : goal.invariant-loop-job
invariant-loop-job l =
    (l.job ≤ length l.plan.jobs) × (l.from ≤ l.job)
    × ((i : ℕ) → l.from ≤ i → i < l.job → lane_at l.plan i ≢ l.lane)
