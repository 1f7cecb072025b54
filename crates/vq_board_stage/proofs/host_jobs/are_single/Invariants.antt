use Rattle.std.proofs.Common.{ℕ, ◌<◌, length}
use Rattle.vq_model.specs.Plan.{chain}
use Rattle.vq_board_stage.proofs.host_jobs.are_single.Given as goal

abbrev pub invariant-loop-t : goal.invariant-loop-t
invariant-loop-t l = (s : ℕ) → s < l.t → length (chain l.plan s) < 2
