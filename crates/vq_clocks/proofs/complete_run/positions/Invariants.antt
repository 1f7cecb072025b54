use Rattle.std.proofs.Common.{ℕ, true, length, take, get_or, ◌≡◌}
use Rattle.vq_ground.specs.Lists.{has}
use Rattle.vq_clocks.specs.VectorClocks.{position}
use Rattle.vq_clocks.proofs.complete_run.positions.Given as goal

abbrev pub invariant-loop-place : goal.invariant-loop-place
invariant-loop-place l = (length l.positions.items ≡ length l.plan.jobs) × ((j : ℕ) → has (take l.place l.order) j ≡ true → get_or l.positions.items j 0 ≡ position l.plan j)
