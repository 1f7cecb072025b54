use Rattle.std.proofs.Common.{◌≡◌, ◌<◌, ℕ, true}
use Rattle.vq_model.specs.EdgeReasons.{waits_at_start}
use Rattle.vq_clocks.proofs.clocks.parts.all_wait_at_start.Given as goal

abbrev pub invariant-loop-j : goal.invariant-loop-j
invariant-loop-j l = (i : ℕ) → i < l.j → waits_at_start l.plan i ≡ true
