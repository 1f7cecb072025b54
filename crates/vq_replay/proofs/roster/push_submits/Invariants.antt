use Rattle.std.proofs.Common.{◌≡◌, ◌++◌}
use Rattle.std.specs.List.{range_with_len}
use Rattle.vq_replay.proofs.Rosters.{submits_of}
use Rattle.vq_replay.proofs.roster.push_submits.Given as goal

abbrev pub invariant-loop-queue : goal.invariant-loop-queue
invariant-loop-queue l = l.actors.items ≡ l.fn.actors.items ++ submits_of l.script (range_with_len 0 l.queue)
