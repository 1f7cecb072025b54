use Rattle.std.proofs.Common.{◌≡◌, ◌++◌, map}
use Rattle.std.specs.List.{range_with_len}
use Rattle.vq_model.specs.declared.script.ActorName.TheVariants.{Ring}
use Rattle.vq_replay.proofs.roster.push_rings.Given as goal

abbrev pub invariant-loop-queue : goal.invariant-loop-queue
invariant-loop-queue l = l.actors.items ≡ l.fn.actors.items ++ map Ring (range_with_len 0 l.queue)
