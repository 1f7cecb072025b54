use Rattle.std.proofs.Common.{◌≡◌, true, take}
use Rattle.std.specs.List.{list_all}
use Rattle.vq_turns.specs.Turns.{reaches}
use Rattle.vq_actor.proofs.asking.all_reach.Given as goal

abbrev pub invariant-loop-one : goal.invariant-loop-one
invariant-loop-one l = list_all reaches (take l.one-index l.seen) ≡ true
