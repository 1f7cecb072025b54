use Rattle.std.proofs.Common.{◌≡◌, false, take}
use Rattle.std.specs.List.{list_any}
use Rattle.vq_turns.specs.Turns.{reaches}
use Rattle.vq_actor.proofs.asking.any_reaches.Given as goal

abbrev pub invariant-loop-one : goal.invariant-loop-one
invariant-loop-one l = list_any reaches (take l.one-index l.seen) ≡ false
