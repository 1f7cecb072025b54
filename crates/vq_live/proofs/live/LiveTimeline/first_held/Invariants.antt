use Rattle.std.proofs.Common.{◌≡◌, drop}
use Rattle.vq_live.specs.Calls.{held_from}
use Rattle.vq_live.proofs.live.LiveTimeline.first_held.Given as goal

abbrev pub invariant-loop-i : goal.invariant-loop-i
invariant-loop-i l = held_from l.i (drop l.i l.self.slots) ≡ held_from 0 l.self.slots
