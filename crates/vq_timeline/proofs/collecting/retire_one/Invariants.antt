use Rattle.std.proofs.Common.{take}
use Rattle.vq_timeline.proofs.Retiring.{Tried}
use Rattle.vq_timeline.proofs.collecting.retire_one.Given as goal

abbrev pub invariant-loop-point : goal.invariant-loop-point
invariant-loop-point l = Tried l.fn.pass l.pass (take l.point-index l.points)
