use Rattle.std.proofs.Common.{◌≡◌, drop}
use Rattle.vq_ground.specs.Lists.{has}
use Rattle.vq_capture_seen.proofs.leads.has.Given as goal

abbrev pub invariant-loop-other : goal.invariant-loop-other
invariant-loop-other l = has (drop l.other-index l.lines) l.line ≡ has l.lines l.line
