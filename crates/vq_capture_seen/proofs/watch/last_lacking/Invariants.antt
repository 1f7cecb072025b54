use Rattle.std.proofs.Common.{◌≡◌, None, length}
use Rattle.vq_capture_seen.specs.Ways.{last_lacking}
use Rattle.vq_capture_seen.proofs.watch.last_lacking.Given as goal

abbrev pub invariant-loop-rest : goal.invariant-loop-rest
invariant-loop-rest l =
    last_lacking l.b l.released l.last l.rest ≡ last_lacking l.b l.released None l.above

abbrev pub decreases-loop-rest : goal.decreases-loop-rest
decreases-loop-rest l = length l.rest
