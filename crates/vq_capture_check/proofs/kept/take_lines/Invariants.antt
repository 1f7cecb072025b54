use Rattle.std.proofs.Common.{◌≡◌, drop}
use Rattle.vq_capture_check.specs.Clocks.{says, take_lines}
use Rattle.vq_capture_check.specs.Watches.{kept_of}
use Rattle.vq_capture_check.proofs.kept.take_lines.Given as goal

abbrev pub invariant-loop-line : goal.invariant-loop-line
invariant-loop-line l =
    take_lines (kept_of l.lines) (says l.clock.items) (drop l.line-index l.released)
    ≡ take_lines (kept_of l.lines) (says l.fn.clock.items) l.released
