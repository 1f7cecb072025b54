use Rattle.std.proofs.Common.{◌≡◌, ◌-◌, length}
use Rattle.vq_capture_clocks.specs.Blocks.{line_at}
use Rattle.vq_capture_clocks.specs.Levels.{TellsOf}
use Rattle.vq_capture_clocks.proofs.levels.level_places.Given as goal

abbrev pub invariant-loop-place : goal.invariant-loop-place
invariant-loop-place l =
    (length l.places ≡ length l.fn.places)
    × TellsOf l.lines l.next (line_at l.places) (line_at l.fn.places)

abbrev pub decreases-loop-place : goal.decreases-loop-place
decreases-loop-place l = length l.places - l.place
