use Rattle.std.proofs.Common.{◌≡◌, ℕ, true, take}
use Rattle.vq_ground.specs.Lists.{has}
use Rattle.vq_capture.specs.Points.{IsMember}
use Rattle.vq_capture_touched.specs.declared.touch.Touch.{Touch}
use Rattle.vq_capture_check.proofs.touched_lines.add_lines.Given as goal

abbrev pub invariant-loop-touch : goal.invariant-loop-touch
invariant-loop-touch l =
    ((n : ℕ) → has l.fn.lines.items n ≡ true → has l.lines.items n ≡ true)
    × ((t : Touch) → IsMember t (take l.touch-index l.touches) → has l.lines.items t.step.line ≡ true)
