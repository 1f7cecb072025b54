use Rattle.std.proofs.Common.{◌≡◌, ◌⊎◌, ℕ, true}
use Rattle.std.specs.BTreeMap.{keys}
use Rattle.vq_ground.specs.Lists.{has}
use Rattle.vq_capture.specs.Points.{IsMember}
use Rattle.vq_capture_touched.specs.declared.touch.Touch.{Touch}
use Rattle.vq_capture_check.specs.Watches.{touched_at}
use Rattle.vq_capture_check.specs.Watching.{all_touched}
use Rattle.vq_capture_check.proofs.touched_lines.touched_lines.Given as goal

-- the accesses of a resource are to come, or their lines are there
abbrev pub invariant-loop-resource : goal.invariant-loop-resource
invariant-loop-resource l =
    (r : ℕ) (t : Touch) → IsMember r (keys l.fn.things) → IsMember t (all_touched (touched_at l.fn.things r)) →
    IsMember r l.resource-iterator ⊎ (has l.lines.items t.step.line ≡ true)
