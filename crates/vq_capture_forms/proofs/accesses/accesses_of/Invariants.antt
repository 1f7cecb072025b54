use Rattle.std.proofs.Common.{◌≡◌}
use Rattle.std.specs.List.{slice_split}
use Rattle.vq_capture.specs.MaskWords.{is_plus, accesses_with, no_access}
use Rattle.vq_capture_forms.specs.Parts.{parts_left, size_left}
use Rattle.vq_capture_forms.proofs.accesses.accesses_of.Given as goal

-- going on from here gives what the whole word gives
abbrev pub invariant-loop-left : goal.invariant-loop-left
invariant-loop-left l =
    accesses_with l.mask (parts_left is_plus l.left) ≡ accesses_with no_access (slice_split is_plus l.fn.word)

abbrev pub decreases-loop-left : goal.decreases-loop-left
decreases-loop-left l = size_left l.left
