use Rattle.std.proofs.Common.{◌≡◌, filter, take}
use Rattle.std.specs.Prelude.{not}
use Rattle.vq_capture_touched.specs.Indexed.{touches_of}
use Rattle.vq_capture_check.specs.Watching.{is_stood_for}
use Rattle.vq_capture_check.proofs.touched.forget_indexed.Given as goal

abbrev pub invariant-loop-w : goal.invariant-loop-w
invariant-loop-w l =
    touches_of l.index ≡ filter (λ t. not (is_stood_for l.step (take l.w-index l.newest) t)) (touches_of l.fn.index)
