use Rattle.std.proofs.Common.{◌≡◌, drop}
use Rattle.vq_spec.specs.Walks.{walk_marks}
use Rattle.vq_spec.proofs.uses.use_marks.Given as goal

abbrev pub invariant-loop-mark : goal.invariant-loop-mark
invariant-loop-mark l = walk_marks l.script l.last l.usage (drop l.mark-index l.marks)
    ≡ walk_marks l.script l.fn.last l.usage l.marks
