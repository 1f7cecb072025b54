use Rattle.std.proofs.Common.{◌≡◌, ◌<◌, ◌+◌, ◌^◌, drop}
use Rattle.vq_model.specs.Text.{lines_of}
use Rattle.vq_audit.specs.Comparing.{first_difference}
use Rattle.vq_audit.proofs.comparison.first_difference.Given as goal

abbrev pub invariant-loop-line : goal.invariant-loop-line
invariant-loop-line l = record {
  goes_on : first_difference (lines_of l.left) (drop l.line-index l.given) l.last
      ≡ first_difference (lines_of l.fn.text) l.fn.given l.fn.end_line;
  small : l.last + 1 < 2 ^ 32;
}
