use Rattle.std.proofs.Common.{◌≡◌, ◌%◌, length}
use Rattle.vq_model.specs.Text.{words_in}
use Rattle.vq_forms.proofs.parity.are_even.Given as goal

abbrev pub invariant-loop-after : goal.invariant-loop-after
invariant-loop-after l = length (words_in l.rest) % 2 ≡ length (words_in l.fn.part) % 2

abbrev pub decreases-loop-after : goal.decreases-loop-after
decreases-loop-after l = length l.rest
