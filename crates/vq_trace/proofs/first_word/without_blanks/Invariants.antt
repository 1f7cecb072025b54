use Rattle.std.proofs.Common.{◌≡◌, length}
use Rattle.vq_model.specs.Text.{words_of}
use Rattle.vq_trace.proofs.first_word.without_blanks.Given as goal

abbrev pub invariant-loop-rest : goal.invariant-loop-rest
invariant-loop-rest l = words_of l.rest ≡ words_of l.fn.line

abbrev pub decreases-loop-rest : goal.decreases-loop-rest
decreases-loop-rest l = length l.rest
