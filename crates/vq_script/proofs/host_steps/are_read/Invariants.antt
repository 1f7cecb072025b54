use Rattle.std.proofs.Common.{◌≡◌, length}
use Rattle.std.specs.Prelude.{is_some}
use Rattle.vq_script.specs.Holds.{kept}
use Rattle.vq_lexer.specs.Words.{texts}
use Rattle.vq_model.specs.Meaning.{pairs_at}
use Rattle.vq_script.specs.LineTests.{number_of}
use Rattle.vq_script.proofs.host_steps.are_read.Given as goal

abbrev pub invariant-loop-rest : goal.invariant-loop-rest
invariant-loop-rest l =
    is_some (pairs_at (number_of (kept l.known)) (texts l.rest))
    ≡ is_some (pairs_at (number_of (kept l.known)) (texts l.fn.words))

abbrev pub decreases-loop-rest : goal.decreases-loop-rest
decreases-loop-rest l = length l.rest
