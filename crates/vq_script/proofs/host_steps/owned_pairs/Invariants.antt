use Rattle.std.proofs.Common.{◌≡◌, ◌++◌, length, option_map}
use Rattle.vq_script.specs.Holds.{kept}
use Rattle.vq_lexer.specs.Words.{texts}
use Rattle.vq_model.specs.Meaning.{pairs_at}
use Rattle.vq_script.specs.LineTests.{number_of}
use Rattle.vq_script.proofs.host_steps.owned_pairs.Given as goal

abbrev pub invariant-loop-rest : goal.invariant-loop-rest
invariant-loop-rest l =
    option_map (λ ps. l.pairs.items ++ ps) (pairs_at (number_of (kept l.known)) (texts l.rest))
    ≡ pairs_at (number_of (kept l.known)) (texts l.fn.words)

abbrev pub decreases-loop-rest : goal.decreases-loop-rest
decreases-loop-rest l = length l.rest
