use Rattle.std.proofs.Common.{List, length}
use Rattle.vq_model.specs.declared.statement.Form.TheVariants.{Plain}
use Rattle.vq_model.specs.declared.statement.Line.{Line}
use Rattle.vq_model.specs.Context.{number_at}
use Rattle.vq_lexer.specs.Words.{texts}
use Rattle.vq_script.specs.Reads.{HasRead}
use Rattle.vq_hosts.proofs.PairSteps.{SoFar}
use Rattle.vq_hosts.proofs.pairs.read_pairs.Given as goal

abbrev pub invariant-loop-rest : goal.invariant-loop-rest
invariant-loop-rest l =
    (lines : List Line) → HasRead Plain lines l.reader → SoFar (number_at lines) (texts l.rest) (texts l.fn.words) l.found

abbrev pub decreases-loop-rest : goal.decreases-loop-rest
decreases-loop-rest l = length l.rest
