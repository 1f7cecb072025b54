use Rattle.vq_board_example.specs.Holders.{IsToRelease}
use Rattle.vq_board_example.proofs.submitting.release_fill.Given as goal

abbrev pub invariant-loop : goal.invariant-loop
invariant-loop g l = IsToRelease l.board l.submitter 0
