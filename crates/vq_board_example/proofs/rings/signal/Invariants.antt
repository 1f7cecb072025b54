use Rattle.vq_board_example.specs.Holders.{Runs}
use Rattle.vq_board_example.proofs.rings.signal.Given as goal

abbrev pub invariant-loop : goal.invariant-loop
invariant-loop g l = Runs l.board l.ring 0 1 0
