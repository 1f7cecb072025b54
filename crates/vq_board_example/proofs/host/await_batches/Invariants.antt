use Rattle.vq_board_example.specs.Holders.{HasSubmitted}
use Rattle.vq_board_example.proofs.host.await_batches.Given as goal

abbrev pub invariant-loop : goal.invariant-loop
invariant-loop g l = HasSubmitted l.board l.host 2
