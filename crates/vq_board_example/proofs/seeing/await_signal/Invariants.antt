use Rattle.std.proofs.Common.{[]}
use Rattle.vq_board_example.specs.Holders.{IsIdle}
use Rattle.vq_board_example.proofs.seeing.await_signal.Given as goal

abbrev pub invariant-loop : goal.invariant-loop
invariant-loop g l = IsIdle l.board l.ring 1 []
