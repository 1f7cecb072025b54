use Rattle.std.proofs.Common.{[]}
use Rattle.vq_board_example.specs.Holders.{IsIdle, KnowsAllNeeds}
use Rattle.vq_board_example.proofs.rings.start.Given as goal

abbrev pub invariant-loop : goal.invariant-loop
invariant-loop g l = record {
  ring : IsIdle l.board l.ring l.job [];
  reached : KnowsAllNeeds l.board l.ring l.job;
}
