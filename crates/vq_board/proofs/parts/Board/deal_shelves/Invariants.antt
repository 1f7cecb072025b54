use Rattle.std.proofs.Common.{◌+◌, length, map}
use Rattle.std.specs.List.{range_with_len}
use Rattle.vq_board_laws.specs.declared.view.Role.TheVariants.{Shelf}
use Rattle.vq_board_laws.specs.Roles.{threaded_queues}
use Rattle.vq_board.specs.Named.{plan_of, AreFresh, IsCut}
use Rattle.vq_board.proofs.parts.Board.deal_shelves.Given as goal

abbrev pub invariant-loop-chain : goal.invariant-loop-chain
invariant-loop-chain l = record {
  host : IsCut l.self l.host (length (threaded_queues (plan_of l.self)) + length (plan_of l.self).script.queues + l.chain);
  passes : AreFresh l.self l.passes.items (map Shelf (range_with_len 0 l.chain));
}
