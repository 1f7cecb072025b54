use Rattle.std.proofs.Common.{◌+◌, length, map}
use Rattle.std.specs.List.{range_with_len}
use Rattle.vq_board_laws.specs.declared.view.Role.TheVariants.{Ring}
use Rattle.vq_board_laws.specs.Roles.{threaded_queues}
use Rattle.vq_board.specs.Named.{plan_of, AreFresh, IsCut}
use Rattle.vq_board.proofs.parts.Board.deal_rings.Given as goal

abbrev pub invariant-loop-queue : goal.invariant-loop-queue
invariant-loop-queue l = record {
  host : IsCut l.self l.host (length (threaded_queues (plan_of l.self)) + l.queue);
  passes : AreFresh l.self l.passes.items (map Ring (range_with_len 0 l.queue));
}
