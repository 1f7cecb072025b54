use Rattle.std.proofs.Common.{length, map}
use Rattle.vq_board_laws.specs.declared.view.Role.TheVariants.{Submit}
use Rattle.vq_board_laws.specs.Roles.{threaded_before}
use Rattle.vq_board.specs.Named.{plan_of, AreFresh, IsCut}
use Rattle.vq_board.proofs.parts.Board.deal_submits.Given as goal

abbrev pub invariant-loop-queue : goal.invariant-loop-queue
invariant-loop-queue l = record {
  host : IsCut l.self l.host (length (threaded_before (plan_of l.self) l.queue));
  passes : AreFresh l.self l.passes.items (map Submit (threaded_before (plan_of l.self) l.queue));
}
