use Rattle.std.proofs.Common.{◌≡◌}
use Rattle.vq_board.specs.Named.{view}
use Rattle.vq_board_stage.specs.Batches.{IsRunning}
use Rattle.vq_board_stage.proofs.running.take_turn.Given as goal

abbrev pub invariant-loop : goal.invariant-loop
invariant-loop g l = record {
  running : IsRunning l.board l.pass l.j;
  entered : (view l.pass).entered ≡ (view l.fn.pass).entered;
}
