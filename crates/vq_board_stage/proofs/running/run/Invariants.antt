use Rattle.std.proofs.Common.{◌≡◌}
use Rattle.vq_board.specs.Named.{view}
use Rattle.vq_board_stage.specs.Batches.{IsRunning}
use Rattle.vq_board_stage.proofs.running.run.Given as goal

abbrev pub invariant-loop-command : goal.invariant-loop-command
invariant-loop-command g l = record {
  running : IsRunning l.board l.pass l.j;
  entered : (view l.pass).entered ≡ l.command-index;
}
