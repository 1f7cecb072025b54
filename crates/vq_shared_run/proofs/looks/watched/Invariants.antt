use Rattle.std.proofs.Common.{◌≡◌}
use Rattle.vq_board.specs.Named.{view}
use Rattle.vq_board_run.specs.Answered.{HasSeen}
use Rattle.vq_shared_run.proofs.looks.watched.Given as goal

abbrev pub invariant-loop-job : goal.invariant-loop-job
invariant-loop-job l =
    HasSeen l.run.board l.pass l.job × ((view l.pass).told ≡ (view l.fn.watch.pass).told)
