use Rattle.std.proofs.Common.{◌≡◌, All, map}
use Rattle.std.specs.List.{filter_map}
use Rattle.vq_board.specs.Named.{plan_of}
use Rattle.vq_board_run.specs.Crewed.{IsWorkerOf, owner_of}
use Rattle.vq_board_run.specs.Unused.{IsUnused}
use Rattle.vq_board_run.proofs.Crewing.{worker_at}
use Rattle.vq_board_run.proofs.workers.rooms_of.Given as goal

abbrev pub invariant-loop-pass : goal.invariant-loop-pass
invariant-loop-pass l = record {
  each : All (IsWorkerOf l.board) l.rooms.items;
  unused : All (IsUnused (plan_of l.board)) l.rooms.items;
  owners : map owner_of l.rooms.items ≡ filter_map worker_at l.yielded;
}
