use Rattle.std.proofs.Common.{length}
use Rattle.vq_board_run.proofs.Shelving.{AreFirstOf}
use Rattle.vq_board_run.proofs.timelines.timelines_of.Given as goal

abbrev pub invariant-loop-chain : goal.invariant-loop-chain
invariant-loop-chain l = AreFirstOf l.board (length l.yielded) l.timelines.items
