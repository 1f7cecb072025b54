use Rattle.vq_board.specs.Named.{view, IsOf}
use Rattle.vq_board_bench.specs.Rows.{IsHost}
use Rattle.vq_board_bench.proofs.batches.Batches.find.Given as goal

abbrev pub invariant-loop-j : goal.invariant-loop-j
invariant-loop-j l = IsOf l.self.board l.host × IsHost (view l.host) l.self.count l.j 0
