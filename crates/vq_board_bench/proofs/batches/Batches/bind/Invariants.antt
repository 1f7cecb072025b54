use Rattle.vq_board.specs.Named.{plan_of, view, IsOf}
use Rattle.vq_board_bench.specs.Rows.{IsShelf}
use Rattle.vq_board_bench.proofs.batches.Batches.bind.Given as goal

abbrev pub invariant-loop-j : goal.invariant-loop-j
invariant-loop-j l = IsOf l.self.board l.shelf × IsShelf (plan_of l.self.board) (view l.shelf) l.self.signals l.self.signals l.self.signals l.j
