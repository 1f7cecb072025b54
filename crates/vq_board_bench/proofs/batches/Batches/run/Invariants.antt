use Rattle.vq_board.specs.Named.{plan_of, view, IsOf}
use Rattle.vq_board_bench.specs.Rows.{IsBetween}
use Rattle.vq_board_bench.proofs.batches.Batches.run.Given as goal

abbrev pub invariant-loop-j : goal.invariant-loop-j
invariant-loop-j l = IsOf l.self.board l.ring × IsBetween (plan_of l.self.board) (view l.ring) l.j
