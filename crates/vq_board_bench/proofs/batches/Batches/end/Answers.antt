use Rattle.vq_board.specs.Named.{plan_of, view}
use Rattle.vq_board_bench.proofs.ShelfRowSteps.{is_ending}
use Rattle.vq_board_bench.proofs.batches.Batches.end.Goals as goal

pub see-requires-clause-shelf : goal.see-requires-clause-shelf
see-requires-clause-shelf c =
    let x = c.args.self.now in
    is_ending (plan_of x.board) x.count x.commands x.signals x.row 0 (view c.args.shelf.now) c.requires.shelf
