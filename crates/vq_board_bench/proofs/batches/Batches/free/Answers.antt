use Rattle.vq_board.specs.Named.{plan_of, view}
use Rattle.vq_board_bench.proofs.ShelfRowSteps.{may_retire, after_retire}
use Rattle.vq_board_bench.proofs.batches.Batches.free.Goals as goal

pub retire-requires-clause-may : goal.retire-requires-clause-may
retire-requires-clause-may c =
    let x = c.args.self.now in
    (c.args.j, may_retire (plan_of x.board) x.count x.commands x.signals x.row c.args.j (view c.args.shelf.now) c.requires.exists c.requires.shelf)

pub returns-in-Ok-clause-freed : goal.returns-in-Ok-clause-freed
returns-in-Ok-clause-freed c =
    let x = c.args.self.now in
    let freed = c.in-Ok.ensures.freed in
    λ _. after_retire (plan_of x.board) x.count x.commands x.signals x.row c.args.j (view c.args.shelf.now) (view c.retire.new.pass) freed.0 freed.0 c.requires.shelf freed.2.2
