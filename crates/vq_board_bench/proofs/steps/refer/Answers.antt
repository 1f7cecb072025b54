use Rattle.std.proofs.Common.{◌≡◌, List, length, ap, sym, refl, arith}
use Rattle.vq_model.specs.declared.plan.Lane.TheVariants.{Queue}
use Rattle.vq_board_laws.specs.declared.view.Reference.{Reference}
use Rattle.vq_board.specs.Named.{view}
use Rattle.vq_board_bench.proofs.steps.refer.Goals as goal

pub refer-requires-clause-may : goal.refer-requires-clause-may
refer-requires-clause-may c =
    let none : length (view c.args.pass.now).refs ≡ 0 = ap (λ (rs : List Reference). length rs) (c.requires.free refl) in
    record { lane = Queue c.requires.worker.queue; runner = sym c.requires.worker.ring; room = omega arith }
