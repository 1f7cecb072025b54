use Rattle.std.proofs.Common.{arith, rules}
use Rattle.vq_board.specs.Named.{plan_of, view}
use Rattle.vq_board_stage.proofs.Binds.{may_bind_released}
use Rattle.vq_board_stage.proofs.Chains.{smaller}
use Rattle.vq_board_stage.proofs.shelves.bind_first.Goals as goal

pub bind-requires-clause-may : goal.bind-requires-clause-may
bind-requires-clause-may c =
    let p = plan_of c.args.board.now in
    let k = c.requires.plan in
    may_bind_released p (view c.args.shelf.now) 0 0 0 k.signals.first.its_job (search rules) (search rules) (λ f s. absurd (let below = smaller p f 0 k.signals s in omega arith)) k.batches.first.step c.requires.shelf.known
