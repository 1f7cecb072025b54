use Rattle.std.proofs.Common.{◌≡◌, arith, rules}
use Rattle.vq_board.specs.Named.{plan_of, view}
use Rattle.vq_board_stage.proofs.Binds.{may_bind_released}
use Rattle.vq_board_stage.proofs.Chains.{smaller}
use Rattle.vq_board_stage.proofs.shelves.bind_second.Goals as goal

pub bind-requires-clause-may : goal.bind-requires-clause-may
bind-requires-clause-may c =
    let p = plan_of c.args.board.now in
    let k = c.requires.plan in
    may_bind_released p (view c.job_state.new.pass) 1 1 2 k.signals.second.its_job (search rules) (search rules) (λ f s. let below = smaller p f 1 k.signals s in let first : f ≡ 0 = omega arith in search rules) k.batches.second.step (search rules)
