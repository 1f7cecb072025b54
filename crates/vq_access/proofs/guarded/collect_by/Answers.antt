use Rattle.vq_board.specs.Named.{plan_of}
use Rattle.vq_timeline.specs.declared.parts.Shelf.{Shelf}
use Rattle.vq_timeline.specs.Answers.{Collects}
use Rattle.vq_timeline.specs.Named.{chain_at, state_of}
use Rattle.vq_timeline.proofs.Cited.{asked_under}
use Rattle.vq_access.proofs.guarded.collect_by.Goals as goal

pub returns-clause-asked : goal.returns-clause-asked
returns-clause-asked c =
    let b = c.args.board.now in
    let t = c.args.timeline.now in
    asked_under b t c.args.guard.now c.collect.new.self
    (λ (x y : Shelf). Collects (plan_of b) (chain_at t) (state_of x) (state_of y) c.collect.result)
    c.requires.timeline c.requires.held c.collect.ensures.held c.collect.ensures.collected
