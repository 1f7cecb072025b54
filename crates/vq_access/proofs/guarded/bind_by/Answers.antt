use Rattle.std.proofs.Common.{ℕ}
use Rattle.vq_board.specs.Named.{plan_of}
use Rattle.vq_timeline.specs.declared.parts.BindFault.{BindFault}
use Rattle.vq_timeline.specs.declared.parts.Shelf.{Shelf}
use Rattle.vq_timeline.specs.Answers.{IsBindRefused}
use Rattle.vq_timeline.specs.Named.{state_of}
use Rattle.vq_timeline.proofs.Cited.{ok_under, err_under}
use Rattle.vq_timeline_laws.specs.Calls.{HasBound}
use Rattle.vq_access.proofs.guarded.bind_by.Goals as goal

pub returns-clause-bound : goal.returns-clause-bound
returns-clause-bound c =
    let b = c.args.board.now in
    ok_under b c.args.timeline.now c.args.guard.now c.bind.new.self c.bind.result
    (λ (a : ℕ) (x y : Shelf). HasBound (plan_of b) (state_of x) (state_of y) c.args.op a)
    c.requires.timeline c.requires.held c.bind.ensures.held c.bind.ensures.bound

pub returns-clause-refused : goal.returns-clause-refused
returns-clause-refused c =
    let b = c.args.board.now in
    err_under b c.args.timeline.now c.args.guard.now c.bind.new.self c.bind.result
    (λ (a : BindFault) (x y : Shelf). IsBindRefused (plan_of b) (state_of x) (state_of y) c.args.op a)
    c.requires.timeline c.requires.held c.bind.ensures.held c.bind.ensures.refused
