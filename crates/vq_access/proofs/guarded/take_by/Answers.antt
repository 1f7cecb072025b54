use Rattle.vq_board.specs.Named.{plan_of}
use Rattle.vq_timeline.specs.declared.parts.Shelf.{Shelf}
use Rattle.vq_timeline.specs.Named.{state_of}
use Rattle.vq_timeline.proofs.Cited.{ok_under, err_under}
use Rattle.vq_timeline_core.specs.declared.answers.OpPlace.{OpPlace}
use Rattle.vq_timeline_core.specs.declared.answers.Taken.{Taken}
use Rattle.vq_timeline_laws.specs.Calls.{HasTaken, IsTakeRefused}
use Rattle.vq_access.proofs.guarded.take_by.Goals as goal

pub returns-clause-taken : goal.returns-clause-taken
returns-clause-taken c =
    let b = c.args.board.now in
    ok_under b c.args.timeline.now c.args.guard.now c.take_for.new.self c.take_for.result
    (λ (a : Taken) (x y : Shelf). HasTaken (plan_of b) (state_of x) (state_of y) c.args.op a)
    c.requires.timeline c.requires.held c.take_for.ensures.held c.take_for.ensures.taken

pub returns-clause-refused : goal.returns-clause-refused
returns-clause-refused c =
    let b = c.args.board.now in
    err_under b c.args.timeline.now c.args.guard.now c.take_for.new.self c.take_for.result
    (λ (a : OpPlace) (x y : Shelf). IsTakeRefused (plan_of b) (state_of x) (state_of y) c.args.op a)
    c.requires.timeline c.requires.held c.take_for.ensures.held c.take_for.ensures.refused
