use Rattle.vq_audit.proofs.WrongEvents.{wrong_here}
use Rattle.vq_audit.proofs.playing.play.Goals as goal

pub returns-then-not-can-clause-played : goal.returns-then-not-can-clause-played
returns-then-not-can-clause-played c =
    wrong_here c.args.core.now.plan c.args.events.now c.loop-given.core c.loop-given.given-index _ c.loop-given-test.true
    c.loop-given.invariant.plan c.loop-given.invariant.history c.ordered-course.ensures.course
    (λ can. let may = c.can.ensures.1 can in let not_ = c.if-not-can.true in cc)
