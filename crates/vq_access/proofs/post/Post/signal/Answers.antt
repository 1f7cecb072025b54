use Rattle.vq_turns.specs.declared.task.Task.TheVariants.{Signal}
use Rattle.vq_turns.specs.Turns.{forward}
use Rattle.vq_board.specs.Named.{view}
use Rattle.vq_board_laws.specs.declared.view.OpState.TheVariants.{Unbound as UnboundOp, Bound as BoundOp}
use Rattle.vq_board_laws.specs.PointSteps.{recalls, signals}
use Rattle.vq_access.proofs.Commanding.{signals_may, signals_there, signals_truly}
use Rattle.vq_access.proofs.Looking.{looked_at_op}
use Rattle.vq_access.proofs.Posting.{counts, fits_on, here, seen_by, true_at}
use Rattle.std.proofs.Common.{ap, refl, arith}
use Rattle.vq_actor.specs.Trackers.{Tracked}
use Rattle.vq_access.specs.Lasts.{recent_of}
use Rattle.vq_access.specs.Posts.{lenders_of}
use Rattle.vq_access.proofs.Replies.{moves_step}
use Rattle.vq_actor.specs.Answers.{Is, bound_first}
use Rattle.vq_access.proofs.Making.{shows_signal}
use Rattle.vq_model.specs.declared.plan.Event.TheVariants.{Signal as Signals}
use Rattle.vq_access.proofs.post.Post.signal.Goals as goal

pub signal-requires-clause-exists : goal.signal-requires-clause-exists
signal-requires-clause-exists c =
    signals_there c.args.self.now c.plan-lawful.ensures.read c.plan-lawful.ensures.lawful c.args.op c.requires

pub signal-requires-clause-may : goal.signal-requires-clause-may
signal-requires-clause-may c =
    signals_may c.args.self.now c.plan-lawful.ensures.read c.plan-lawful.ensures.lawful c.args.op c.requires

pub invariant_of-self-clause-places : goal.invariant_of-self-clause-places
invariant_of-self-clause-places c =
    looked_at_op c.args.self.now c.plan-lawful.ensures.read c.plan-lawful.ensures.lawful (view c.signal.new.pass)
    c.args.op UnboundOp c.in-Err.ensures.unbound.2

pub forward-requires : goal.forward-requires
forward-requires c = counts c.args.self.now (Signal c.args.op) c.requires

pub invariant_of-self-2-clause-places : goal.invariant_of-self-2-clause-places
invariant_of-self-2-clause-places c =
    let x = c.args.self.now in
    let made = c.in_default.ensures.signaled in
    true_at x (view c.signal.new.pass) (signals (recalls (seen_by x) c.args.op (BoundOp made.0)) c.args.op made.0 made.1)
    c.forward.new.self (forward (here x)) made.2.2 c.forward.ensures
    (signals_truly x c.plan-lawful.ensures.read c.plan-lawful.ensures.lawful c.args.op made.0 made.1 c.requires)

pub invariant_of-self-2-clause-fits : goal.invariant_of-self-2-clause-fits
invariant_of-self-2-clause-fits c =
    fits_on c.args.self.now (Signal c.args.op) c.requires c.forward.new.self c.forward.ensures

pub returns-clause-answer : goal.returns-clause-answer
returns-clause-answer c =
    let x = c.args.self.now in
    let made = c.in_default.ensures.signaled in
    moves_step (lenders_of x) x.ordered.now x.actor (here x) c.forward.new.self.place (recent_of x.last) (seen_by x)
    (view c.signal.new.pass) (signals (recalls (seen_by x) c.args.op (BoundOp made.0)) c.args.op made.0 made.1)
    x.refused.now made.2.2 (omega arith) refl (Signals c.args.op) refl (forward (here x))
    (ap (λ (t : Tracked). t.place) c.forward.ensures)
    (shows_signal (seen_by x) (view c.signal.new.pass) x.refused.now x.refused.now c.args.op made.0 made.1 made.2.2)
    (λ w. bound_first w (Signals c.args.op) c.args.op) (Is (Signals c.args.op)) refl
