use Rattle.vq_turns.specs.declared.task.Task.TheVariants.{Start}
use Rattle.vq_turns.specs.Turns.{forward}
use Rattle.vq_board.specs.Named.{view}
use Rattle.vq_board_laws.specs.Steps.{starts}
use Rattle.vq_access.proofs.Jobbing.{starts_may, starts_truly}
use Rattle.vq_access.proofs.Posting.{counts, fits_on, here, seen_by, true_at}
use Rattle.std.proofs.Common.{ap, refl, arith}
use Rattle.vq_actor.specs.Trackers.{Tracked}
use Rattle.vq_access.specs.Lasts.{recent_of}
use Rattle.vq_access.specs.Posts.{lenders_of}
use Rattle.vq_access.proofs.Replies.{makes_step}
use Rattle.vq_access.proofs.Making.{shows_start}
use Rattle.vq_model.specs.declared.plan.Event.TheVariants.{Start as StartEvent}
use Rattle.vq_access.proofs.post.Post.start.Goals as goal

pub start-requires-clause-may : goal.start-requires-clause-may
start-requires-clause-may c =
    starts_may c.args.self.now c.plan-lawful.ensures.read c.plan-lawful.ensures.lawful c.args.job c.requires

pub forward-requires : goal.forward-requires
forward-requires c = counts c.args.self.now (Start c.args.job) c.requires

pub invariant_of-self-clause-places : goal.invariant_of-self-clause-places
invariant_of-self-clause-places c =
    let x = c.args.self.now in
    true_at x (view c.start.new.pass) (starts (seen_by x) c.args.job) c.forward.new.self (forward (here x))
    c.start.ensures.pass.2 c.forward.ensures
    (starts_truly x c.plan-lawful.ensures.read c.plan-lawful.ensures.lawful c.args.job c.requires)

pub invariant_of-self-clause-fits : goal.invariant_of-self-clause-fits
invariant_of-self-clause-fits c =
    fits_on c.args.self.now (Start c.args.job) c.requires c.forward.new.self c.forward.ensures

pub returns : goal.returns
returns c =
    let x = c.args.self.now in
    makes_step (lenders_of x) x.ordered.now x.actor (here x) c.forward.new.self.place (recent_of x.last) (seen_by x)
    (view c.start.new.pass) (starts (seen_by x) c.args.job) x.refused.now c.start.ensures.pass.2 (omega arith) refl
    (StartEvent c.args.job) refl (forward (here x)) (ap (λ (t : Tracked). t.place) c.forward.ensures)
    (shows_start (seen_by x) (view c.start.new.pass) x.refused.now x.refused.now c.args.job c.start.ensures.pass.2)
