use Rattle.vq_turns.specs.declared.task.Task.TheVariants.{Submit}
use Rattle.vq_turns.specs.Turns.{forward}
use Rattle.vq_board.specs.Named.{view}
use Rattle.vq_board_laws.specs.Steps.{submits}
use Rattle.vq_access.proofs.Jobbing.{submits_may, submits_truly}
use Rattle.vq_access.proofs.Posting.{counts, fits_on, here, seen_by, true_at}
use Rattle.std.proofs.Common.{ap, refl, arith}
use Rattle.vq_actor.specs.Trackers.{Tracked}
use Rattle.vq_access.specs.Lasts.{recent_of}
use Rattle.vq_access.specs.Posts.{lenders_of}
use Rattle.vq_access.proofs.Replies.{makes_step}
use Rattle.vq_access.proofs.Making.{shows_submit}
use Rattle.vq_model.specs.declared.plan.Event.TheVariants.{Submit as SubmitEvent}
use Rattle.vq_access.proofs.post.Post.submit.Goals as goal

pub submit-requires-clause-may : goal.submit-requires-clause-may
submit-requires-clause-may c =
    submits_may c.args.self.now c.plan-lawful.ensures.read c.plan-lawful.ensures.lawful c.args.job c.requires

pub forward-requires : goal.forward-requires
forward-requires c = counts c.args.self.now (Submit c.args.job) c.requires

pub invariant_of-self-clause-places : goal.invariant_of-self-clause-places
invariant_of-self-clause-places c =
    let x = c.args.self.now in
    true_at x (view c.submit.new.pass) (submits (seen_by x) c.args.job) c.forward.new.self (forward (here x))
    c.submit.ensures.pass.2 c.forward.ensures
    (submits_truly x c.plan-lawful.ensures.read c.plan-lawful.ensures.lawful c.args.job c.requires)

pub invariant_of-self-clause-fits : goal.invariant_of-self-clause-fits
invariant_of-self-clause-fits c =
    fits_on c.args.self.now (Submit c.args.job) c.requires c.forward.new.self c.forward.ensures

pub returns : goal.returns
returns c =
    let x = c.args.self.now in
    makes_step (lenders_of x) x.ordered.now x.actor (here x) c.forward.new.self.place (recent_of x.last) (seen_by x)
    (view c.submit.new.pass) (submits (seen_by x) c.args.job) x.refused.now c.submit.ensures.pass.2 (omega arith) refl
    (SubmitEvent c.args.job) refl (forward (here x)) (ap (λ (t : Tracked). t.place) c.forward.ensures)
    (shows_submit (seen_by x) (view c.submit.new.pass) x.refused.now x.refused.now c.args.job c.submit.ensures.pass.2)
