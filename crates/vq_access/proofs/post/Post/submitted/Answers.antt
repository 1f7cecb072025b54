use Rattle.vq_turns.specs.declared.task.Task.TheVariants.{AwaitSubmitted}
use Rattle.vq_turns.specs.Turns.{forward}
use Rattle.vq_board.specs.Named.{view}
use Rattle.vq_board_laws.specs.Steps.{looks}
use Rattle.vq_access.proofs.Looking.{looked_at_job, not_waiting, saw_submitted, submitted_is_there}
use Rattle.vq_access.proofs.Posting.{counts, fits_on, here, seen_by, true_at}
use Rattle.vq_access.proofs.post.Post.submitted.Goals as goal

pub job_state-requires-clause-exists : goal.job_state-requires-clause-exists
job_state-requires-clause-exists c =
    submitted_is_there c.args.self.now c.plan-lawful.ensures.read c.plan-lawful.ensures.lawful c.args.job c.requires

pub invariant_of-self-clause-places : goal.invariant_of-self-clause-places
invariant_of-self-clause-places c =
    looked_at_job c.args.self.now c.plan-lawful.ensures.read c.plan-lawful.ensures.lawful (view c.job_state.new.pass) c.args.job
    c.job_state.result c.job_state.ensures.pass.2

pub forward-requires : goal.forward-requires
forward-requires c = counts c.args.self.now (AwaitSubmitted c.args.job) c.requires

pub invariant_of-self-in_default-clause-places : goal.invariant_of-self-in_default-clause-places
invariant_of-self-in_default-clause-places c =
    let x = c.args.self.now in
    true_at x (view c.job_state.new.pass) (looks (seen_by x) c.args.job c.job_state.result) c.forward.new.self
    (forward (here x)) c.job_state.ensures.pass.2 c.forward.ensures
    (saw_submitted x c.plan-lawful.ensures.read c.plan-lawful.ensures.lawful c.args.job c.job_state.result c.requires
    (not_waiting c.job_state.result c.in_default.not-Waiting))

pub invariant_of-self-in_default-clause-fits : goal.invariant_of-self-in_default-clause-fits
invariant_of-self-in_default-clause-fits c =
    fits_on c.args.self.now (AwaitSubmitted c.args.job) c.requires c.forward.new.self c.forward.ensures
