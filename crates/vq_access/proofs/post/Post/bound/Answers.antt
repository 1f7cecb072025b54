use Rattle.vq_turns.specs.declared.task.Task.TheVariants.{AwaitBound}
use Rattle.vq_turns.specs.Turns.{forward}
use Rattle.vq_board.specs.Named.{view}
use Rattle.vq_board_laws.specs.PointSteps.{recalls}
use Rattle.vq_access.proofs.Looking.{bound_is_there, looked_at_op, saw_bound}
use Rattle.vq_access.proofs.Posting.{counts, fits_on, here, seen_by, true_at}
use Rattle.vq_access.proofs.post.Post.bound.Goals as goal

pub recall-requires-clause-exists : goal.recall-requires-clause-exists
recall-requires-clause-exists c =
    bound_is_there c.args.self.now c.plan-lawful.ensures.read c.plan-lawful.ensures.lawful c.args.op c.requires

pub invariant_of-self-clause-places : goal.invariant_of-self-clause-places
invariant_of-self-clause-places c =
    looked_at_op c.args.self.now c.plan-lawful.ensures.read c.plan-lawful.ensures.lawful (view c.recall.new.pass) c.args.op
    c.recall.result c.recall.ensures.pass.2

pub forward-requires : goal.forward-requires
forward-requires c = counts c.args.self.now (AwaitBound c.args.op) c.requires

pub invariant_of-self-in_default-clause-places : goal.invariant_of-self-in_default-clause-places
invariant_of-self-in_default-clause-places c =
    let x = c.args.self.now in
    true_at x (view c.recall.new.pass) (recalls (seen_by x) c.args.op c.recall.result) c.forward.new.self
    (forward (here x)) c.recall.ensures.pass.2 c.forward.ensures
    (saw_bound x c.plan-lawful.ensures.read c.plan-lawful.ensures.lawful c.args.op c.recall.result c.requires
    c.in_default.not-Unbound)

pub invariant_of-self-in_default-clause-fits : goal.invariant_of-self-in_default-clause-fits
invariant_of-self-in_default-clause-fits c =
    fits_on c.args.self.now (AwaitBound c.args.op) c.requires c.forward.new.self c.forward.ensures
