use Rattle.std.proofs.Common.{◌∙◌}
use Rattle.vq_trace.proofs.Lookups.{semaphore_exists}
use Rattle.vq_trace.proofs.index.Index.op.Goals as goal

pub op_in-requires-clause-exists : goal.op_in-requires-clause-exists
op_in-requires-clause-exists c =
    semaphore_exists c.args.plan.now c.requires.plan c.args.name.now c.in_ok-chain.chain
    (c.in_ok-chain.ensures ∙ c.requires.semaphores c.args.name.now)
