use Rattle.vq_core_run.proofs.Beyond.{chain_there}
use Rattle.vq_core_run.proofs.looks.taken.Goals as goal

pub next_taken-requires : goal.next_taken-requires
next_taken-requires c =
    chain_there c.args.core.now.plan c.ordered.ensures.course.read c.args.op c.args.chain c.requires
