use Rattle.vq_spec.proofs.uses.use_batch.Goals as goal

pub use_mark-requires-clause-exists : goal.use_mark-requires-clause-exists
use_mark-requires-clause-exists c = (c.requires.valid.fence c.in-Some.fence c.in-Some.is).exists
