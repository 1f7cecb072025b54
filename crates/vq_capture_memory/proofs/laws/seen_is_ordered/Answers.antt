use Rattle.vq_capture_memory.proofs.SeenIsOrdered.{seen_is_ordered}
use Rattle.vq_capture_memory.proofs.laws.seen_is_ordered.Goals as goal

pub returns : goal.returns
returns c steps a b s = seen_is_ordered steps a b s
