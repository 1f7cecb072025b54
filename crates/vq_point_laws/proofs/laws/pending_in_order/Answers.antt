use Rattle.vq_point_laws.proofs.PendingLaws.{keeps_pending_law}
use Rattle.vq_point_laws.proofs.laws.pending_in_order.Goals as goal

pub returns : goal.returns
returns c p w events h = keeps_pending_law p w events h
