use Rattle.vq_order_laws.proofs.EdgeReasons.{edge_of, of_edge}
use Rattle.vq_order_laws.proofs.laws.edges_have_reasons.Goals as goal

pub returns : goal.returns
returns c p i j k = (edge_of p i j k, of_edge p i j k)
