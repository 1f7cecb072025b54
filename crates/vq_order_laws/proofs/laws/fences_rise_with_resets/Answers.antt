use Rattle.vq_order_laws.proofs.ResetChains.{counted_rises}
use Rattle.vq_order_laws.proofs.LawfulOrder.{script_has_sure_order}
use Rattle.vq_order_laws.proofs.laws.fences_rise_with_resets.Goals as goal

pub returns-clause-chains : goal.returns-clause-chains
returns-clause-chains c s v bs hs r faultless reach unordered resettable t timeline = counted_rises s v bs hs r faultless reach unordered resettable t timeline

pub returns-clause-order : goal.returns-clause-order
returns-clause-order c s v bs hs r faultless l = script_has_sure_order s v bs hs r faultless l
