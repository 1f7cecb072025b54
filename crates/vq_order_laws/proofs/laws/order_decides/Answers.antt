use Rattle.vq_order_laws.proofs.Decides.{before_decides, sure_decides}
use Rattle.vq_order_laws.proofs.laws.order_decides.Goals as goal

pub returns-clause-before : goal.returns-clause-before
returns-clause-before c p i j k = before_decides p i j k

pub returns-clause-sure : goal.returns-clause-sure
returns-clause-sure c p e j k = sure_decides p e j k
