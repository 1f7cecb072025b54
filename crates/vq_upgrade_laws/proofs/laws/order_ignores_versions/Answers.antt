use Rattle.vq_upgrade_laws.proofs.SameOrder.{same_before, same_fault, same_lawful, same_sure}
use Rattle.vq_upgrade_laws.proofs.laws.order_ignores_versions.Goals as goal

pub returns-clause-before : goal.returns-clause-before
returns-clause-before c v p i j k = (same_before v p.script.version p i j k, same_before p.script.version v p i j k)

pub returns-clause-sure : goal.returns-clause-sure
returns-clause-sure c v p e j k = (same_sure v p.script.version p e j k, same_sure p.script.version v p e j k)

pub returns-clause-faults : goal.returns-clause-faults
returns-clause-faults c v p fault = (same_fault v p.script.version p fault, same_fault p.script.version v p fault)

pub returns-clause-lawful : goal.returns-clause-lawful
returns-clause-lawful c v p = (same_lawful v p.script.version p, same_lawful p.script.version v p)
