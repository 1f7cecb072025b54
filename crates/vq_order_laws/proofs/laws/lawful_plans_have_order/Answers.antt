use Rattle.vq_order_laws.proofs.RowLaws.{rows_order_commands, rows_order_timelines}
use Rattle.vq_order_laws.proofs.LawfulOrder.{plan_chains, plan_has_sure_order}
use Rattle.vq_order_laws.proofs.laws.lawful_plans_have_order.Goals as goal

pub returns-clause-commands : goal.returns-clause-commands
returns-clause-commands c p free = rows_order_commands p free

pub returns-clause-timelines : goal.returns-clause-timelines
returns-clause-timelines c p w ordered t timeline = rows_order_timelines p w ordered t timeline

pub returns-clause-counted : goal.returns-clause-counted
returns-clause-counted c p i reach unordered free t timeline = plan_chains p i reach unordered free t timeline

pub returns-clause-order : goal.returns-clause-order
returns-clause-order c p w l = plan_has_sure_order p w l
