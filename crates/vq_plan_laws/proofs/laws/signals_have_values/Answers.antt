use Rattle.vq_plan_laws.proofs.SignalValues.{timeline_value, counted_value}
use Rattle.vq_plan_laws.proofs.laws.signals_have_values.Goals as goal

pub returns-clause-timeline : goal.returns-clause-timeline
returns-clause-timeline c s e x h t = timeline_value s e x h t

pub returns-clause-counted : goal.returns-clause-counted
returns-clause-counted c s e x h t = counted_value s e x h t
