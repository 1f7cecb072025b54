use Rattle.vq_history_laws.specs.Histories.{points_after}
use Rattle.vq_history_laws.proofs.Measure.{history_counted, history_reaches, rises}
use Rattle.vq_history_laws.proofs.laws.each_event_is_one_act.Goals as goal

pub returns-clause-counted : goal.returns-clause-counted
returns-clause-counted c = history_counted

pub returns-clause-next : goal.returns-clause-next
returns-clause-next c p wf events h x can =
    let r = history_reaches p events h in
    rises p wf r.past (points_after p events) r.links r.facts x can
