use Rattle.std.proofs.Common.{subst, sym}
use Rattle.vq_run.specs.declared.outcome.Reply.{Reply}
use Rattle.vq_run.specs.Outcomes.{IsOutcome}
use Rattle.vq_run.proofs.Endings.{holds_read, lawful_done, runs_answer}
use Rattle.vq_run.proofs.outcome.run_outcome.Goals as goal

pub read_plan-requires : goal.read_plan-requires
read_plan-requires g c = holds_read _ _ _ c.in_ok-scripted.ensures

pub returns-in-Lawful : goal.returns-in-Lawful
returns-in-Lawful g c =
    let reading = c.in_ok-ordered.ensures c.args.task c.args.input.items c.requires.short (rw c.as_slice.ensures.value at c.in_ok-scripted.ensures) in
    let plan = rw c.in-Lawful.is at reading in
    subst (λ (o : Reply). IsOutcome c.args.task c.args.input.items o.status o.text.items) (sym c.done.ensures)
    (lawful_done _ _ _ _ _ plan _ (runs_answer _ _ _ _ _ _ c.requires.runs plan c.in_ok-text-in-Lawful.ensures))

pub returns : goal.returns
returns g c =
    let reading = c.in_ok-ordered.ensures c.args.task c.args.input.items c.requires.short (rw c.as_slice.ensures.value at c.in_ok-scripted.ensures) in
    subst (λ (o : Reply). IsOutcome c.args.task c.args.input.items o.status o.text.items) (sym c.refused.ensures)
    (rw c.in-Refused.is at reading)
