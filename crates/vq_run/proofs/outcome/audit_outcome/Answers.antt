use Rattle.std.proofs.Common.{sym, subst}
use Rattle.vq_run.specs.declared.outcome.Reply.{Reply}
use Rattle.vq_run.specs.Outcomes.{IsOutcome}
use Rattle.vq_run.proofs.Endings.{audits, is_cut_for, trace_came}
use Rattle.vq_run.proofs.outcome.audit_outcome.Goals as goal

pub trace_outcome-requires-clause-cut : goal.trace_outcome-requires-clause-cut
trace_outcome-requires-clause-cut c =
    let reading = c.in_ok-ordered.ensures c.args.task c.args.input.now c.requires.short c.in_ok-scripted.ensures in
    let plan = rw c.in-Lawful.is at reading in
    is_cut_for c.args.task c.args.input.now _ _ _ plan c.requires.traced

pub returns-in-Lawful : goal.returns-in-Lawful
returns-in-Lawful c =
    let reading = c.in_ok-ordered.ensures c.args.task c.args.input.now c.requires.short c.in_ok-scripted.ensures in
    let plan = rw c.in-Lawful.is at reading in
    trace_came c.args.task c.args.input.now _ _ _ plan (audits c.args.task c.requires.traced) c.trace_outcome.result
    c.trace_outcome.ensures

pub returns : goal.returns
returns c =
    let reading = c.in_ok-ordered.ensures c.args.task c.args.input.now c.requires.short c.in_ok-scripted.ensures in
    subst (λ (o : Reply). IsOutcome c.args.task c.args.input.now o.status o.text.items) (sym c.refused.ensures)
    (rw c.in-Refused.is at reading)
