use Rattle.std.proofs.Common.{sym, subst}
use Rattle.vq_run.specs.declared.outcome.Reply.{Reply}
use Rattle.vq_run.specs.Outcomes.{AnswersTask, IsOutcome}
use Rattle.vq_run.specs.Readings.{ArePlayable}
use Rattle.vq_run.proofs.Endings.{lawful_done, lawful_playable}
use Rattle.vq_run.proofs.outcome.still_outcome.Goals as goal

pub still_text-requires-clause-playable : goal.still_text-requires-clause-playable
still_text-requires-clause-playable c =
    let reading = c.in_ok-ordered.ensures c.args.task c.args.input.items c.requires.short (rw c.as_slice-2.ensures.value at c.in_ok-scripted.ensures) in
    let plan = rw c.in-Lawful.is at reading in
    subst (ArePlayable c.in-Lawful.ordered.script) (sym c.as_slice-turns.ensures)
    (lawful_playable c.args.task c.args.input.items _ _ _ plan)

pub returns-in-Lawful : goal.returns-in-Lawful
returns-in-Lawful c =
    let reading = c.in_ok-ordered.ensures c.args.task c.args.input.items c.requires.short (rw c.as_slice-2.ensures.value at c.in_ok-scripted.ensures) in
    let plan = rw c.in-Lawful.is at reading in
    subst (λ (o : Reply). IsOutcome c.args.task c.args.input.items o.status o.text.items) (sym c.done.ensures)
    (lawful_done c.args.task c.args.input.items _ _ _ plan _
    (subst (λ ts. AnswersTask c.args.task c.args.input.items c.in-Lawful.ordered ts c.in-Lawful.from c.in_ok-text-in-Lawful.text.items)
    c.as_slice-turns.ensures (c.in_ok-text-in-Lawful.ensures c.args.input.items c.in-Lawful.from)))

pub returns : goal.returns
returns c =
    let reading = c.in_ok-ordered.ensures c.args.task c.args.input.items c.requires.short (rw c.as_slice-2.ensures.value at c.in_ok-scripted.ensures) in
    subst (λ (o : Reply). IsOutcome c.args.task c.args.input.items o.status o.text.items) (sym c.refused.ensures)
    (rw c.in-Refused.is at reading)
