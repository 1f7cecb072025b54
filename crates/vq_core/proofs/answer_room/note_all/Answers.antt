use Rattle.std.proofs.Common.{length, sym, subst, take, List, ◌+◌}
use Rattle.vq_model.specs.declared.plan.Event.{Event}
use Rattle.vq_history_laws.specs.Histories.{points_after}
use Rattle.vq_core.specs.Answered.{AreAnswers}
use Rattle.vq_core.proofs.AnswersKept.{noted_next}
use Rattle.vq_core.proofs.answer_room.note_all.Goals as goal

pub loop-event-preserved : goal.loop-event-preserved
loop-event-preserved c =
    let d = c.args.core.now in
    let i = c.loop-event.event-index in
    let n = length d.plan.jobs in
    let es = c.history-event-items.result.now in
    let is = c.history-event-items.ensures.events in
    subst (λ (xs : List Event). AreAnswers (points_after d.plan (take (i + 1) xs)) n c.note.new.given.items) is
    (noted_next d.plan n es i _ c.loop-event.given.items c.note.new.given.items c.loop-event-test.true
    (subst (λ (xs : List Event). AreAnswers (points_after d.plan (take i xs)) n c.loop-event.given.items) (sym is)
    c.loop-event.invariant)
    c.note.ensures)
