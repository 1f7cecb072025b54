use Rattle.std.proofs.Common.{length, take}
use Rattle.vq_history_laws.specs.Histories.{points_after}
use Rattle.vq_core.specs.Answered.{AreAnswers}
use Rattle.vq_core.proofs.answer_room.note_all.Given as goal

abbrev pub invariant-loop-event : goal.invariant-loop-event
invariant-loop-event l = AreAnswers (points_after l.core.plan (take l.event-index l.core.history))
    (length l.core.plan.jobs) l.given.items
