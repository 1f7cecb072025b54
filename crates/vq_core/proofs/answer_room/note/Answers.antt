use Rattle.std.proofs.Common.{Some, length, refl, sym, subst, ◌≤◌, slice_set, arith, ap}
use Rattle.vq_model.specs.declared.plan.Event.{Event}
use Rattle.vq_point_laws.specs.Points.{after_event}
use Rattle.vq_core.specs.Answered.{AreAnswers}
use Rattle.vq_core.proofs.AnswersKept.{noted, unnoted}
use Rattle.vq_core.proofs.answer_room.note.Goals as goal

pub returns-then-job-as_slice : goal.returns-then-job-as_slice
returns-then-job-as_slice c p w n k =
    let given = c.args.given.now.items in
    let more = slice_set given c.in-Answer.job (Some c.in-Answer.answer) in
    subst (λ (e : Event). AreAnswers (after_event p w e) n more) (sym c.in-Answer.is)
    (noted p w n given k c.in-Answer.job c.in-Answer.answer more refl)

pub returns-else-job-as_slice : goal.returns-else-job-as_slice
returns-else-job-as_slice c p w n k =
    let given = c.args.given.now.items in
    let h = c.if-job-as_slice.false in
    let same = ap length c.as_slice.ensures.value in
    let past : length given ≤ c.in-Answer.job = omega arith in
    subst (λ (e : Event). AreAnswers (after_event p w e) n given) (sym c.in-Answer.is)
    (unnoted p w n given k c.in-Answer.job c.in-Answer.answer past)
