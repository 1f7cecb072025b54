use Rattle.std.proofs.Common.{◌<◌, length}
use Rattle.vq_turns.specs.declared.task.Task.TheVariants.{Answer}
use Rattle.vq_turns.specs.Programs.{program}
use Rattle.vq_actor.specs.Answers.{answered}
use Rattle.vq_actor.proofs.Cited.{fits_answer}
use Rattle.vq_board.specs.Named.{view}
use Rattle.vq_board_laws.specs.PointSteps.{answers}
use Rattle.vq_access.proofs.Existing.{answer_exists}
use Rattle.vq_access.proofs.Posting.{counts, here, of_board_plan, seen_by, true_at}
use Rattle.vq_access.proofs.Telling.{answers_may, answers_truly}
use Rattle.vq_access.proofs.post.Post.answer.Goals as goal

pub answer-requires-clause-exists : goal.answer-requires-clause-exists
answer-requires-clause-exists c =
    let x = c.args.self.now in
    of_board_plan x (λ p. c.args.job < length p.jobs)
    (answer_exists x.ordered.now c.plan-lawful.ensures.read c.plan-lawful.ensures.lawful x.actor x.seat.now.place.done c.args.job c.requires.asks c.requires.is_next)

pub answer-requires-clause-may : goal.answer-requires-clause-may
answer-requires-clause-may c =
    let m = c.requires in
    answers_may c.args.self.now c.plan-lawful.ensures.read c.plan-lawful.ensures.lawful c.args.job m.asks m.is_next c.args.answer m.by_seen

pub answer-requires-2 : goal.answer-requires-2
answer-requires-2 c = counts c.args.self.now (Answer c.args.job c.requires.asks) c.requires.is_next

pub invariant_of-self-clause-places : goal.invariant_of-self-clause-places
invariant_of-self-clause-places c =
    let x = c.args.self.now in
    let m = c.requires in
    true_at x (view c.answer.new.pass) (answers (seen_by x) c.args.job c.args.answer) c.answer-2.new.self
    (answered (here x)) c.answer.ensures.pass.2 c.answer-2.ensures
    (answers_truly x c.plan-lawful.ensures.read c.plan-lawful.ensures.lawful c.args.job m.asks m.is_next c.args.answer)

pub invariant_of-self-clause-fits : goal.invariant_of-self-clause-fits
invariant_of-self-clause-fits c =
    let x = c.args.self.now in
    fits_answer (program x.ordered.now x.actor) x.seat.now (Answer c.args.job c.requires.asks) c.requires.is_next x.fits
    c.answer-2.new.self c.answer-2.ensures
