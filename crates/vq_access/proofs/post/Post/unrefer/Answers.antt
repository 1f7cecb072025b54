use Rattle.vq_turns.specs.declared.task.Task.TheVariants.{AwaitNeeds}
use Rattle.vq_turns.specs.Programs.{program}
use Rattle.vq_actor.specs.Waits.{given_back}
use Rattle.vq_actor.proofs.Cited.{fits_give_back}
use Rattle.vq_board.specs.Named.{view}
use Rattle.vq_board_laws.specs.PointSteps.{sees, unrefers}
use Rattle.vq_access.proofs.Posting.{counts, here, other_finds, seen_by, true_at}
use Rattle.vq_access.proofs.Waits.{lost_of, gives_there, gives_listed, gives_truly, lost_point}
use Rattle.std.proofs.Common.{ap, refl, arith, Ok}
use Rattle.vq_actor.specs.Trackers.{Tracked}
use Rattle.vq_access.specs.Lasts.{recent_of}
use Rattle.vq_access.specs.Posts.{lenders_of}
use Rattle.vq_access.proofs.Replies.{moves_step}
use Rattle.vq_actor.specs.Answers.{Is}
use Rattle.vq_access.proofs.Making.{shows_unref}
use Rattle.vq_model.specs.declared.plan.Event.TheVariants.{Unref}
use Rattle.vq_access.proofs.post.Post.unrefer.Goals as goal

pub unrefer-requires-clause-exists : goal.unrefer-requires-clause-exists
unrefer-requires-clause-exists c =
    let m = c.requires in
    gives_there c.args.self.now c.plan-lawful.ensures.read c.plan-lawful.ensures.lawful m.needs m.is_next m.need
    c.args.point c.args.op m.rest m.held

pub unrefer-requires-clause-holds : goal.unrefer-requires-clause-holds
unrefer-requires-clause-holds c =
    let m = c.requires in
    gives_listed c.args.self.now c.plan-lawful.ensures.read c.plan-lawful.ensures.lawful m.needs m.is_next m.need
    c.args.point c.args.op m.rest m.held

pub invariant_of-self : goal.invariant_of-self
invariant_of-self c =
    let x = c.args.self.now in
    let lost = c.in-Err.ensures.lost in
    record {
      planned = x.planned;
      of_board = lost_of x c.plan-lawful.ensures.read c.plan-lawful.ensures.lawful c.unrefer.new.pass c.args.point c.in-Err.field-0.found lost;
      locks = x.locks;
      serves = x.serves;
      places = lost_point x c.plan-lawful.ensures.read c.plan-lawful.ensures.lawful c.unrefer.new.pass c.args.point c.in-Err.field-0.found lost;
      fits = x.fits;
      few = x.few;
      finds = other_finds x.ordered.now x.actor (here x);
    }

pub give_back-requires : goal.give_back-requires
give_back-requires c = counts c.args.self.now (AwaitNeeds c.requires.needs) c.requires.is_next

pub invariant_of-self-2-clause-places : goal.invariant_of-self-2-clause-places
invariant_of-self-2-clause-places c =
    let x = c.args.self.now in
    let m = c.requires in
    let given = c.in_default.ensures.given in
    true_at x (view c.unrefer.new.pass) (unrefers (sees (seen_by x) c.args.point given.0) c.args.point c.args.op given.0)
    c.give_back.new.self (given_back (here x) (here x).holding) given.1.2 c.give_back.ensures
    (gives_truly x c.plan-lawful.ensures.read c.plan-lawful.ensures.lawful m.needs m.is_next m.need c.args.point c.args.op
    m.rest m.held given.0 m.met)

pub invariant_of-self-2-clause-fits : goal.invariant_of-self-2-clause-fits
invariant_of-self-2-clause-fits c =
    let x = c.args.self.now in
    fits_give_back (program x.ordered.now x.actor) x.seat.now (AwaitNeeds c.requires.needs) c.requires.is_next x.fits
    c.give_back.new.self c.give_back.ensures

pub returns-clause-answer : goal.returns-clause-answer
returns-clause-answer c =
    let x = c.args.self.now in
    let given = c.in_default.ensures.given in
    moves_step (lenders_of x) x.ordered.now x.actor (here x) c.give_back.new.self.place (recent_of x.last) (seen_by x)
    (view c.unrefer.new.pass) (unrefers (sees (seen_by x) c.args.point given.0) c.args.point c.args.op given.0)
    x.refused.now given.1.2 (omega arith) refl (Unref c.args.actor c.args.point c.args.op) refl
    (given_back (here x) (here x).holding) (ap (λ (t : Tracked). t.place) c.give_back.ensures)
    (shows_unref (seen_by x) (view c.unrefer.new.pass) x.refused.now x.refused.now c.args.actor c.args.point
    c.args.op given.0 given.1.2) (λ w. Ok (Unref c.args.actor c.args.point c.args.op))
    (Is (Unref c.args.actor c.args.point c.args.op)) refl
