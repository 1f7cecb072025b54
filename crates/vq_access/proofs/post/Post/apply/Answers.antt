use Rattle.vq_turns.specs.declared.task.Task.TheVariants.{Apply}
use Rattle.vq_turns.specs.Turns.{forward}
use Rattle.vq_board.specs.Named.{view}
use Rattle.vq_board_laws.specs.Steps.{takes_turn, gives_turn, enters}
use Rattle.vq_access.proofs.Commanding.{enters_may, enters_there, runs_here, enters_truly, missed_turn}
use Rattle.vq_access.proofs.Posting.{counts, fits_on, here, seen_by, true_at}
use Rattle.std.proofs.Common.{ap, refl, arith, Ok}
use Rattle.vq_actor.specs.Trackers.{Tracked}
use Rattle.vq_access.specs.Lasts.{recent_of}
use Rattle.vq_access.specs.Posts.{lenders_of}
use Rattle.vq_access.proofs.Replies.{moves_step}
use Rattle.vq_actor.specs.Answers.{Is}
use Rattle.vq_access.proofs.Making.{shows_apply}
use Rattle.vq_model.specs.declared.plan.Event.TheVariants.{Apply as Applies}
use Rattle.vq_access.proofs.post.Post.apply.Goals as goal

pub enter-requires-clause-exists : goal.enter-requires-clause-exists
enter-requires-clause-exists c =
    enters_there c.args.self.now c.plan-lawful.ensures.read c.plan-lawful.ensures.lawful c.args.job c.args.command
    c.requires

pub enter-requires-clause-runs : goal.enter-requires-clause-runs
enter-requires-clause-runs c = (
  c.args.job,
  (runs_here c.args.self.now c.plan-lawful.ensures.read c.plan-lawful.ensures.lawful c.args.job c.args.command
      c.requires).0,
)

pub enter-requires-clause-turnless : goal.enter-requires-clause-turnless
enter-requires-clause-turnless c =
    (runs_here c.args.self.now c.plan-lawful.ensures.read c.plan-lawful.ensures.lawful c.args.job c.args.command
    c.requires).1

pub enter-requires-clause-may : goal.enter-requires-clause-may
enter-requires-clause-may c =
    enters_may c.args.self.now c.plan-lawful.ensures.read c.plan-lawful.ensures.lawful c.args.job c.args.command
    c.requires

pub invariant_of-self-clause-places : goal.invariant_of-self-clause-places
invariant_of-self-clause-places c =
    let missed = c.enter.ensures.missed c.if-not-enter.true in
    missed_turn c.args.self.now c.plan-lawful.ensures.read c.plan-lawful.ensures.lawful (view c.enter.new.pass) missed.0
    missed.2

pub forward-requires : goal.forward-requires
forward-requires c = counts c.args.self.now (Apply c.args.job c.args.command) c.requires

pub invariant_of-self-2-clause-places : goal.invariant_of-self-2-clause-places
invariant_of-self-2-clause-places c =
    let x = c.args.self.now in
    let made = c.enter.ensures.entered c.if-not-enter.false in
    true_at x (view c.enter.new.pass) (gives_turn (enters (takes_turn (seen_by x) made.0 made.1) c.args.command made.0
    made.2)) c.forward.new.self (forward (here x)) made.3 c.forward.ensures
    (enters_truly x c.plan-lawful.ensures.read c.plan-lawful.ensures.lawful c.args.job c.args.command c.requires made.0
    made.0 made.1 made.2)

pub invariant_of-self-2-clause-fits : goal.invariant_of-self-2-clause-fits
invariant_of-self-2-clause-fits c =
    fits_on c.args.self.now (Apply c.args.job c.args.command) c.requires c.forward.new.self c.forward.ensures

pub returns-clause-answer : goal.returns-clause-answer
returns-clause-answer c =
    let x = c.args.self.now in
    let made = c.enter.ensures.entered c.if-not-enter.false in
    let runs = (runs_here x c.plan-lawful.ensures.read c.plan-lawful.ensures.lawful c.args.job c.args.command
    c.requires).0 in
    moves_step (lenders_of x) x.ordered.now x.actor (here x) c.forward.new.self.place (recent_of x.last) (seen_by x)
    (view c.enter.new.pass) (gives_turn (enters (takes_turn (seen_by x) made.0 made.1) c.args.command made.0 made.2))
    x.refused.now made.3 (omega arith) refl (Applies c.args.job c.args.command) refl (forward (here x))
    (ap (λ (t : Tracked). t.place) c.forward.ensures)
    (shows_apply (seen_by x) (view c.enter.new.pass) x.refused.now x.refused.now c.args.job c.args.command made.0
    made.1 made.2 runs made.3) (λ w. Ok (Applies c.args.job c.args.command)) (Is (Applies c.args.job c.args.command)) refl
