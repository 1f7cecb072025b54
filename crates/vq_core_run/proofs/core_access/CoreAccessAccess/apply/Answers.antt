use Rattle.std.proofs.Common.{[], ◌∷◌, Ok, refl, ap}
use Rattle.vq_model.specs.declared.plan.Event.TheVariants.{Apply}
use Rattle.vq_turns.specs.declared.task.Task.TheVariants.{Apply as Next}
use Rattle.vq_turns.specs.Turns.{forward}
use Rattle.vq_actor.specs.Answers.{Is}
use Rattle.vq_actor.specs.Trackers.{Tracked}
use Rattle.vq_core_run.specs.CoreAccesses.{recent_of}
use Rattle.vq_core_run.proofs.CoreAnswers.{made, other_emptied}
use Rattle.vq_core_run.proofs.Serving.{turns_apply, counts, seated_next}
use Rattle.vq_core_run.proofs.core_access.CoreAccessAccess.apply.Goals as goal

pub make-requires : goal.make-requires
make-requires c i =
    let x = c.args.self.now in
    (turns_apply x.core.now i x.actor x.seat.now x.seated c.args.job c.args.command c.requires).0

pub forward-requires : goal.forward-requires
forward-requires c =
    let x = c.args.self.now in
    counts x.core.now c.make.ensures.course x.actor x.seat.now x.seated (Next c.args.job c.args.command) c.requires

pub invariant_of-self : goal.invariant_of-self
invariant_of-self c =
    let x = c.args.self.now in
    let d = x.core.now in
    let event = Apply c.args.job c.args.command in
    let turn = turns_apply d c.make.ensures.course x.actor x.seat.now x.seated c.args.job c.args.command c.requires in
    record {
      seated = seated_next d c.make.ensures.course x.actor x.seat.now x.seated (Next c.args.job c.args.command) c.requires
          refl c.make.new.core event c.forward.new.self c.make.ensures.made c.forward.ensures turn;
      emptied = other_emptied c.make.new.core;
    }

pub returns-clause-answer : goal.returns-clause-answer
returns-clause-answer c =
    let x = c.args.self.now in
    let event = Apply c.args.job c.args.command in
    made (x.core.ghost_name ∷ x.seat.ghost_name ∷ []) x.core.now x.actor x.seat.now.place (recent_of x.last)
    c.make.new.core c.forward.new.self.place (forward x.seat.now.place) (λ w. Ok event) (Is event) event
    c.make.ensures.made (ap (λ (t : Tracked). t.place) c.forward.ensures) refl refl
