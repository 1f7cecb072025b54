use Rattle.std.proofs.Common.{[], ◌∷◌, refl, sym, ap}
use Rattle.vq_model.specs.declared.plan.Event.TheVariants.{Signal}
use Rattle.vq_turns.specs.declared.task.Task.TheVariants.{Signal as Next}
use Rattle.vq_turns.specs.Turns.{forward}
use Rattle.vq_actor.specs.Answers.{Is, bound_first}
use Rattle.vq_actor.specs.Trackers.{Tracked}
use Rattle.vq_core_run.specs.CoreAccesses.{recent_of}
use Rattle.vq_core.specs.CoreState.{world}
use Rattle.vq_core_run.proofs.CoreAnswers.{made, bound_ok, other_emptied}
use Rattle.vq_core_run.proofs.Serving.{turns_signal, counts, seated_next}
use Rattle.vq_core_run.proofs.core_access.CoreAccessAccess.signal.Goals as goal

pub make-requires : goal.make-requires
make-requires c i =
    let x = c.args.self.now in
    (turns_signal x.core.now i x.actor x.seat.now x.seated c.args.op
    (sym c.if-not-is_bound.ensures) c.requires).0

pub forward-requires : goal.forward-requires
forward-requires c =
    let x = c.args.self.now in
    counts x.core.now c.make.ensures.course x.actor x.seat.now x.seated (Next c.args.op) c.requires

pub invariant_of-self-2 : goal.invariant_of-self-2
invariant_of-self-2 c =
    let x = c.args.self.now in
    let d = x.core.now in
    let event = Signal c.args.op in
    let turn = turns_signal d c.make.ensures.course x.actor x.seat.now x.seated c.args.op (sym c.if-not-is_bound.ensures)
    c.requires in
    record {
      seated = seated_next d c.make.ensures.course x.actor x.seat.now x.seated (Next c.args.op) c.requires refl
          c.make.new.core event c.forward.new.self c.make.ensures.made c.forward.ensures turn;
      emptied = other_emptied c.make.new.core;
    }

pub returns-clause-answer : goal.returns-clause-answer
returns-clause-answer c =
    let x = c.args.self.now in
    let d = x.core.now in
    let event = Signal c.args.op in
    made (x.core.ghost_name ∷ x.seat.ghost_name ∷ []) d x.actor x.seat.now.place (recent_of x.last) c.make.new.core
    c.forward.new.self.place (forward x.seat.now.place) (λ w. bound_first w event c.args.op) (Is event) event
    c.make.ensures.made (ap (λ (t : Tracked). t.place) c.forward.ensures)
    (bound_ok (world d) event c.args.op c.if-not-is_bound.ensures) refl
