use Rattle.std.proofs.Common.{[], ◌∷◌, refl, sym, subst, ap}
use Rattle.vq_model.specs.declared.script.ActorName.{ActorName}
use Rattle.vq_model.specs.declared.plan.Event.TheVariants.{Look}
use Rattle.vq_point_laws.specs.Points.{CanCome}
use Rattle.vq_turns.specs.declared.outcome.Outcome.TheVariants.{Moved}
use Rattle.vq_turn_laws.specs.TruePlaces.{IsTrueTurn}
use Rattle.vq_actor.specs.Answers.{Is, signaled_or}
use Rattle.vq_actor.specs.Trackers.{Tracked}
use Rattle.vq_actor.specs.Waits.{looked_at}
use Rattle.vq_core.specs.CoreState.{world}
use Rattle.vq_core_run.specs.CoreAccesses.{recent_of}
use Rattle.vq_core_run.proofs.CoreAnswers.{made, signaled_ok, other_emptied}
use Rattle.vq_core_run.proofs.Holding.{held_some}
use Rattle.vq_core_run.proofs.Serving.{turns_look, seated_met}
use Rattle.vq_core_run.proofs.core_access.CoreAccessAccess.look.Goals as goal

pub make-requires : goal.make-requires
make-requires c i =
    let x = c.args.self.now in
    let d = x.core.now in
    let m = c.requires in
    subst (λ (b : ActorName). CanCome d.plan (world d) (Look b c.args.point c.args.op)) (sym m.actor)
    (turns_look d i x.actor x.seat.now x.seated m.needs m.is_next m.waiting m.need c.args.point
    c.args.op m.held (sym c.if-not-is_signaled.ensures)).0

pub meet-requires : goal.meet-requires
meet-requires c none =
    let x = c.args.self.now in
    let m = c.requires in
    held_some m.need x.seat.now.place.holding (record { need = m.need; point = c.args.point; op = c.args.op }) m.held none

pub invariant_of-self-2 : goal.invariant_of-self-2
invariant_of-self-2 c =
    let x = c.args.self.now in
    let d = x.core.now in
    let m = c.requires in
    let turn = turns_look d c.make.ensures.course x.actor x.seat.now x.seated m.needs m.is_next m.waiting m.need
    c.args.point c.args.op m.held (sym c.if-not-is_signaled.ensures) in
    record {
      seated = seated_met d c.make.ensures.course x.actor x.seat.now x.seated m.needs m.is_next c.make.new.core (Look
          c.args.actor c.args.point c.args.op) c.meet.new.self c.make.ensures.made c.meet.ensures (subst (λ (b :
          ActorName). IsTrueTurn d.plan (world d) x.actor (Moved (Look b c.args.point c.args.op)) (looked_at
          x.seat.now.place)) (sym m.actor) turn);
      emptied = other_emptied c.make.new.core;
    }

pub returns-clause-answer : goal.returns-clause-answer
returns-clause-answer c =
    let x = c.args.self.now in
    let d = x.core.now in
    let event = Look c.args.actor c.args.point c.args.op in
    made (x.core.ghost_name ∷ x.seat.ghost_name ∷ []) d x.actor x.seat.now.place (recent_of x.last) c.make.new.core
    c.meet.new.self.place (looked_at x.seat.now.place) (λ w. signaled_or w event c.args.op) (Is event) event
    c.make.ensures.made (ap (λ (t : Tracked). t.place) c.meet.ensures)
    (signaled_ok (world d) event c.args.op c.if-not-is_signaled.ensures) refl
