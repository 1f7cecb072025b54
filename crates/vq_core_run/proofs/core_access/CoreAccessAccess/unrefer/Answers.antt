use Rattle.std.proofs.Common.{[], ◌∷◌, Ok, refl, sym, subst, ap}
use Rattle.vq_model.specs.declared.script.ActorName.{ActorName}
use Rattle.vq_model.specs.declared.plan.Event.TheVariants.{Unref}
use Rattle.vq_point_laws.specs.Points.{CanCome}
use Rattle.vq_turns.specs.declared.look.Holding.{Holding}
use Rattle.vq_turns.specs.declared.outcome.Outcome.TheVariants.{Moved}
use Rattle.vq_turns.specs.declared.task.Task.TheVariants.{AwaitNeeds}
use Rattle.vq_turns.specs.Turns.{without_first}
use Rattle.vq_turn_laws.specs.TruePlaces.{IsTrueTurn}
use Rattle.vq_actor.specs.Answers.{Is}
use Rattle.vq_actor.specs.Trackers.{Tracked}
use Rattle.vq_actor.specs.Waits.{given_back}
use Rattle.vq_core.specs.CoreState.{world}
use Rattle.vq_core_run.specs.CoreAccesses.{recent_of}
use Rattle.vq_core_run.proofs.CoreAnswers.{made, other_emptied}
use Rattle.vq_core_run.proofs.Serving.{turns_unref, counts, seated_returned}
use Rattle.vq_core_run.proofs.core_access.CoreAccessAccess.unrefer.Goals as goal

pub make-requires : goal.make-requires
make-requires c i =
    let x = c.args.self.now in
    let d = x.core.now in
    let m = c.requires in
    let held : Holding = record { need = m.need; point = c.args.point; op = c.args.op } in
    subst (λ (b : ActorName). CanCome d.plan (world d) (Unref b c.args.point c.args.op)) (sym m.actor)
    (turns_unref d i x.actor x.seat.now x.seated m.needs m.is_next m.met held m.rest m.held).0

pub give_back-requires : goal.give_back-requires
give_back-requires c =
    let x = c.args.self.now in
    counts x.core.now c.make.ensures.course x.actor x.seat.now x.seated (AwaitNeeds c.requires.needs) c.requires.is_next

pub invariant_of-self : goal.invariant_of-self
invariant_of-self c =
    let x = c.args.self.now in
    let d = x.core.now in
    let m = c.requires in
    let held : Holding = record { need = m.need; point = c.args.point; op = c.args.op } in
    let turn = turns_unref d c.make.ensures.course x.actor x.seat.now x.seated m.needs m.is_next m.met held m.rest m.held in
    record {
      seated = seated_returned d c.make.ensures.course x.actor x.seat.now x.seated m.needs m.is_next held m.rest m.held
          c.make.new.core (Unref c.args.actor c.args.point c.args.op) c.give_back.new.self c.make.ensures.made
          c.give_back.ensures
          (subst (λ (b : ActorName). IsTrueTurn d.plan (world d) x.actor (Moved (Unref b c.args.point c.args.op))
          (without_first x.seat.now.place m.rest)) (sym m.actor) turn);
      emptied = other_emptied c.make.new.core;
    }

pub returns-clause-answer : goal.returns-clause-answer
returns-clause-answer c =
    let x = c.args.self.now in
    let p = x.seat.now.place in
    let event = Unref c.args.actor c.args.point c.args.op in
    made (x.core.ghost_name ∷ x.seat.ghost_name ∷ []) x.core.now x.actor p (recent_of x.last) c.make.new.core
    c.give_back.new.self.place (given_back p p.holding) (λ w. Ok event) (Is event) event c.make.ensures.made
    (ap (λ (t : Tracked). t.place) c.give_back.ensures) refl refl
