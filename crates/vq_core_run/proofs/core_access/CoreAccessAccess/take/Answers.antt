use Rattle.std.proofs.Common.{Some, [], ◌∷◌, Ok, refl, sym, subst, ◌≡◌, ap, ◌∙◌, ℕ}
use Rattle.vq_model.specs.declared.plan.Event.{Event}
use Rattle.vq_model.specs.Plan.{chain_of}
use Rattle.vq_point_laws.specs.Points.{CanCome}
use Rattle.vq_turns.specs.declared.task.Task.TheVariants.{Take as Next}
use Rattle.vq_turns.specs.Turns.{forward, taken}
use Rattle.vq_turns.specs.declared.outcome.Outcome.TheVariants.{Moved}
use Rattle.vq_turn_laws.specs.TruePlaces.{IsTrueTurn}
use Rattle.vq_turn_laws.proofs.Cited.{take_chain}
use Rattle.vq_actor.specs.Collections.{emptied, IsTakeOf}
use Rattle.vq_actor.specs.Trackers.{Tracked}
use Rattle.vq_core_run.specs.CoreAccesses.{recent_of}
use Rattle.vq_core.specs.CoreState.{world}
use Rattle.vq_core_run.proofs.CoreAnswers.{made, the_event, take_names, other_emptied}
use Rattle.vq_core_run.proofs.Serving.{turns_take, counts, seated_next, orderly}
use Rattle.vq_core_run.proofs.core_access.CoreAccessAccess.take.Goals as goal

pub taken-event-requires : goal.taken-event-requires
taken-event-requires c =
    let x = c.args.self.now in
    let d = x.core.now in
    subst (λ (t : ℕ). chain_of d.plan c.args.op ≡ Some t) (sym c.emptied_chain.ensures)
    (take_chain d.plan (orderly d c.keeps.ensures x.actor x.seat.now x.seated) x.actor x.seat.now.place.done
    c.args.op (emptied (recent_of x.last)) c.requires.is_next)

pub make-requires : goal.make-requires
make-requires c i =
    let x = c.args.self.now in
    let d = x.core.now in
    let is = c.taken-event.ensures ∙ ap (taken (world d) c.args.op) c.emptied_chain.ensures in
    let turn = turns_take d i x.actor x.seat.now x.seated c.args.op (emptied (recent_of x.last))
    c.requires.is_next in
    subst (λ (e : Event). CanCome d.plan (world d) e) (sym is) turn.0

pub forward-requires : goal.forward-requires
forward-requires c =
    let x = c.args.self.now in
    counts x.core.now c.make.ensures.course x.actor x.seat.now x.seated (Next c.args.op (emptied (recent_of x.last)))
    c.requires.is_next

pub invariant_of-self : goal.invariant_of-self
invariant_of-self c =
    let x = c.args.self.now in
    let d = x.core.now in
    let t = emptied (recent_of x.last) in
    let is = c.taken-event.ensures ∙ ap (taken (world d) c.args.op) c.emptied_chain.ensures in
    let turn = turns_take d c.make.ensures.course x.actor x.seat.now x.seated c.args.op t c.requires.is_next in
    record {
      seated = seated_next d c.make.ensures.course x.actor x.seat.now x.seated (Next c.args.op t) c.requires.is_next refl
          c.make.new.core c.taken-event.result c.forward.new.self c.make.ensures.made c.forward.ensures (subst (λ (e :
          Event). IsTrueTurn d.plan (world d) x.actor (Moved e) (forward x.seat.now.place)) (sym is) turn);
      emptied = other_emptied c.make.new.core;
    }

pub returns-clause-answer : goal.returns-clause-answer
returns-clause-answer c =
    let x = c.args.self.now in
    let d = x.core.now in
    let t = emptied (recent_of x.last) in
    let event = c.taken-event.result in
    let is = c.taken-event.ensures ∙ ap (taken (world d) c.args.op) c.emptied_chain.ensures in
    made (x.core.ghost_name ∷ x.seat.ghost_name ∷ []) d x.actor x.seat.now.place (recent_of x.last) c.make.new.core
    c.forward.new.self.place (forward x.seat.now.place) (λ w. Ok (taken w c.args.op t)) (IsTakeOf c.args.op) event
    c.make.ensures.made (ap (λ (y : Tracked). y.place) c.forward.ensures) (ap the_event is)
    (subst (IsTakeOf c.args.op) (sym is) (take_names (world d) c.args.op t))
