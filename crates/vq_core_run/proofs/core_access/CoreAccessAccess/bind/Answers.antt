use Rattle.std.proofs.Common.{[], ◌∷◌, refl, sym, subst, ap, ◌∙◌, ℕ}
use Rattle.vq_model.specs.declared.plan.Event.TheVariants.{Bind}
use Rattle.vq_turns.specs.declared.outcome.Want.TheVariants.{Next as WantsNext}
use Rattle.vq_turns.specs.declared.task.Task.TheVariants.{Bind as NextTask}
use Rattle.vq_point_laws.specs.Points.{CanCome}
use Rattle.vq_turns.specs.Turns.{forward}
use Rattle.vq_turns.specs.declared.outcome.Outcome.TheVariants.{Moved}
use Rattle.vq_turn_laws.specs.TruePlaces.{IsTrueTurn}
use Rattle.vq_actor.specs.Answers.{IsBindOf, bound_or}
use Rattle.vq_actor.specs.Trackers.{Tracked}
use Rattle.vq_core_run.specs.CoreAccesses.{recent_of}
use Rattle.vq_core.specs.CoreState.{world}
use Rattle.vq_core_run.proofs.CoreAnswers.{made, refused, held_back, bind_refused, bind_made, the_event, none_of}
use Rattle.vq_core_run.proofs.CoreAnswers.{point_or_first, other_emptied}
use Rattle.vq_core_run.proofs.Serving.{turns_bind, counts, seated_next}
use Rattle.vq_core_run.proofs.core_access.CoreAccessAccess.bind.Goals as goal

pub returns-in-Some-clause-answer : goal.returns-in-Some-clause-answer
returns-in-Some-clause-answer c =
    let x = c.args.self.now in
    let d = x.core.now in
    let p = x.seat.now.place in
    let is = sym c.unbound_before.ensures ∙ c.in-Some.is in
    refused (x.core.ghost_name ∷ x.seat.ghost_name ∷ []) d x.actor p (recent_of x.last) (forward p)
    (λ w. bound_or d.plan w c.args.op) (IsBindOf c.args.op) (WantsNext c.in-Some.op) (bind_refused d.plan (world d)
    c.args.op c.in-Some.op is) (held_back d.plan (world d) c.args.op c.in-Some.op is).0

pub returns-in-Some-clause-wants : goal.returns-in-Some-clause-wants
returns-in-Some-clause-wants c =
    let d = c.args.self.now.core.now in
    (held_back d.plan (world d) c.args.op c.in-Some.op (sym c.unbound_before.ensures ∙ c.in-Some.is)).1

pub make-requires : goal.make-requires
make-requires c i =
    let x = c.args.self.now in
    let d = x.core.now in
    let none = sym c.unbound_before.ensures ∙ none_of c.unbound_before.result c.in_default.not-Some in
    let at = point_or_first (world d) c.args.op c.point_of.result c.unwrap_or-point.result c.unwrap_or-point.ensures
    c.point_of.ensures in
    subst (λ (q : ℕ). CanCome d.plan (world d) (Bind c.args.op q)) (sym at) (turns_bind d i x.actor
    x.seat.now x.seated c.args.op none c.requires).0

pub forward-requires : goal.forward-requires
forward-requires c =
    let x = c.args.self.now in
    counts x.core.now c.make.ensures.course x.actor x.seat.now x.seated (NextTask c.args.op) c.requires

pub invariant_of-self-2 : goal.invariant_of-self-2
invariant_of-self-2 c =
    let x = c.args.self.now in
    let d = x.core.now in
    let none = sym c.unbound_before.ensures ∙ none_of c.unbound_before.result c.in_default.not-Some in
    let at = point_or_first (world d) c.args.op c.point_of.result c.unwrap_or-point.result c.unwrap_or-point.ensures
    c.point_of.ensures in
    let turn = subst (λ (q : ℕ). IsTrueTurn d.plan (world d) x.actor (Moved (Bind c.args.op q)) (forward
    x.seat.now.place)) (sym at) (turns_bind d c.make.ensures.course x.actor x.seat.now x.seated c.args.op none
    c.requires) in
    record {
      seated = seated_next d c.make.ensures.course x.actor x.seat.now x.seated (NextTask c.args.op) c.requires refl
          c.make.new.core (Bind c.args.op c.unwrap_or-point.result) c.forward.new.self c.make.ensures.made
          c.forward.ensures turn;
      emptied = other_emptied c.make.new.core;
    }

pub returns-clause-answer : goal.returns-clause-answer
returns-clause-answer c =
    let x = c.args.self.now in
    let d = x.core.now in
    let event = Bind c.args.op c.unwrap_or-point.result in
    let none = sym c.unbound_before.ensures ∙ none_of c.unbound_before.result c.in_default.not-Some in
    let at = point_or_first (world d) c.args.op c.point_of.result c.unwrap_or-point.result c.unwrap_or-point.ensures
    c.point_of.ensures in
    made (x.core.ghost_name ∷ x.seat.ghost_name ∷ []) d x.actor x.seat.now.place (recent_of x.last) c.make.new.core
    c.forward.new.self.place (forward x.seat.now.place) (λ w. bound_or d.plan w c.args.op) (IsBindOf c.args.op) event
    c.make.ensures.made (ap (λ (t : Tracked). t.place) c.forward.ensures)
    (ap (λ (q : ℕ). the_event (Bind c.args.op q)) at ∙ bind_made d.plan (world d) c.args.op none) refl
