use Rattle.std.proofs.Common.{[], ◌∷◌, Ok, ℕ, ◌≡◌, ◌<◌, None, refl, sym, subst, ap, ◌∙◌}
use Rattle.vq_model.specs.declared.script.ActorName.{ActorName}
use Rattle.vq_model.specs.declared.plan.Event.TheVariants.{Refer}
use Rattle.vq_point_laws.specs.Points.{CanCome}
use Rattle.vq_turns.specs.declared.task.Task.TheVariants.{AwaitNeeds}
use Rattle.vq_turns.specs.Programs.{program}
use Rattle.vq_turns.specs.Turns.{held_for, holding_also}
use Rattle.vq_actor.specs.Answers.{Is}
use Rattle.vq_actor.specs.Trackers.{Tracked}
use Rattle.vq_actor.specs.Waits.{need_found}
use Rattle.vq_actor.proofs.Cited.{fits_need}
use Rattle.vq_core.specs.CoreState.{world}
use Rattle.vq_core_run.specs.CoreAccesses.{recent_of, with_event}
use Rattle.vq_core_run.proofs.CoreAnswers.{made, other_emptied}
use Rattle.vq_core_run.proofs.Serving.{turns_refer, seated_referred}
use Rattle.vq_core_run.proofs.core_access.CoreAccessAccess.refer.Goals as goal

pub make-requires : goal.make-requires
make-requires c i =
    let x = c.args.self.now in
    let d = x.core.now in
    let m = c.requires in
    subst (λ (b : ActorName). CanCome d.plan (world d) (Refer b c.args.point c.args.op)) (sym m.actor)
    (turns_refer d i x.actor x.seat.now x.seated m.needs m.is_next m.waiting (need_found (recent_of
    x.last)) m.need c.args.op c.args.point m.at m.without (m.pending (world d) refl)).0

pub refer-requires-clause-slot : goal.refer-requires-clause-slot
refer-requires-clause-slot c =
    let x = c.args.self.now in
    let m = c.requires in
    subst (λ (k : ℕ). k < x.seat.now.slots) (sym c.need_found.ensures)
    (fits_need (program x.core.now.plan x.actor) x.seat.now (AwaitNeeds m.needs) m.is_next x.seated.fits m.needs
    (need_found (recent_of x.last)) m.need refl m.at)

pub refer-requires-clause-free : goal.refer-requires-clause-free
refer-requires-clause-free c =
    let x = c.args.self.now in
    subst (λ (k : ℕ). held_for k x.seat.now.place.holding ≡ None) (sym c.need_found.ensures) c.requires.without

pub invariant_of-self : goal.invariant_of-self
invariant_of-self c =
    let x = c.args.self.now in
    let d = x.core.now in
    let m = c.requires in
    let k = need_found (recent_of x.last) in
    let turn = turns_refer d c.make.ensures.course x.actor x.seat.now x.seated m.needs m.is_next m.waiting k m.need
    c.args.op c.args.point m.at m.without (m.pending (world d) refl) in
    record {
      seated = seated_referred d c.make.ensures.course x.actor x.seat.now x.seated m.needs m.is_next m.waiting k m.need
          c.args.op c.args.point m.at c.make.new.core c.refer.new.self (subst (λ (b : ActorName). c.make.new.core ≡
          with_event d (Refer b c.args.point c.args.op)) m.actor c.make.ensures.made) (c.refer.ensures ∙ ap (λ (n : ℕ).
          at_need x.seat.now n c.args.op c.args.point) c.need_found.ensures) turn;
      emptied = other_emptied c.make.new.core;
    }
  where
    at_need : Tracked → ℕ → ℕ → ℕ → Tracked
    at_need y n e q = record y { place = holding_also y.place n e q }

pub returns-clause-answer : goal.returns-clause-answer
returns-clause-answer c =
    let x = c.args.self.now in
    let d = x.core.now in
    let p = x.seat.now.place in
    let event = Refer c.args.actor c.args.point c.args.op in
    made (x.core.ghost_name ∷ x.seat.ghost_name ∷ []) d x.actor p (recent_of x.last) c.make.new.core
    c.refer.new.self.place (holding_also p (need_found (recent_of x.last)) c.args.op c.args.point) (λ w. Ok event)
    (Is event) event c.make.ensures.made (ap (λ (t : Tracked). t.place) c.refer.ensures
    ∙ ap (λ (n : ℕ). holding_also p n c.args.op c.args.point) c.need_found.ensures) refl refl
