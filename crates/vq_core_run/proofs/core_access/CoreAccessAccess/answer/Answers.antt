use Rattle.std.proofs.Common.{[], ◌∷◌, refl, sym, subst, ap}
use Rattle.vq_model.specs.declared.plan.Answer.{Answer as GivenAnswer}
use Rattle.vq_model.specs.declared.plan.Event.TheVariants.{Answer}
use Rattle.vq_point_laws.specs.Points.{CanCome}
use Rattle.vq_turns.specs.declared.outcome.Outcome.TheVariants.{Moved}
use Rattle.vq_turns.specs.declared.task.Task.TheVariants.{Answer as Next}
use Rattle.vq_turn_laws.specs.TruePlaces.{IsTrueTurn}
use Rattle.vq_actor.specs.Answers.{answered}
use Rattle.vq_actor.specs.Trackers.{Tracked}
use Rattle.vq_core.specs.CoreState.{world}
use Rattle.vq_core_run.specs.CoreAccesses.{recent_of}
use Rattle.vq_core_run.proofs.CoreAnswers.{event_made, other_emptied}
use Rattle.vq_core_run.proofs.Serving.{turns_answer, counts, seated_answered}
use Rattle.vq_core_run.proofs.core_access.CoreAccessAccess.answer.Goals as goal

pub make-requires : goal.make-requires
make-requires c i =
    let x = c.args.self.now in
    let d = x.core.now in
    let m = c.requires in
    subst (λ (a : GivenAnswer). CanCome d.plan (world d) (Answer c.args.job a)) (sym m.by_seen)
    (turns_answer d i x.actor x.seat.now x.seated c.args.job m.asks m.is_next).0

pub answer-requires : goal.answer-requires
answer-requires c =
    let x = c.args.self.now in
    counts x.core.now c.make.ensures.course x.actor x.seat.now x.seated (Next c.args.job c.requires.asks) c.requires.is_next

pub invariant_of-self : goal.invariant_of-self
invariant_of-self c =
    let x = c.args.self.now in
    let d = x.core.now in
    let m = c.requires in
    let turn = turns_answer d c.make.ensures.course x.actor x.seat.now x.seated c.args.job m.asks m.is_next in
    record {
      seated = seated_answered d c.make.ensures.course x.actor x.seat.now x.seated (Next c.args.job m.asks) m.is_next refl
          c.make.new.core (Answer c.args.job c.args.answer) c.answer.new.self c.make.ensures.made c.answer.ensures
          (subst (λ (a : GivenAnswer). IsTrueTurn d.plan (world d) x.actor (Moved (Answer c.args.job a)) (answered
          x.seat.now.place)) (sym m.by_seen) turn);
      emptied = other_emptied c.make.new.core;
    }

pub returns : goal.returns
returns c =
    let x = c.args.self.now in
    event_made (x.core.ghost_name ∷ x.seat.ghost_name ∷ []) x.core.now x.actor x.seat.now.place (recent_of x.last)
    c.make.new.core c.answer.new.self.place (answered x.seat.now.place) (Answer c.args.job c.args.answer)
    c.make.ensures.made (ap (λ (t : Tracked). t.place) c.answer.ensures)
