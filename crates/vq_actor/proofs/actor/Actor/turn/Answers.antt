use Rattle.std.proofs.Common.{◌≡◌, ◌∙◌, All, ap, sym, subst}
use Rattle.vq_model.specs.Plan.{Plan}
use Rattle.vq_turns.specs.Programs.{program}
use Rattle.vq_actor.specs.Actors.{Acting}
use Rattle.vq_actor.specs.Positions.{MayBeDone}
use Rattle.vq_actor.proofs.Doable.{tasks_may}
use Rattle.vq_actor.proofs.actor.Actor.turn.Goals as goal

pub play-requires-clause-may : goal.play-requires-clause-may
play-requires-clause-may g c =
    let m = g.A.Access.meaning c.args.access.now in
    let p = c.ordered.result.now in
    let tasks = c.as_slice.result.now in
    let e : tasks ≡ program p m.actor =
    c.as_slice.ensures.value
    ∙ (ap (λ (x : Acting). x.tasks) c.self.view_is
    ∙ (c.requires.tasks ∙ ap (λ (q : Plan). program q m.actor) (sym c.ordered.ensures))) in
    subst (λ (q : Plan). All (MayBeDone q) tasks) c.ordered.ensures
    (tasks_may p c.plan-lawful.ensures.read c.plan-lawful.ensures.lawful m.actor tasks e)
