use Rattle.std.proofs.Common.{◌≡◌, ◌∙◌, subst}
use Rattle.vq_access.specs.Grounding.{plan_at}
use Rattle.vq_actor.specs.Actors.{IsTurn}
use Rattle.vq_board_run.specs.Rooming.{Room, lent_by, shown_by}
use Rattle.vq_board_run.proofs.room.AccessRoom.turn.Goals as goal

pub returns-clause-turn : goal.returns-clause-turn
returns-clause-turn g c =
    let p = plan_at c.args.grounds.now in
    let name = c.args.actor.now.name in
    subst (λ (r : Room). IsTurn (lent_by p r name) (lent_by p c.turn.new.self name) (shown_by c.turn.new.self)
    c.turn.result) (c.deref_mut.ensures.value ∙ c.self.view_is) c.turn.ensures.turn
