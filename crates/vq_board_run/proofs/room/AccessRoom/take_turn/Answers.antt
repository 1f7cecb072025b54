use Rattle.std.proofs.Common.{◌≡◌, ◌≤◌, ◌∙◌, length, ap, subst}
use Rattle.vq_model.specs.Outputs.{asking}
use Rattle.vq_model.specs.Plan.{Plan}
use Rattle.vq_board.specs.Named.{view}
use Rattle.vq_board_laws.specs.declared.view.View.{View}
use Rattle.vq_access_laws.proofs.Cited.{few_told}
use Rattle.vq_board_run.specs.Rooming.{Room, view_of}
use Rattle.vq_board_run.proofs.room.AccessRoom.take_turn.Goals as goal

pub returns-clause-few : goal.returns-clause-few
returns-clause-few g c =
    let v = view c.content.inside.pass in
    let after = view_of c.turn_named-room.result.0 in
    let same : v ≡ after =
    ap (λ (r : Room). view r.pass) (c.content.view_is ∙ (c.deref-content.ensures ∙ c.room.view_is)) in
    let of_plan = c.turn_named-room.ensures.board.1 ∙ c.args.grounds.now.planned in
    subst (λ (p : Plan). length after.told ≤ length (asking p)) of_plan
    (subst (λ (w : View). length w.told ≤ length (asking w.plan)) same
    (few_told (asking v.plan) v.told c.content.invariant.places.told))
