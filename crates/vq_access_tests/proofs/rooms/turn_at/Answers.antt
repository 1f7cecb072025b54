use Rattle.std.proofs.Common.{Option, Some, IfSome, rules, slice_set, sym, subst}
use Rattle.std.proofs.lemmas.List.Elements.{All-set}
use Rattle.vq_model.specs.ValidScripts.{IsActor}
use Rattle.vq_access.specs.Grounding.{board_at}
use Rattle.vq_board_run.specs.Rooming.{Room}
use Rattle.vq_board.specs.Named.{plan_of}
use Rattle.vq_access_tests.specs.Rooms.{IsPlaced}
use Rattle.vq_access_tests.proofs.rooms.turn_at.Goals as goal

-- the room that was taken out is put back, one turn later
pub returns : goal.returns
returns g c =
    let b = board_at c.args.grounds.now in
    let P : Option Room → Type 0 = λ x. IfSome x (IsPlaced b) in
    let before : IsPlaced b c.in_ok-room.room = search rules in
    let after : IsPlaced b c.take_turn-room.result.0 = (
      c.take_turn-room.ensures.board,
      subst (IsActor (plan_of b).script) (sym c.take_turn-room.ensures.owner) before.1,
    ) in
    let gone : P c.take.new.self = subst P (sym c.take.ensures.after) tt in
    All-set P (slice_set c.args.rooms.now c.args.place c.take.new.self) c.args.place
    (Some c.take_turn-room.result.0) after
    (All-set P c.args.rooms.now c.args.place c.take.new.self gone c.requires.rooms)
