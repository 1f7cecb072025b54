use Rattle.std.proofs.Common.{rules, ◌++◌, ◌∷◌, [], List, map, sym, ap, ◌∙◌, subst, map-id}
use Rattle.std.proofs.lemmas.List.{map_push}
use Rattle.std.proofs.lemmas.List.Elements.{All-get_or, All-push}
use Rattle.std.proofs.lemmas.Iterator.Adapters.{YieldsList-from_vec}
use Rattle.std.proofs.lemmas.Iterator.Consumers.{YieldsList-turn, YieldsList-end}
use Rattle.vq_board_run.specs.Rooming.{Room}
use Rattle.vq_board_run.specs.Crewed.{IsWorkerOf, owner_of}
use Rattle.vq_rings.specs.Berths.{AreAt, IsAt, actor_at}
use Rattle.vq_rings.proofs.berths.berths_of.Goals as goal

pub berth_of-requires : goal.berth_of-requires
berth_of-requires c =
    let road = YieldsList-from_vec {s = c.into_iter-room-iterator.result} c.args.rooms.items (search rules) (search rules) in
    let turn = YieldsList-turn road c.loop-room.yielded _ c.loop-room.yielded_by _ c.next.new.self c.in-Some.room
    c.in-Some.is c.next.ensures.steps in
    subst (IsWorkerOf c.args.board.now) (sym turn.1)
    (All-get_or (IsWorkerOf c.args.board.now) c.args.rooms.items _ c.in-Some.room turn.0 c.requires.each)

pub loop-room-preserved : goal.loop-room-preserved
loop-room-preserved c =
    let items = (c.in_ok-push.ensures {u = tt}).items in
    let made = c.in_ok-berth_of.ensures {u = tt} in
    let berths = c.loop-room.berths.items in
    let here = All-push (IsAt c.args.board.now) berths c.in_ok-berth_of.field-0 c.loop-room.invariant.at made.board in
    record {
      at = subst (AreAt c.args.board.now) (sym items) here;
      actors = ap (map actor_at) items
          ∙ (map_push actor_at berths c.in_ok-berth_of.field-0
          ∙ ((λ i. c.loop-room.invariant.actors i ++ made.actor i ∷ [])
          ∙ sym (map_push owner_of c.loop-room.yielded c.in-Some.room)));
    }

pub returns : goal.returns
returns c =
    let road = YieldsList-from_vec {s = c.into_iter-room-iterator.result} c.args.rooms.items (search rules) (search rules) in
    let end = YieldsList-end road c.loop-room.yielded _ c.loop-room.yielded_by _ c.next.new.self
    c.in-None.is c.next.ensures.steps in
    let all = sym (map-id c.loop-room.yielded) ∙ end.0 in
    record {
      at = c.loop-room.invariant.at;
      actors = c.loop-room.invariant.actors ∙ (ap (λ (rs : List Room). map owner_of rs) all ∙ c.requires.owners);
    }
