use Rattle.std.proofs.Common.{rules, ◌++◌, ◌∷◌, [], All, List, map, sym, ap, ◌∙◌, subst, map-id}
use Rattle.std.specs.Arc.{arc_value}
use Rattle.std.specs.Global.{Box}
use Rattle.std.proofs.lemmas.List.{map_push}
use Rattle.std.proofs.lemmas.List.Elements.{All-push}
use Rattle.std.proofs.lemmas.Iterator.Adapters.{YieldsList-from_vec}
use Rattle.std.proofs.lemmas.Iterator.Consumers.{YieldsList-end}
use Rattle.vq_model.specs.declared.script.ActorName.{ActorName}
use Rattle.vq_model.specs.declared.script.ActorName.TheVariants.{Host as HostActor}
use Rattle.vq_model.specs.Plan.{Plan}
use Rattle.vq_board_run.specs.Rooming.{Room}
use Rattle.vq_board_run.specs.Crewed.{owner_of}
use Rattle.vq_board_run.specs.Crews.{workers}
use Rattle.vq_shared_run.specs.declared.player.Player.{Player}
use Rattle.vq_shared_run.specs.declared.run.Run.{Run}
use Rattle.vq_shared_run.specs.Players.{actor_of}
use Rattle.vq_shared_run.specs.Shares.{IsUnplayedOn}
use Rattle.vq_shared_run.proofs.opening.share.Goals as goal

pub loop-room-preserved : goal.loop-room-preserved
loop-room-preserved c =
    let items = (c.in_ok-push-2.ensures {u = tt}).items in
    let made = c.in_ok-player_of-2.ensures {u = tt} in
    let players = c.loop-room.players.items in
    let player = c.in_ok-player_of-2.field-0 in
    let run = arc_value c.in_ok-run.run' in
    let here = All-push (λ (x : Box Player). IsUnplayedOn run x.value) players player
    c.loop-room.invariant.unplayed made.run in
    record {
      unplayed = subst (λ (xs : List (Box Player)). All (λ x. IsUnplayedOn run x.value) xs) (sym items) here;
      actors = ap (λ (xs : List (Box Player)). map (λ x. actor_of x.value) xs) items
          ∙ (map_push (λ (x : Box Player). actor_of x.value) players player
          ∙ ((λ i. c.loop-room.invariant.actors i ++ made.actor i ∷ [])
          ∙ ap (λ (names : List ActorName). HostActor ∷ names)
          (sym (map_push owner_of c.loop-room.yielded c.in-Some.room))));
    }

pub returns : goal.returns
returns c =
    let crew = c.in_ok-board.ensures {u = tt} in
    let road = YieldsList-from_vec {s = c.into_iter-room-iterator.result} c.in_ok-board.workers.items (search rules)
    (search rules) in
    let end = YieldsList-end road c.loop-room.yielded _ c.loop-room.yielded_by _ c.next.new.self
    c.in-None.is c.next.ensures.steps in
    let all = sym (map-id c.loop-room.yielded) ∙ end.0 in
    let plan = ap (λ (r : Run). r.ordered) (c.in_ok-run.ensures {u = tt}) ∙ c.new-2.ensures.plan in
    record {
      run = arc_value c.in_ok-run.run';
      plan = plan;
      unplayed = c.loop-room.invariant.unplayed;
      actors = c.loop-room.invariant.actors
          ∙ (ap (λ (rs : List Room). HostActor ∷ map owner_of rs) all
          ∙ ((λ i. HostActor ∷ map owner_of (sym c.in_ok-board.workers-is i).items)
          ∙ (ap (λ (names : List ActorName). HostActor ∷ names) crew.workers.owners
          ∙ ap (λ (p : Plan). HostActor ∷ workers p.script) crew.plan)));
    }
