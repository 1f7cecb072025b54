use Rattle.std.proofs.Common.{rules, ℕ, ◌≡◌, ◌++◌, ◌∷◌, [], List, map, sym, ap, ◌∙◌, map-id}
use Rattle.std.specs.Global.{Box}
use Rattle.std.proofs.lemmas.List.{map_push}
use Rattle.std.proofs.lemmas.Iterator.Adapters.{YieldsList-from_vec}
use Rattle.std.proofs.lemmas.Iterator.Consumers.{YieldsList-end}
use Rattle.vq_c.specs.declared.object.Object.{Object}
use Rattle.vq_c.specs.declared.object.Object.TheVariants.{Actor as HoldsActor}
use Rattle.vq_c.specs.declared.opening.Numbered.{Numbered}
use Rattle.vq_shared_run.specs.declared.player.Player.{Player}
use Rattle.vq_shared_run.specs.Players.{actor_of, number_of}
use Rattle.vq_c.proofs.opening.shared.Goals as goal

abbrev object_of : Numbered → Object
object_of x = x.object.value

abbrev number_in : Numbered → ℕ
number_in x = x.number

abbrev held : Box Player → Object
held y = HoldsActor y.value

abbrev named : Box Player → ℕ
named y = number_of (actor_of y.value)

pub loop-player-preserved : goal.loop-player-preserved
loop-player-preserved c =
    let items = (c.in_ok-push.ensures {u = tt}).items in
    let actors = c.loop-player.actors.items in
    let player = c.in-Some.player in
    let one : Numbered = record { number = c.number_of-number.result; object = c.in_ok-object.object } in
    let object : object_of one ≡ held player = (c.in_ok-object.ensures {u = tt}).ok ∙ ap HoldsActor c.into_inner.ensures in
    let number : number_in one ≡ named player = c.number_of-number.ensures ∙ ap number_of (c.actor.ensures ∙ ap actor_of c.deref.ensures) in
    record {
      objects = ap (map object_of) items
          ∙ (map_push object_of actors one
          ∙ ((λ i. c.loop-player.invariant.objects i ++ object i ∷ [])
          ∙ sym (map_push held c.loop-player.yielded player)));
      numbers = ap (map number_in) items
          ∙ (map_push number_in actors one
          ∙ ((λ i. c.loop-player.invariant.numbers i ++ number i ∷ [])
          ∙ sym (map_push named c.loop-player.yielded player)));
    }

pub returns : goal.returns
returns c =
    let shared = c.in_ok-players.ensures {u = tt} in
    let players = c.in_ok-players.players.items in
    let road = YieldsList-from_vec {s = c.into_iter-player-iterator.result} players (search rules) (search rules) in
    let end = YieldsList-end road c.loop-player.yielded _ c.loop-player.yielded_by _ c.next.new.self
    c.in-None.is c.next.ensures.steps in
    let all : c.loop-player.yielded ≡ players = sym (map-id c.loop-player.yielded) ∙ end.0 in
    record {
      players = players;
      shared = shared;
      objects = c.loop-player.invariant.objects ∙ ap (map held) all;
      numbers = c.loop-player.invariant.numbers ∙ ap (map named) all;
    }
