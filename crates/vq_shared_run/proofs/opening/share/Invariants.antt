use Rattle.std.proofs.Common.{◌≡◌, All, ◌∷◌, map}
use Rattle.std.specs.Arc.{arc_value}
use Rattle.vq_model.specs.declared.script.ActorName.TheVariants.{Host as HostActor}
use Rattle.vq_board_run.specs.Crewed.{owner_of}
use Rattle.vq_shared_run.specs.Players.{actor_of}
use Rattle.vq_shared_run.specs.Shares.{IsUnplayedOn}
use Rattle.vq_shared_run.proofs.opening.share.Given as goal

abbrev pub invariant-loop-room : goal.invariant-loop-room
invariant-loop-room l = record {
  unplayed : All (λ x. IsUnplayedOn (arc_value l.run) x.value) l.players.items;
  actors : map (λ x. actor_of x.value) l.players.items ≡ HostActor ∷ map owner_of l.yielded;
}
