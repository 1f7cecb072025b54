use Rattle.std.proofs.Common.{◌≡◌, map}
use Rattle.vq_c.specs.declared.object.Object.TheVariants.{Actor as HoldsActor}
use Rattle.vq_shared_run.specs.Players.{actor_of, number_of}
use Rattle.vq_c.proofs.opening.shared.Given as goal

abbrev pub invariant-loop-player : goal.invariant-loop-player
invariant-loop-player l = record {
  objects : map (λ x. x.object.value) l.actors.items ≡ map (λ y. HoldsActor y.value) l.yielded;
  numbers : map (λ x. x.number) l.actors.items ≡ map (λ y. number_of (actor_of y.value)) l.yielded;
}
