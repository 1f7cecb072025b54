-- The test on names of actors, and that on lanes.
use Rattle.std.proofs.Common.{◌≡◌, ℕ, true, refl, ap}
use Rattle.std.proofs.lemmas.Bool.{eq-eqb, eqb-true, false≢true}
use Rattle.vq_model.specs.declared.script.ActorName.{ActorName}
use Rattle.vq_model.specs.declared.script.ActorName.TheVariants.{Host as HostActor, Submit as SubmitActor, Ring as RingActor}
use Rattle.vq_model.specs.declared.plan.Lane.{Lane}
use Rattle.vq_model.specs.declared.plan.Lane.TheVariants.{Host as HostLane, Queue as QueueLane}
use Rattle.vq_model.specs.Plan.{same_lane}
use Rattle.vq_model.specs.Naming.{same_actor}

pub same_actor_self : (a : ActorName) → same_actor a a ≡ true
same_actor_self HostActor = refl
same_actor_self (SubmitActor q) = eq-eqb q q refl
same_actor_self (RingActor q) = eq-eqb q q refl

pub same_actor_is : (a b : ActorName) → same_actor a b ≡ true → a ≡ b
same_actor_is HostActor HostActor h = refl
same_actor_is (SubmitActor q) (SubmitActor r) h = ap (λ (n : ℕ). SubmitActor n) (eqb-true q r h)
same_actor_is (RingActor q) (RingActor r) h = ap (λ (n : ℕ). RingActor n) (eqb-true q r h)
same_actor_is a b h = absurd (cc)

pub same_lane_is : (l m : Lane) → same_lane l m ≡ true → l ≡ m
same_lane_is HostLane HostLane h = refl
same_lane_is HostLane (QueueLane r) h = absurd (false≢true h)
same_lane_is (QueueLane q) HostLane h = absurd (false≢true h)
same_lane_is (QueueLane q) (QueueLane r) h = ap (λ (z : ℕ). QueueLane z) (eqb-true q r h)
