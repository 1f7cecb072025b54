-- The places of all actors stay true through the turns of one of them.
use Rattle.std.proofs.Common.{◌≡◌, Bool, true, false, if◌then◌else◌, refl, sym, subst, ap, ◌∙◌}
use Rattle.std.proofs.lemmas.Bool.{false≢true}
use Rattle.vq_model.specs.declared.script.ActorName.{ActorName}
use Rattle.vq_model.specs.Plan.{Plan}
use Rattle.vq_model.specs.Naming.{same_actor}
use Rattle.vq_model.proofs.Actors.{same_actor_is, same_actor_self}
use Rattle.vq_point_laws.specs.Points.{PointState, after_event}
use Rattle.vq_turns.specs.declared.outcome.Outcome.{Outcome}
use Rattle.vq_turns.specs.declared.outcome.Outcome.TheVariants.{Moved, Blocked, Ended}
use Rattle.vq_turns.specs.Turns.{Place, turn_of, world_after}
use Rattle.vq_turn_laws.specs.PlanParts.{HasOwnProgram, IsOrderly}
use Rattle.vq_turn_laws.specs.TruePlaces.{IsTrueFor, IsTrueTurn, AreTrueFor, with_place}
use Rattle.vq_turn_laws.proofs.Reached.{Reached}
use Rattle.vq_turn_laws.proofs.WholeTurns.{others_true, turn_true}

module _ (p : Plan) (o : IsOrderly p) (w : PointState) (r : Reached p w) (places : ActorName → Place)
    (all : AreTrueFor p w places) (b : ActorName) (second : HasOwnProgram p b) where
  -- the actor's own place, and that of another one
  own_or_other : (v : PointState) (y : Place) → IsTrueFor p v b y →
      ((a : ActorName) → HasOwnProgram p a → (a ≡ b → ⊥) → IsTrueFor p v a (places a)) →
      AreTrueFor p v (with_place places b y)
  own_or_other v y own other a first = by_name (same_actor a b) refl
    where
      by_name : (c : Bool) → same_actor a b ≡ c → IsTrueFor p v a (if c then y else places a)
      by_name true e = subst (λ (z : ActorName). IsTrueFor p v z y) (sym (same_actor_is a b e)) own
      by_name false e = other a first
          (λ s. false≢true (sym e ∙ (ap (λ (z : ActorName). same_actor z b) s ∙ same_actor_self b)))

  by_outcome : (outcome : Outcome) (y : Place) → IsTrueTurn p w b outcome y →
      AreTrueFor p (world_after p w outcome) (with_place places b y)
  by_outcome (Moved x) y t =
      own_or_other (after_event p w x) y t.2
      (λ a first two. others_true p o w r a b first second two (places a) (all a first) x t.0 t.1)
  by_outcome (Blocked want) y t = own_or_other w y t (λ a first two. all a first)
  by_outcome Ended y t = own_or_other w y t (λ a first two. all a first)

  -- A turn of one actor leaves the places of all true.
  pub all_true : AreTrueFor p (world_after p w (turn_of p w b (places b)).outcome)
      (with_place places b (turn_of p w b (places b)).place)
  all_true =
      by_outcome (turn_of p w b (places b)).outcome (turn_of p w b (places b)).place
      (turn_true p o w r b (places b) (all b second))
