-- The host's turn where no queue is deferred.
use Rattle.std.proofs.Common.{◌≡◌, ◌∙◌, [], refl, ap}
use Rattle.vq_model.specs.Plan.{Plan}
use Rattle.vq_model.specs.declared.script.ActorName.TheVariants.{Host as HostActor}
use Rattle.vq_point_laws.specs.Points.{PointState}
use Rattle.vq_turns.specs.declared.outcome.Outcome.{Outcome}
use Rattle.vq_turns.specs.declared.outcome.Outcome.TheVariants.{Moved, Blocked, Ended}
use Rattle.vq_turns.specs.Programs.{deferred_queues}
use Rattle.vq_turns.specs.Turns.{Place, HostPlace, HostTurned, own_turn, host_turn, host_turn_from, turn_of}

own_outcome : (x : HostPlace) (o : Outcome) (y : Place) →
    (own_turn Ended x (record { outcome = o; place = y })).outcome ≡ o
own_outcome x (Moved event) y = refl
own_outcome x (Blocked want) y = refl
own_outcome x Ended y = refl

module _ (p : Plan) (w : PointState) (x : HostPlace) (none : deferred_queues p ≡ []) where
  is_own : host_turn p w x ≡ own_turn Ended x (turn_of p w HostActor x.own)
  is_own = ap (λ qs. host_turn_from p w qs Ended x) none

  pub outcome_is_own : (host_turn p w x).outcome ≡ (turn_of p w HostActor x.own).outcome
  outcome_is_own =
      let t = turn_of p w HostActor x.own in
      ap (λ (h : HostTurned). h.outcome) is_own ∙ own_outcome x t.outcome t.place

  pub place_is_own : (host_turn p w x).place ≡ record x { own = (turn_of p w HostActor x.own).place }
  place_is_own = ap (λ (h : HostTurned). h.place) is_own
