use Rattle.std.proofs.Common.{◌∙◌, None, set, sym, ap}
use Rattle.vq_actor.specs.Positions.{holding_from}
use Rattle.vq_actor.specs.Trackers.{Tracked}
use Rattle.vq_actor.proofs.tracker.Tracker.first.Goals as goal

pub returns-in-Some : goal.returns-in-Some
returns-in-Some c = (
  c.in-Some.field-0-0,
  holding_from 0 (set c.as_slice.result.now c.in-Some.field-0-0 None),
  ap (λ (t : Tracked). t.place.holding) (sym c.self.view_is)
      ∙ (ap (holding_from 0) (sym c.as_slice.ensures.value) ∙ c.in-Some.ensures.first),
)
