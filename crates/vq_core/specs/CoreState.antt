-- What callers see of the core: a plan and a history. This project's own.
use Rattle.std.specs.Prelude.{List}
use Rattle.vq_model.specs.declared.plan.Event.{Event}
use Rattle.vq_model.specs.Plan.{Plan}
use Rattle.vq_model.specs.Checks.{IsLawful}
use Rattle.vq_model.specs.LoweredPlans.{IsPlan}
use Rattle.vq_point_laws.specs.Points.{PointState, HistoryFrom, opening_points}
use Rattle.vq_history_laws.specs.Histories.{points_after}

-- a plan, and the events that came so far
pub record Course : Type 0 where
  pub plan : Plan
  pub history : List Event

-- the world after the history
abbrev pub world : Course → PointState
world c = points_after c.plan c.history

-- the plan is lawful, and each event came when it might
pub record IsCourse (c : Course) : Type 0 where
  pub read : IsPlan c.plan
  pub lawful : IsLawful c.plan
  pub history_from : HistoryFrom c.plan (opening_points c.plan) c.history
