-- What a history leads to, and how many events it can have. This project's own.
use Rattle.std.specs.Prelude.{ℕ, List, length, map, sum, fold, ◌+◌, ◌*◌}
use Rattle.vq_model.specs.declared.plan.Event.{Event}
use Rattle.vq_model.specs.Plan.{Plan}
use Rattle.vq_point_laws.specs.Points.{PointState, opening_points, after_event}

-- the world after a history
abbrev pub points_after : Plan → List Event → PointState
points_after p events = fold (after_event p) (opening_points p) events

-- How many events there can be: a job is submitted, released, started, finished, or answered in place of the
-- first two; a command is applied; an operation is taken, bound, made, completed and freed; for a need a
-- reference is taken, looked at and given back.
abbrev pub acts : Plan → ℕ
acts p =
    4 * length p.jobs + length p.commands + 5 * length p.ops + 3 * sum (map (λ x. length x.needs) p.jobs)
