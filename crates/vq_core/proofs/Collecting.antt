-- The points of a chain that wait to be freed, by its timeline.
use Rattle.std.proofs.Common.{◌≡◌, ℕ}
use Rattle.std.specs.List.{filter_map}
use Rattle.vq_model.specs.Plan.{chain}
use Rattle.vq_point_laws.specs.Timeline.{Timeline, KeepsLists}
use Rattle.vq_turns.specs.Turns.{waiting_point}
use Rattle.vq_core_laws.specs.TimelineOf.{IsTimelineOf}
use Rattle.vq_core_laws.proofs.Cited.{keeps_carriers, waiting_points}
use Rattle.vq_core.specs.CoreState.{Course, world, IsCourse}
use Rattle.vq_core.proofs.Courses.{plan_facts, world_keeps}

pub waiting_are : (s : Course) → IsCourse s → (t : ℕ) (l : Timeline) → IsTimelineOf s.plan (world s) t l →
    KeepsLists l → filter_map (waiting_point (world s)) (chain s.plan t) ≡ l.waiting
waiting_are s k t l is kept =
    waiting_points s.plan (plan_facts s k) (world s) (world_keeps s k)
    (keeps_carriers s.plan (plan_facts s k) s.history k.history_from) t l is kept
