-- The lanes' table, and what the world says of it. This project's own.
use Rattle.std.specs.Prelude.{ℕ, zero, suc, Bool, List, [], length, count_by, ◌≡◌, ◌+◌}
use Rattle.std.specs.List.{slice_index_or}
use Rattle.vq_model.specs.declared.plan.Lane.{Lane}
use Rattle.vq_model.specs.declared.plan.Lane.TheVariants.{Host, Queue}
use Rattle.vq_model.specs.Plan.{Plan}
use Rattle.vq_model.specs.Naming.{same_actor}
use Rattle.vq_point_laws.specs.Points.{Reference, jobs_of_lane, actor_of_lane}
use Rattle.vq_core_laws.specs.Firsts.{AreFirst}
use Rattle.vq_tables.specs.declared.lanes.LaneState.{LaneState}

-- a lane without jobs
abbrev pub no_lane : LaneState
no_lane = record { jobs = []; released = 0; finished = 0; held = 0 }

-- lanes by number: the host's lane, then those of the queues
abbrev pub lane_named : ℕ → Lane
lane_named zero = Host
lane_named (suc q) = Queue q

-- a lane's jobs, how many of them are released and how many finished, and the references that its
-- actor holds
pub record IsLane (p : Plan) (released finished : ℕ → Bool) (held : List Reference) (l : Lane) (s : LaneState) : Type 0
  where
    pub jobs : s.jobs ≡ jobs_of_lane p l
    pub first_released : AreFirst released s.jobs s.released
    pub first_finished : AreFirst finished s.jobs s.finished
    pub references : s.held ≡ count_by (λ r. same_actor (actor_of_lane l) r.actor) held

pub record AreLanes (p : Plan) (released finished : ℕ → Bool) (held : List Reference) (xs : List LaneState) : Type 0
  where
    pub count : length xs ≡ length p.script.queues + 1
    pub each : (n : ℕ) → IsLane p released finished held (lane_named n) (slice_index_or xs n no_lane)
