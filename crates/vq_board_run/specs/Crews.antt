-- The actors of a plan that have threads of their own. This project's own.
use Rattle.std.specs.Prelude.{ℕ, List, ◌++◌, Option, Some, None, filter, map, length}
use Rattle.std.specs.List.{range_with_len}
use Rattle.vq_model.specs.declared.script.ActorName.{ActorName}
use Rattle.vq_model.specs.declared.script.ActorName.TheVariants.{Submit as SubmitActor, Ring as RingActor}
use Rattle.vq_model.specs.declared.script.Script.{Script}
use Rattle.vq_model.specs.ValidScripts.{is_threaded_queue}
use Rattle.vq_board_laws.specs.declared.view.Role.{Role}
use Rattle.vq_board_laws.specs.declared.view.Role.TheVariants.{Host, Submit, Ring, Shelf}

-- the submitting threads of the threaded queues among the first n queues
abbrev pub submits_below : Script → ℕ → List ActorName
submits_below s n = map SubmitActor (filter (is_threaded_queue s) (range_with_len 0 n))

-- the rings of the first n queues
abbrev pub rings_below : ℕ → List ActorName
rings_below n = map RingActor (range_with_len 0 n)

-- the submitting thread of each threaded queue, and the ring of each queue: all actors but the host and those that it
-- serves
abbrev pub workers : Script → List ActorName
workers s = submits_below s (length s.queues) ++ rings_below (length s.queues)

-- the worker that steps with the pass of a role, if the role is a worker's
abbrev pub worker_of : Role → Option ActorName
worker_of Host = None
worker_of (Submit q) = Some (SubmitActor q)
worker_of (Ring q) = Some (RingActor q)
worker_of (Shelf t) = None
