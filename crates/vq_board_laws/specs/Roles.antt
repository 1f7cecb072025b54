-- The roles of passes, and who has which. This project's own.
use Rattle.std.specs.Prelude.{ℕ, Bool, List, if◌then◌else◌, ◌+◌, length, filter, count_by, ◌==◌}
use Rattle.std.specs.List.{range_with_len}
use Rattle.vq_model.specs.ValidScripts.{is_threaded_queue}
use Rattle.vq_model.specs.declared.plan.Lane.{Lane}
use Rattle.vq_model.specs.declared.plan.Lane.TheVariants.{Host as HostLane, Queue as QueueLane}
use Rattle.vq_model.specs.Plan.{Plan, of_job}
use Rattle.vq_board_laws.specs.declared.view.Role.{Role}
use Rattle.vq_board_laws.specs.declared.view.Role.TheVariants.{Host, Submit, Ring, Shelf}

-- whether a queue is threaded
abbrev pub is_threaded : Plan → ℕ → Bool
is_threaded p q = is_threaded_queue p.script q

-- the threaded ones of the first n queues
abbrev pub threaded_before : Plan → ℕ → List ℕ
threaded_before p n = filter (is_threaded p) (range_with_len 0 n)

-- the threaded queues, in the order of the script
abbrev pub threaded_queues : Plan → List ℕ
threaded_queues p = threaded_before p (length p.script.queues)

-- Roles stand in this order: the host, the submitters of the threaded queues, the rings of all
-- queues, the shelves of all chains. This is a role's number in it.
abbrev pub role_number : Plan → Role → ℕ
role_number p Host = 0
role_number p (Submit q) = 1 + length (threaded_before p q)
role_number p (Ring q) = 1 + length (threaded_queues p) + q
role_number p (Shelf t) = 1 + length (threaded_queues p) + length p.script.queues + t

-- how many roles there are
abbrev pub role_count : Plan → ℕ
role_count p = 1 + length (threaded_queues p) + length p.script.queues + length p.chains

-- who runs the jobs of a lane, and who releases its batches
abbrev pub runner_of : Lane → Role
runner_of HostLane = Host
runner_of (QueueLane q) = Ring q

abbrev pub submitter_of : Plan → Lane → Role
submitter_of p HostLane = Host
submitter_of p (QueueLane q) = if is_threaded p q then Submit q else Host

-- the numbers of these roles, for a job
abbrev pub runner : Plan → ℕ → ℕ
runner p j = of_job (λ x. role_number p (runner_of x.lane)) 0 p j

abbrev pub submitter : Plan → ℕ → ℕ
submitter p j = of_job (λ x. role_number p (submitter_of p x.lane)) 0 p j

-- how many points the role may own: as many as its chain has operations
abbrev pub share_of : Plan → ℕ → ℕ
share_of p role = count_by (λ o. role_number p (Shelf o.chain) == role) p.ops
