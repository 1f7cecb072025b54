-- Turns that are taken from outside, by the numbers of actors. This project's own.
use Rattle.std.specs.Prelude.{ℕ, ◌≡◌, ◌==◌, ◌-◌, ◌/◌, ◌%◌, Bool, true, false, nat_lt, length, if◌then◌else◌}
use Rattle.std.specs.Prelude.{Option, Some, None}
use Rattle.vq_model.specs.declared.script.ActorName.{ActorName}
use Rattle.vq_model.specs.declared.script.ActorName.TheVariants.{Host as HostActor, Submit as SubmitActor}
use Rattle.vq_model.specs.declared.script.ActorName.TheVariants.{Ring as RingActor}
use Rattle.vq_model.specs.declared.script.Script.{Script}
use Rattle.vq_model.specs.ValidScripts.{is_threaded_queue}
use Rattle.vq_turns.specs.declared.outcome.Outcome.{Outcome}
use Rattle.vq_core_run.specs.Casts.{Cast, Plays}

-- the actor that a number stands for: the host, and two for each queue
abbrev pub actor_numbered : ℕ → ActorName
actor_numbered n =
    if n == 0 then HostActor else
    if n % 2 == 1 then SubmitActor ((n - 1) / 2) else RingActor ((n - 1) / 2)

-- whether a script has an actor
abbrev pub has_actor : Script → ActorName → Bool
has_actor s HostActor = true
has_actor s (SubmitActor q) = is_threaded_queue s q
has_actor s (RingActor q) = nat_lt q (length s.queues)

-- A turn of the actor with a number: nothing, where the plan has none, and else a turn of it over the core.
abbrev pub IsTurnOf : Cast → Cast → ℕ → Option Outcome → Type 0
IsTurnOf old new n None = (has_actor old.course.plan.script (actor_numbered n) ≡ false) × (new ≡ old)
IsTurnOf old new n (Some o) =
    (has_actor old.course.plan.script (actor_numbered n) ≡ true) × Plays old new (actor_numbered n) o
