-- The turns of a schedule: who plays, whose places are true, and the events that turns make. This project's own.
use Rattle.std.specs.Prelude.{◌≡◌, false, if◌then◌else◌, List, [], ◌∷◌, Option, Some, None}
use Rattle.std.specs.List.{filter_map}
use Rattle.vq_model.specs.declared.script.ActorName.{ActorName}
use Rattle.vq_model.specs.declared.script.ActorName.TheVariants.{Host as HostActor, Submit as SubmitActor}
use Rattle.vq_model.specs.declared.script.ActorName.TheVariants.{Ring as RingActor}
use Rattle.vq_model.specs.declared.plan.Event.{Event}
use Rattle.vq_model.specs.Plan.{Plan}
use Rattle.vq_model.specs.ValidScripts.{is_immediate_queue}
use Rattle.vq_point_laws.specs.Points.{PointState, CanCome}
use Rattle.vq_turns.specs.declared.outcome.Outcome.{Outcome}
use Rattle.vq_turns.specs.declared.outcome.Outcome.TheVariants.{Moved}
use Rattle.vq_turns.specs.Programs.{is_deferred_queue}
use Rattle.vq_turns.specs.Turns.{Place, Scene}
use Rattle.vq_turn_laws.specs.TruePlaces.{AreTrueFor}

-- Who plays: the host, the rings, and the submit actors of the queues that the host doesn't submit to itself.
abbrev pub IsPlayer : Plan → ActorName → Type 0
IsPlayer p (SubmitActor q) = (is_immediate_queue p.script q ≡ false) × (is_deferred_queue p q ≡ false)
IsPlayer p other = Unit {0}

abbrev pub ArePlayers : Plan → List ActorName → Type 0
ArePlayers p [] = Unit {0}
ArePlayers p (a ∷ turns) = IsPlayer p a × ArePlayers p turns

-- the place of an actor in a scene; the host has those of the deferred queues
abbrev pub place_in : Plan → Scene → ActorName → Place
place_in p s HostActor = s.host.own
place_in p s (SubmitActor q) = if is_deferred_queue p q then s.host.served q else s.submits q
place_in p s (RingActor q) = s.rings q

-- the places of all actors of a scene are true of its world
abbrev pub IsTrueScene : Plan → Scene → Type 0
IsTrueScene p s = AreTrueFor p s.world (place_in p s)

-- the events that turns made
abbrev pub event_made : Outcome → Option Event
event_made (Moved event) = Some event
event_made other = None

abbrev pub events_made : List Outcome → List Event
events_made outcomes = filter_map event_made outcomes

-- a turn's event may come, and the scene that the turn leaves is true
abbrev pub HasPlayed : Plan → PointState → Outcome → Scene → Type 0
HasPlayed p w (Moved event) s = CanCome p w event × IsTrueScene p s
HasPlayed p w other s = IsTrueScene p s
