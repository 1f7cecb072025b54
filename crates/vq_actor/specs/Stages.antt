-- What a stage means: the places of all actors, over one state and one record. This project's own.
use Rattle.std.specs.Prelude.{ℕ, ◌≡◌, Bool, true, if◌then◌else◌, List, [], ◌++◌, filter, Option, Some, None}
use Rattle.vq_model.specs.declared.plan.Event.{Event}
use Rattle.vq_model.specs.declared.script.ActorName.{ActorName}
use Rattle.vq_model.specs.declared.script.ActorName.TheVariants.{Host as HostActor, Submit as SubmitActor}
use Rattle.vq_model.specs.declared.script.ActorName.TheVariants.{Ring as RingActor}
use Rattle.vq_model.specs.Plan.{Plan}
use Rattle.vq_point_laws.specs.Points.{PointState}
use Rattle.vq_turns.specs.declared.outcome.Want.{Want}
use Rattle.vq_turns.specs.declared.outcome.Outcome.{Outcome}
use Rattle.vq_turns.specs.declared.outcome.Outcome.TheVariants.{Moved, Blocked, Ended}
use Rattle.vq_turns.specs.Programs.{is_deferred_queue}
use Rattle.vq_turns.specs.Turns.{Place, HostPlace, Scene, first_place, plays, world_after}
use Rattle.vq_actor.specs.Meanings.{Meaning, Other, IsEarlier, IsShownSince, next_task}
use Rattle.vq_actor.specs.Actors.{events_by}

pub record Staged : Type 0 where
  pub plan : Plan
  -- the place of each actor
  pub places : ActorName → Place
  -- the state, where it is told
  pub state : Option PointState
  -- the events that are noted, and those of them that were made, in order
  pub noted : Event → Bool
  pub events : List Event
  -- how far the record goes: its steps, and the refusals of lists
  pub steps : ℕ × ℕ

-- one actor of a stage, as an access that is lent for its turn serves it
abbrev pub part : Staged → ActorName → Meaning
part s a =
    record {
      plan = s.plan;
      actor = a;
      place = s.places a;
      recent = Other;
      state = s.state;
      noted = s.noted;
      events = s.events;
      steps = s.steps;
      lenders = [];
    }

-- Scenes

-- the host's place, with those of the submit actors that it serves
abbrev pub host_at : Plan → (ActorName → Place) → HostPlace
host_at p at =
    record {
      own = at HostActor;
      served = λ q. if is_deferred_queue p q then at (SubmitActor q) else first_place;
    }

-- The scene of actors at these places. The host has those of the deferred queues.
abbrev pub scene_over : Plan → PointState → (ActorName → Place) → Scene
scene_over p w at =
    record {
      world = w;
      host = host_at p at;
      submits = λ q. if is_deferred_queue p q then first_place else at (SubmitActor q);
      rings = λ q. at (RingActor q);
    }

-- Turns

-- The actors that a turn of one serves: the host serves the submit actors of deferred queues too.
abbrev pub Serves : Plan → ActorName → ActorName → Type 0
Serves p HostActor (SubmitActor q) = is_deferred_queue p q ≡ true
Serves p a b = b ≡ a

-- A turn of an actor, and of those that it serves. Where the state is told, its outcome and the places after it
-- are those of its definition, and the state after it is that after the outcome's event. What it came to, an
-- event or a want, is shown since the turn's start. It is `Ended` only where no task is left.
pub record IsPlay (old new : Staged) (shows : Outcome → ℕ × ℕ → Type 0) (a : ActorName) (outcome : Outcome) : Type 0 where
  pub plan : new.plan ≡ old.plan
  pub noted : new.noted ≡ old.noted
  pub steps : IsEarlier old.steps new.steps
  pub events : new.events ≡ old.events ++ filter old.noted (events_by outcome)
  pub others : (b : ActorName) → (Serves old.plan a b → ⊥) → new.places b ≡ old.places b
  pub named : (w : PointState) → old.state ≡ Some w →
      ((outcome, scene_over old.plan (world_after old.plan w outcome) new.places)
      ≡ plays old.plan (scene_over old.plan w old.places) a)
      × (new.state ≡ Some (world_after old.plan w outcome))
  pub made : (event : Event) → outcome ≡ Moved event → IsShownSince old.steps (shows (Moved event))
  pub shown : (want : Want) → outcome ≡ Blocked want → IsShownSince old.steps (shows (Blocked want))
  pub ended : outcome ≡ Ended → (b : ActorName) → Serves old.plan a b → next_task (part new b) ≡ None
