-- Actors over one core, each with its place. This project's own.
use Rattle.std.specs.Prelude.{ℕ, ◌≡◌, ◌<◌, Bool, true, false, List, length, Some}
use Rattle.std.specs.List.{slice_index_or}
use Rattle.vq_model.specs.declared.plan.Event.{Event}
use Rattle.vq_model.specs.declared.script.ActorName.{ActorName}
use Rattle.vq_model.specs.declared.script.ActorName.TheVariants.{Host as HostActor, Submit as SubmitActor}
use Rattle.vq_model.specs.declared.script.ActorName.TheVariants.{Ring as RingActor}
use Rattle.vq_model.specs.ValidScripts.{is_immediate_queue}
use Rattle.vq_model.specs.Plan.{Plan}
use Rattle.vq_turns.specs.Turns.{Place, Scene, first_place, turn_of, plays}
use Rattle.vq_turns.specs.declared.outcome.Outcome.{Outcome}
use Rattle.vq_turns.specs.declared.outcome.Outcome.TheVariants.{Moved}
use Rattle.vq_turn_laws.specs.TruePlaces.{AreTrueFor}
use Rattle.vq_actor.specs.Actors.{Acting}
use Rattle.vq_actor.specs.Companies.{member_at}
use Rattle.vq_actor.specs.Stages.{Staged, scene_over}
use Rattle.vq_actor.specs.Trackers.{Tracked, FitsIn}
use Rattle.vq_core.specs.CoreState.{Course, world}
use Rattle.vq_core_run.specs.CoreAccesses.{with_event}
use Rattle.vq_core_run.specs.Seats.{HasSeat, IsSeated}

-- what an outcome leaves of a core
abbrev pub course_after : Course → Outcome → Course
course_after c (Moved event) = with_event c event
course_after c other = c

-- A turn of an actor over a core and a seat: its outcome and the place after it are those of the definition, the
-- core has one event more where the turn moved, and the place is true again.
pub record TookTurn (c d : Course) (a : ActorName) (x y : Tracked) (outcome : Outcome) : Type 0 where
  pub turned : record { outcome = outcome; place = y.place } ≡ turn_of c.plan (world c) a x.place
  pub course : d ≡ course_after c outcome
  pub seated : IsSeated d a y

-- Seats

-- a seat of no actor, where there is none
abbrev pub no_seat : Tracked
no_seat = record { place = first_place; slots = 0; room = 0 }

abbrev pub seat_at : List Tracked → ℕ → Tracked
seat_at xs q = slice_index_or xs q no_seat

-- the seats of the first n of these actors, before their first turns
pub record AreFirst (actors : List Acting) (n : ℕ) (xs : List Tracked) : Type 0 where
  pub count : length xs ≡ n
  pub places : (q : ℕ) → q < n → (seat_at xs q).place ≡ first_place
  pub fits : (q : ℕ) → q < n → FitsIn (member_at actors q).tasks (seat_at xs q)

-- the place of each actor, by its seat
abbrev pub places_of : Tracked → List Tracked → List Tracked → ActorName → Place
places_of host submits rings HostActor = host.place
places_of host submits rings (SubmitActor q) = (seat_at submits q).place
places_of host submits rings (RingActor q) = (seat_at rings q).place

-- a core's plan and history, with the seat of the host, and of the submit actor and the ring of each queue
pub record Cast : Type 0 where
  pub course : Course
  pub host : Tracked
  pub submits : List Tracked
  pub rings : List Tracked

abbrev pub cast : Course → Tracked → List Tracked → List Tracked → Cast
cast c host submits rings = record { course = c; host = host; submits = submits; rings = rings }

abbrev pub places : Cast → ActorName → Place
places x = places_of x.host x.submits x.rings

-- no actor did anything
abbrev pub first_places : ActorName → Place
first_places a = first_place

-- Each seat is one of an actor of the core's plan, and all places are true of the core.
pub record AreSeated (c : Course) (host : Tracked) (submits rings : List Tracked) : Type 0 where
  pub host_seat : HasSeat c HostActor host
  pub submit_count : length submits ≡ length c.plan.script.queues
  pub submit_seats : (q : ℕ) → q < length submits → HasSeat c (SubmitActor q) (seat_at submits q)
  pub ring_count : length rings ≡ length c.plan.script.queues
  pub ring_seats : (q : ℕ) → q < length rings → HasSeat c (RingActor q) (seat_at rings q)
  pub stands : AreTrueFor c.plan (world c) (places_of host submits rings)

-- an actor of a plan that moves batches by itself
abbrev pub HasActor : Plan → ActorName → Type 0
HasActor p HostActor = Unit {0}
HasActor p (SubmitActor q) = (q < length p.script.queues) × (is_immediate_queue p.script q ≡ false)
HasActor p (RingActor q) = q < length p.script.queues

-- over a core each event is noted
abbrev pub each_event : Event → Bool
each_event event = true

-- a core with the places of all actors, as a stage of turns
abbrev pub staged_of : Cast → Staged
staged_of x =
    record {
      plan = x.course.plan;
      places = places x;
      state = Some (world x.course);
      noted = each_event;
      events = x.course.history;
      steps = (0, 0);
    }

-- Turns

abbrev pub scene : Cast → Scene
scene x = scene_over x.course.plan (world x.course) (places x)

-- A turn: what it comes to, and what it leaves.
pub record Plays (old new : Cast) (a : ActorName) (outcome : Outcome) : Type 0 where
  pub played : (outcome, scene new) ≡ plays old.course.plan (scene old) a
  pub course : new.course ≡ course_after old.course outcome
