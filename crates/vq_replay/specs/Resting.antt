-- What is known of turns that are still to come. This project's own.
use Rattle.std.specs.Prelude.{ℕ, ◌≡◌, ◌<◌, false, List, length}
use Rattle.std.specs.List.{slice_index_or}
use Rattle.vq_model.specs.declared.script.ActorName.{ActorName}
use Rattle.vq_model.specs.declared.script.ActorName.TheVariants.{Host as HostActor, Submit as SubmitActor}
use Rattle.vq_model.specs.declared.script.ActorName.TheVariants.{Ring as RingActor}
use Rattle.vq_model.specs.Plan.{Plan}
use Rattle.vq_point_laws.specs.Points.{PointState}
use Rattle.vq_turns.specs.declared.outcome.Outcome.{Outcome}
use Rattle.vq_turns.specs.declared.outcome.Outcome.TheVariants.{Moved, Blocked, Ended}
use Rattle.vq_turns.specs.declared.outcome.Want.{Want}
use Rattle.vq_turns.specs.declared.outcome.Want.TheVariants.{Submitted, Released, Bound, Next, Signaled, Finished}
use Rattle.vq_turns.specs.declared.outcome.Want.TheVariants.{MemoryTurn, Exchange, Listed}
use Rattle.vq_turns.specs.Turns.{HostPlace, Place, Scene, host_turn, plays, turn_of}
use Rattle.vq_turns.specs.Wants.{IsNotSo}
use Rattle.vq_turn_laws.specs.Worlds.{InEachWorld}
use Rattle.vq_replay.specs.Rounds.{is_moved}
use Rattle.vq_replay.specs.declared.rests.Rest.{Rest}
use Rattle.vq_replay.specs.declared.rests.Rest.TheVariants.{Unknown, Over, Unsubmitted, Unreleased, Unbound, Unsignaled}
use Rattle.vq_replay.specs.declared.rests.Rest.TheVariants.{Unfinished}

-- A turn of an actor from a place makes no event, and leaves the place as it is.
pub record IsIdle (p : Plan) (w : PointState) (a : ActorName) (x : Place) : Type 0 where
  pub no_event : is_moved (turn_of p w a x).outcome ≡ false
  pub stays : (turn_of p w a x).place ≡ x

-- .. a turn of the host, which also serves the submit actors of deferred queues
pub record HostIsIdle (p : Plan) (w : PointState) (x : HostPlace) : Type 0 where
  pub no_event : is_moved (host_turn p w x).outcome ≡ false
  pub stays : (host_turn p w x).place ≡ x

-- .. a turn of an actor from where it stands in a scene, in whatever world
abbrev pub IsIdleIn : Plan → Scene → ActorName → PointState → Type 0
IsIdleIn p s HostActor w = HostIsIdle p w s.host
IsIdleIn p s (SubmitActor q) w = IsIdle p w (SubmitActor q) (s.submits q)
IsIdleIn p s (RingActor q) w = IsIdle p w (RingActor q) (s.rings q)

-- something holds in each world in which the thing isn't so that is waited for
abbrev pub HoldsUntil : Plan → Rest → (PointState → Type 0) → Type 0
HoldsUntil p Unknown P = Unit {0}
HoldsUntil p Over P = InEachWorld p P
HoldsUntil p (Unsubmitted j) P = InEachWorld p (λ w. IsNotSo w (Submitted j) → P w)
HoldsUntil p (Unreleased j) P = InEachWorld p (λ w. IsNotSo w (Released j) → P w)
HoldsUntil p (Unbound e) P = InEachWorld p (λ w. IsNotSo w (Bound e) → P w)
HoldsUntil p (Unsignaled e) P = InEachWorld p (λ w. IsNotSo w (Signaled e) → P w)
HoldsUntil p (Unfinished j) P = InEachWorld p (λ w. IsNotSo w (Finished j) → P w)

-- what is known of an actor's turns from where it stands in a scene, in whatever world it has them
abbrev pub Knows : Plan → Scene → ActorName → Rest → Type 0
Knows p s a r = HoldsUntil p r (IsIdleIn p s a)

-- what is known of the turns of an actor that waits for this
abbrev pub rest_until : Want → Rest
rest_until (Submitted j) = Unsubmitted j
rest_until (Released j) = Unreleased j
rest_until (Bound e) = Unbound e
rest_until (Next e) = Unbound e
rest_until (Signaled e) = Unsignaled e
rest_until (Finished j) = Unfinished j
rest_until MemoryTurn = Unknown
rest_until (Exchange e found) = Unknown
rest_until (Listed e) = Unknown

-- what a turn of a submit actor or of a ring tells of its next one
abbrev pub rest_of : Outcome → Rest
rest_of (Moved event) = Unknown
rest_of (Blocked want) = rest_until want
rest_of Ended = Over

-- .. of the host: where it is blocked it may serve another queue
abbrev pub host_rest : Outcome → Rest
host_rest (Moved event) = Unknown
host_rest (Blocked want) = Unknown
host_rest Ended = Over

abbrev pub rest_after : ActorName → Outcome → Rest
rest_after HostActor o = host_rest o
rest_after (SubmitActor q) o = rest_of o
rest_after (RingActor q) o = rest_of o

-- Scenes

-- A turn in a scene makes no event, and leaves the scene as it is.
pub record ChangesNothing (p : Plan) (s : Scene) (a : ActorName) : Type 0 where
  pub no_event : is_moved (plays p s a).0 ≡ false
  pub stays : (plays p s a).1 ≡ s

-- no actor has two places among these
abbrev pub AreApart : List ActorName → Type 0
AreApart actors =
    (d : ActorName) (i k : ℕ) → i < length actors → k < length actors →
    slice_index_or actors i d ≡ slice_index_or actors k d → i ≡ k

-- What is known of these actors, each at its place among them, is so in a scene.
pub record AreKnown (p : Plan) (s : Scene) (actors : List ActorName) (rests : List Rest) : Type 0 where
  pub count : length rests ≡ length actors
  pub each : (d : ActorName) (i : ℕ) → i < length actors →
      Knows p s (slice_index_or actors i d) (slice_index_or rests i Unknown)
