-- Turns over a cast, of which those that moved are kept. This project's own.
use Rattle.std.specs.Prelude.{ℕ, ◌≡◌, ◌<◌, ◌+◌, List, [], ◌++◌, length}
use Rattle.std.specs.List.{flat_map}
use Rattle.vq_model.specs.declared.script.ActorName.{ActorName}
use Rattle.vq_model.specs.declared.plan.Event.{Event}
use Rattle.vq_model.specs.Plan.{Plan}
use Rattle.vq_model.specs.Machine.{AreFinished}
use Rattle.vq_point_laws.specs.Points.{opening_points}
use Rattle.vq_turns.specs.Turns.{Scene, first_scene}
use Rattle.vq_progress_laws.specs.Movers.{round, rounds_of}
use Rattle.vq_progress_laws.specs.Scenes.{scene_after}
use Rattle.vq_core_run.specs.Casts.{Cast, scene}
use Rattle.vq_replay.specs.declared.played.Played.{Played}
use Rattle.vq_replay.specs.declared.rests.Rest.{Rest}
use Rattle.vq_replay.specs.Resting.{AreKnown}
use Rattle.vq_replay.specs.Rounds.{moved_from, moved_turns}
use Rattle.vq_replay.specs.Traces.{events_of, turn_line}

-- Turns of actors, numbered behind n others, led from a scene with a history to a cast; of them those that moved
-- are kept behind the turns that were.
pub record LeadsTo (p : Plan) (s : Scene) (before : List Event) (n : ℕ) (actors : List ActorName) (were : List Played)
    (x : Cast) (played : List Played) : Type 0 where
  pub plan : x.course.plan ≡ p
  pub there : scene x ≡ scene_after p s actors
  pub moved : played ≡ were ++ moved_from p (n + 1) s actors
  pub history : x.course.history ≡ before ++ events_of (moved_from p (n + 1) s actors)

-- So many rounds, of so many turns, were played over a new core, and no fewer finish it.
pub record HasGone (p : Plan) (rounds turns : ℕ) (x : Cast) (played : List Played) : Type 0 where
  pub leads : LeadsTo p (first_scene (opening_points p)) [] 0 (rounds_of rounds p) [] x played
  pub count : turns ≡ length (rounds_of rounds p)
  pub left : (m : ℕ) → m < rounds →
      ¬ AreFinished p (scene_after p (first_scene (opening_points p)) (rounds_of m p)).world.machine.progress

-- So many rounds, of so many turns, led here from a new core; what is known of the actors is so, and these are the
-- actors of a round.
pub record AreUnderWay (p : Plan) (rounds turns : ℕ) (x : Cast) (rests : List Rest)
    (each : List ActorName) : Type 0 where
  pub gone : HasGone p rounds turns x (moved_turns p rounds)
  pub known : AreKnown x.course.plan (scene x) each rests
  pub actors : each ≡ round p

-- The lines of the first of some turns stand in a text, and the others are kept.
pub record AreWritten (p : Plan) (turns : List Played) (text : List ℕ) (kept : List Played) : Type 0 where
  pub written : List Played
  pub both : written ++ kept ≡ turns
  pub lines : text ≡ flat_map (turn_line p) written
