-- Schedules that are played over a core with all actors. This project's own.
use Rattle.std.specs.Prelude.{ℕ, ◌≡◌, ◌+◌, ◌++◌, List, drop, take, Some}
use Rattle.std.specs.List.{flat_map, slice_get}
use Rattle.vq_model.specs.declared.script.ActorName.{ActorName}
use Rattle.vq_model.specs.declared.script.Turn.{Turn}
use Rattle.vq_model.specs.Plan.{Plan}
use Rattle.vq_history_laws.specs.Histories.{points_after}
use Rattle.vq_turns.specs.declared.outcome.Want.{Want}
use Rattle.vq_turns.specs.declared.outcome.Outcome.TheVariants.{Blocked}
use Rattle.vq_turns.specs.Turns.{played_from}
use Rattle.vq_turns.specs.Wants.{IsNotSo}
use Rattle.vq_core_run.specs.Casts.{Cast, scene}
use Rattle.vq_replay.specs.declared.played.Played.{Played}
use Rattle.vq_replay.specs.Traces.{actors_of, events_of, numbered_from, played_turns, turn_line}

-- Where a turn was blocked, the thing that its want names wasn't so in the state that the turns before it left.
abbrev pub AreBlockedSo : Plan → List Played → Type 0
AreBlockedSo p played =
    (n : ℕ) → (x : Played) → (want : Want) → slice_get played n ≡ Some x → x.outcome ≡ Blocked want →
    IsNotSo (points_after p (events_of (take n played))) want

-- the turns of actors over a cast, with their outcomes, numbered from a number on
abbrev pub plays_on : Cast → ℕ → List ActorName → List Played
plays_on x n actors = numbered_from n actors (played_from x.course.plan (scene x) actors)

-- So many turns of a schedule were played, and led here.
pub record HasPlayed (p : Plan) (turns : List Turn) (n : ℕ) (played : List Played) (x : Cast) : Type 0 where
  pub plan : x.course.plan ≡ p
  pub all : played_turns p turns ≡ played ++ plays_on x (n + 1) (actors_of (drop n turns))
  pub history : x.course.history ≡ events_of played
  pub blocked : AreBlockedSo p played

-- So many turns of a schedule were played, each with its line in a text, and led here.
pub record HasWritten (p : Plan) (turns : List Turn) (n : ℕ) (text : List ℕ) (x : Cast) : Type 0 where
  pub played : List Played
  pub goes : HasPlayed p turns n played x
  pub lines : text ≡ flat_map (turn_line p) played
