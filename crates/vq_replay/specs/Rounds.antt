-- Rounds that are played over a core until all jobs are finished, and their text. This project's own.
use Rattle.std.specs.Prelude.{ℕ, ◌≡◌, ◌≤◌, Bool, true, false, List, ◌++◌, filter}
use Rattle.std.specs.List.{flat_map}
use Rattle.vq_model.specs.declared.script.ActorName.{ActorName}
use Rattle.vq_model.specs.Plan.{Plan}
use Rattle.vq_model.specs.Machine.{AreFinished, State, Run as IsRunOf}
use Rattle.vq_model.specs.OutputText.{answers_of, buffers_text}
use Rattle.vq_model.specs.Outputs.{IsOutput}
use Rattle.vq_model.specs.SlowRun.{bytes_after, final}
use Rattle.vq_point_laws.specs.HistoryLaws.{PointLaw, PendingLaw}
use Rattle.vq_point_laws.specs.Points.{HistoryFrom, opening_points, steps_of}
use Rattle.vq_history_laws.specs.Histories.{acts, points_after}
use Rattle.vq_turns.specs.declared.outcome.Outcome.{Outcome}
use Rattle.vq_turns.specs.declared.outcome.Outcome.TheVariants.{Moved}
use Rattle.vq_turns.specs.Turns.{Scene, first_scene, played_from}
use Rattle.vq_progress_laws.specs.Movers.{rounds_of}
use Rattle.vq_progress_laws.specs.Scenes.{FinishIn}
use Rattle.vq_core.specs.CoreState.{Course, world}
use Rattle.vq_replay.specs.declared.played.Played.{Played}
use Rattle.vq_replay.specs.Traces.{events_of, finished_text, numbered_from, turn_line}

-- Turns

abbrev pub is_moved : Outcome → Bool
is_moved (Moved event) = true
is_moved other = false

abbrev pub has_moved : Played → Bool
has_moved x = is_moved x.outcome

-- the turns of actors from a scene on that moved; their numbers count all turns, from a number on
abbrev pub moved_from : Plan → ℕ → Scene → List ActorName → List Played
moved_from p n s actors = filter has_moved (numbered_from n actors (played_from p s actors))

-- the turns that moved of so many rounds over a new core, by their numbers among all turns
abbrev pub moved_turns : Plan → ℕ → List Played
moved_turns p rounds = moved_from p 1 (first_scene (opening_points p)) (rounds_of rounds p)

abbrev pub state_after_rounds : Plan → ℕ → State
state_after_rounds p rounds = (points_after p (events_of (moved_turns p rounds))).machine

-- What rounds come to: the least number of them after which all jobs are finished, which is at most that of the
-- acts; of their turns those that moved, in their order; and a core with the events of these.
pub record HaveFinished (p : Plan) (played : List Played) (core : Course) : Type 0 where
  pub rounds : ℕ
  pub few : rounds ≤ acts p
  pub finish : FinishIn p (first_scene (opening_points p)) rounds
  pub moved : played ≡ moved_turns p rounds
  pub course : core ≡ record { plan = p; history = events_of (moved_turns p rounds) }
  pub finished : AreFinished p (world core).machine.progress

-- The text

-- The text of rounds over one core of a lawful plan, until all jobs are finished: a line for each turn that moved,
-- then the line `finished`, the answers and the buffers. The events of the turns are a history of the plan: without
-- those that show nothing of the machine they are a run of it, and they keep the point law and the pending law. The
-- bytes are those that the plan leaves, and the answers with the buffers are an output of the plan.
pub record IsRoundsTrace (p : Plan) (text : List ℕ) : Type 0 where
  pub rounds : ℕ
  pub few : rounds ≤ acts p
  pub finish : FinishIn p (first_scene (opening_points p)) rounds
  pub spelled : text
      ≡ flat_map (turn_line p) (moved_turns p rounds) ++ finished_text p (state_after_rounds p rounds)
  pub finished : AreFinished p (state_after_rounds p rounds).progress
  pub history : HistoryFrom p (opening_points p) (events_of (moved_turns p rounds))
  pub run : IsRunOf p (steps_of (events_of (moved_turns p rounds)))
  pub point_law : PointLaw p (events_of (moved_turns p rounds))
  pub pending_law : PendingLaw p (events_of (moved_turns p rounds))
  pub bytes : bytes_after p (state_after_rounds p rounds).progress.applied ≡ final p
  pub output : IsOutput p (answers_of p (state_after_rounds p rounds)
      ++ buffers_text p.script.buffers (bytes_after p (state_after_rounds p rounds).progress.applied))
