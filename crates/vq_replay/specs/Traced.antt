-- What answers a schedule: the text of its turns, and what holds of it. This project's own.
use Rattle.std.specs.Prelude.{ℕ, ◌≡◌, List, ◌++◌}
use Rattle.vq_model.specs.declared.script.Turn.{Turn}
use Rattle.vq_model.specs.Plan.{Plan}
use Rattle.vq_model.specs.SlowRun.{bytes_after, final}
use Rattle.vq_model.specs.OutputText.{answers_of, buffers_text}
use Rattle.vq_model.specs.Outputs.{IsOutput}
use Rattle.vq_model.specs.Machine.{AreFinished, State, Run as IsRunOf}
use Rattle.vq_point_laws.specs.HistoryLaws.{PointLaw, PendingLaw}
use Rattle.vq_point_laws.specs.Points.{HistoryFrom, opening_points, steps_of}
use Rattle.vq_history_laws.specs.Histories.{points_after}
use Rattle.vq_replay.specs.Traces.{events_of, played_turns, trace_text}

-- the state of the machine after a schedule's turns
abbrev pub state_after_turns : Plan → List Turn → State
state_after_turns p turns = (points_after p (events_of (played_turns p turns))).machine

-- The text of a schedule's turns over one core of a lawful plan. The events of the turns that moved are a
-- history of the plan: without those that show nothing of the machine they are a run of it, and they keep the
-- point law and the pending law. Where all jobs are finished, the bytes are those that the plan leaves, and the
-- answers with them, which stand behind the line `finished`, are an output of the plan.
pub record IsTrace (p : Plan) (turns : List Turn) (text : List ℕ) : Type 0 where
  pub spelled : text ≡ trace_text p (played_turns p turns) (state_after_turns p turns)
  pub history : HistoryFrom p (opening_points p) (events_of (played_turns p turns))
  pub run : IsRunOf p (steps_of (events_of (played_turns p turns)))
  pub point_law : PointLaw p (events_of (played_turns p turns))
  pub pending_law : PendingLaw p (events_of (played_turns p turns))
  pub bytes : AreFinished p (state_after_turns p turns).progress →
      bytes_after p (state_after_turns p turns).progress.applied ≡ final p
  pub output : AreFinished p (state_after_turns p turns).progress →
      IsOutput p (answers_of p (state_after_turns p turns)
      ++ buffers_text p.script.buffers (bytes_after p (state_after_turns p turns).progress.applied))
