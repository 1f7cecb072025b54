-- Whether a trace is lawful, or its first line that is wrong. This project's own.
use Rattle.std.specs.Prelude.{ℕ, Bool, true, false, List, [], ◌∷◌, ◌+◌, ◌++◌, ◌≡◌, ◌≢◌, map, zero, suc}
use Rattle.std.specs.Prelude.{◌<◌}
use Rattle.std.specs.Option.{option_map_or}
use Rattle.std.specs.List.{slice_get}
use Rattle.vq_model.specs.declared.plan.Event.{Event}
use Rattle.vq_model.specs.Plan.{Plan}
use Rattle.vq_model.specs.Machine.{State}
use Rattle.vq_model.specs.SlowRun.{bytes_after}
use Rattle.vq_model.specs.OutputText.{answers_of, buffers_text}
use Rattle.vq_model.specs.Text.{lines_of}
use Rattle.vq_point_laws.specs.Points.{HistoryFrom, CanCome, opening_points}
use Rattle.vq_history_laws.specs.Histories.{points_after}
use Rattle.vq_core.specs.Tables.{jobs_left}
use Rattle.vq_given.specs.declared.given.GivenEvent.{GivenEvent}
use Rattle.vq_given.specs.declared.given.GivenLine.{GivenLine}
use Rattle.vq_given.specs.declared.given.GivenTrace.{GivenTrace}
use Rattle.vq_audit.specs.declared.verdict.Verdict.{Verdict}
use Rattle.vq_audit.specs.declared.verdict.Verdict.TheVariants.{Lawful, Broken}

-- The events

abbrev pub made_events : List GivenEvent → List Event
made_events given = map (λ x. x.event) given

-- the machine after all events of a trace
abbrev pub state_after : Plan → GivenTrace → State
state_after p given = (points_after p (made_events given.events)).machine

-- The first event that may not come where it stands: those before it may.
pub record IsWrongEvent (p : Plan) (events : List GivenEvent) (wrong : GivenEvent) : Type 0 where
  pub before : List GivenEvent
  pub after : List GivenEvent
  pub parts : events ≡ before ++ wrong ∷ after
  pub may : HistoryFrom p (opening_points p) (made_events before)
  pub refused : ¬ CanCome p (points_after p (made_events before)) wrong.event

-- The end

-- the line at the end says that no job is left, or how many are
abbrev pub SaysLeft : Bool → ℕ → ℕ → Type 0
SaysLeft finished said zero = finished ≡ true
SaysLeft finished said (suc left) = (finished ≡ false) × (said ≡ suc left)

abbrev pub left_after : Plan → GivenTrace → ℕ
left_after p given = jobs_left p (state_after p given).progress.finished

abbrev pub EndsTruly : Plan → GivenTrace → Type 0
EndsTruly p given = SaysLeft given.finished given.left (left_after p given)

-- The rest

-- the lines that follow the end: where no job is left, those of the answers and the buffers, and else none
abbrev pub lines_left : Plan → State → ℕ → List (List ℕ)
lines_left p s zero = lines_of (answers_of p s ++ buffers_text p.script.buffers (bytes_after p s.progress.applied))
lines_left p s (suc left) = []

abbrev pub true_rest : Plan → GivenTrace → List (List ℕ)
true_rest p given = lines_left p (state_after p given) (left_after p given)

abbrev pub texts_of : List GivenLine → List (List ℕ)
texts_of lines = map (λ x. x.text) lines

-- the number after the last of these lines, or after the end line where there is none
abbrev pub after_last : ℕ → List GivenLine → ℕ
after_last end [] = end + 1
after_last end (line ∷ lines) = after_last line.line lines

-- the first place at which the lines aren't the true ones: another line stands there, one too many, or none
pub record IsWrongPlace (truth : List (List ℕ)) (given : List GivenLine) (place : ℕ) : Type 0 where
  pub wrong : slice_get (texts_of given) place ≢ slice_get truth place
  pub before : (k : ℕ) → k < place → slice_get (texts_of given) k ≡ slice_get truth k

-- the number of the line at a place, where there is one
abbrev pub line_at : ℕ → List GivenLine → ℕ → ℕ
line_at end given place = option_map_or (λ x. x.line) (slice_get given place) (after_last end given)

-- Verdicts

-- A trace is lawful where each event may come in the world that those before it leave, the line at the end says how
-- many jobs are left, and the lines of the answers and the buffers follow, or none where jobs are left.
pub record IsLawful (p : Plan) (given : GivenTrace) : Type 0 where
  pub may : HistoryFrom p (opening_points p) (made_events given.events)
  pub end : EndsTruly p given
  pub rest : texts_of given.rest ≡ true_rest p given

-- The first line that is wrong: that of an event; or, where each event may come, the line at the end; or, where that
-- is true too, one of the lines that follow it, or the missing one after these.
pub data IsBroken (p : Plan) (given : GivenTrace) (line : ℕ) : Type 0 where
  AtEvent : (wrong : GivenEvent) → IsWrongEvent p given.events wrong → line ≡ wrong.line →
      IsBroken p given line
  AtEnd : HistoryFrom p (opening_points p) (made_events given.events) → ¬ EndsTruly p given →
      line ≡ given.end_line → IsBroken p given line
  InRest : HistoryFrom p (opening_points p) (made_events given.events) → EndsTruly p given →
      (place : ℕ) → IsWrongPlace (true_rest p given) given.rest place →
      line ≡ line_at given.end_line given.rest place → IsBroken p given line

-- The verdict on a trace.
abbrev pub IsVerdict : Plan → GivenTrace → Verdict → Type 0
IsVerdict p given Lawful = IsLawful p given
IsVerdict p given (Broken line) = IsBroken p given line
