-- The text of played turns. The format is this project's own.
use Rattle.std.specs.Prelude.{ℕ, Bool, List, [], ◌∷◌, ◌+◌, ◌++◌, codes, map, if◌then◌else◌}
use Rattle.std.specs.Prelude.{Option, Some, None, zero}
use Rattle.std.specs.Fmt.{decimal}
use Rattle.std.specs.List.{slice_get, flat_map, filter_map}
use Rattle.std.specs.Option.{option_map_or}
use Rattle.vq_model.specs.declared.script.ActorName.{ActorName}
use Rattle.vq_model.specs.declared.script.Turn.{Turn}
use Rattle.vq_model.specs.declared.plan.Event.{Event}
use Rattle.vq_model.specs.declared.plan.Event.TheVariants.{Submit, Take, Release, Bind, Refer, Look, Unref, Complete}
use Rattle.vq_model.specs.declared.plan.Event.TheVariants.{Free, Start, Apply, Signal, Finish, Answer}
use Rattle.vq_model.specs.Plan.{Plan, line_of_job, line_of_command}
use Rattle.vq_model.specs.Machine.{State}
use Rattle.vq_model.specs.SlowRun.{bytes_after}
use Rattle.vq_model.specs.OutputText.{answer_words, answers_of, buffers_text, line_feed}
use Rattle.vq_model.specs.Canonical.{line_text}
use Rattle.vq_model.specs.Naming.{semaphore_name, actor_word}
use Rattle.vq_point_laws.specs.Points.{opening_points}
use Rattle.vq_core.specs.Tables.{jobs_left}
use Rattle.vq_turns.specs.declared.outcome.Outcome.{Outcome}
use Rattle.vq_turns.specs.declared.outcome.Outcome.TheVariants.{Moved, Blocked, Ended}
use Rattle.vq_turns.specs.Turns.{first_scene, played_from}
use Rattle.vq_replay.specs.declared.played.Played.{Played}

-- Played turns

-- outcomes with their actors, numbered from a number on
abbrev pub numbered_from : ℕ → List ActorName → List Outcome → List Played
numbered_from n (a ∷ actors) (o ∷ outcomes) =
    record { number = n; actor = a; outcome = o } ∷ numbered_from (n + 1) actors outcomes
numbered_from n actors outcomes = []

abbrev pub actors_of : List Turn → List ActorName
actors_of turns = map (λ t. t.actor) turns

-- The turns of a schedule, in order and numbered from 1, each with its outcome in the state that the
-- turns before it leave.
abbrev pub played_turns : Plan → List Turn → List Played
played_turns p turns =
    numbered_from 1 (actors_of turns) (played_from p (first_scene (opening_points p)) (actors_of turns))

abbrev pub event_of : Played → Option Event
event_of x = by_outcome x.outcome
  where
    by_outcome : Outcome → Option Event
    by_outcome (Moved event) = Some event
    by_outcome other = None

-- the events of the turns that moved
abbrev pub events_of : List Played → List Event
events_of played = filter_map event_of played

-- Words

-- a signal operation: the name of its semaphore or fence, and its value
abbrev pub op_words : Plan → ℕ → List (List ℕ)
op_words p e =
    option_map_or (λ o. semaphore_name p.script o.chain ∷ decimal o.value ∷ []) (slice_get p.ops e) []

-- where a point comes from
abbrev pub taken_word : Bool → List ℕ
taken_word fresh = if fresh then codes "fresh" else codes "reused"

abbrev pub event_words : Plan → Event → List (List ℕ)
event_words p (Submit j) = codes "submit" ∷ decimal (line_of_job p j) ∷ []
event_words p (Take e q fresh) =
    codes "take" ∷ (op_words p e ++ taken_word fresh ∷ decimal q ∷ [])
event_words p (Release j) = codes "release" ∷ decimal (line_of_job p j) ∷ []
event_words p (Bind e q) = codes "bind" ∷ (op_words p e ++ decimal q ∷ [])
event_words p (Refer a q e) = codes "refer" ∷ decimal q ∷ op_words p e
event_words p (Look a q e) = codes "look" ∷ decimal q ∷ op_words p e
event_words p (Unref a q e) = codes "unref" ∷ decimal q ∷ op_words p e
event_words p (Complete e) = codes "complete" ∷ op_words p e
event_words p (Free q) = codes "free" ∷ decimal q ∷ []
event_words p (Start j) = codes "start" ∷ decimal (line_of_job p j) ∷ []
event_words p (Apply j c) = codes "apply" ∷ decimal (line_of_command p c) ∷ []
event_words p (Signal e) = codes "signal" ∷ op_words p e
event_words p (Finish j) = codes "finish" ∷ decimal (line_of_job p j) ∷ []
event_words p (Answer j a) = codes "answer" ∷ decimal (line_of_job p j) ∷ answer_words a ∷ []

abbrev pub outcome_words : Plan → Outcome → List (List ℕ)
outcome_words p (Moved event) = event_words p event
outcome_words p (Blocked want) = codes "-" ∷ []
outcome_words p Ended = codes "." ∷ []

-- The text

-- a line for each played turn
abbrev pub turn_line : Plan → Played → List ℕ
turn_line p x = line_text (decimal x.number ∷ actor_word p.script x.actor ∷ outcome_words p x.outcome)

-- the answers and the buffers of a state in which all jobs are finished
abbrev pub finished_text : Plan → State → List ℕ
finished_text p s =
    codes "finished" ++ line_feed ++ answers_of p s
    ++ buffers_text p.script.buffers (bytes_after p s.progress.applied)

-- the text of a state by how many jobs are left
abbrev pub end_text : Plan → State → ℕ → List ℕ
end_text p s zero = finished_text p s
end_text p s left = codes "unfinished " ++ decimal left ++ line_feed

-- the text of played turns that led to a state
abbrev pub trace_text : Plan → List Played → State → List ℕ
trace_text p played s = flat_map (turn_line p) played ++ end_text p s (jobs_left p s.progress.finished)
