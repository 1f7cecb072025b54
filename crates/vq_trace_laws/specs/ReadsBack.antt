-- A trace that is read back: what was made, and that it is lawful. This project's own.
use Rattle.std.specs.Prelude.{ℕ, ◌≡◌, ◌<◌, ◌^◌, List, map, Option, Ok}
use Rattle.vq_model.specs.declared.script.ActorName.{ActorName}
use Rattle.vq_model.specs.declared.plan.Event.{Event}
use Rattle.vq_model.specs.Plan.{Plan, line_of_job, line_of_command}
use Rattle.vq_given.specs.declared.given.GivenEvent.{GivenEvent}
use Rattle.vq_given.specs.declared.given.GivenTrace.{GivenTrace}
use Rattle.vq_given.specs.Reading.{read_trace}
use Rattle.vq_audit.specs.Verdicts.{IsLawful}
use Rattle.std.specs.List.{filter_map}
use Rattle.std.specs.Option.{option_map}
use Rattle.vq_replay.specs.declared.played.Played.{Played}
use Rattle.vq_replay.specs.Traces.{event_of}

-- The lines of a plan's jobs and commands have numbers that a numeral can hold. A script may begin with as many blank
-- lines as one likes, so this is no law on scripts: a line past that number couldn't be told in a trace. Lines of texts
-- that the program reads are counted in 32 bits.
pub record HasSmallLines (p : Plan) : Type 0 where
  pub jobs : (j : ℕ) → line_of_job p j < 2 ^ 64
  pub commands : (c : ℕ) → line_of_command p c < 2 ^ 64

-- a turn's event with its actor
abbrev pub Made : Type 0
Made = ActorName × Event

abbrev pub made_by : Played → Option Made
made_by x = option_map (λ event. (x.actor, event)) (event_of x)

abbrev pub made_of : List Played → List Made
made_of played = filter_map made_by played

abbrev pub given_of : List GivenEvent → List Made
given_of events = map (λ x. (x.actor, x.event)) events

-- The text of turns that were played is read as a trace, whatever number its first line has: the trace has the
-- events of the turns, each by its actor, and it is lawful.
pub record ReadsBack (p : Plan) (first : ℕ) (text : List ℕ) (played : List Played) : Type 0 where
  pub given : GivenTrace
  pub read : read_trace p first text ≡ Ok given
  pub made : given_of given.events ≡ made_of played
  pub lawful : IsLawful p given
