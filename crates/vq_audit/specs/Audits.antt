-- What an audit asks for and what it shows. This project's own.
use Rattle.std.specs.Prelude.{ℕ, ◌≡◌, ◌<◌, ◌+◌, ◌^◌, List, Ok, length}
use Rattle.vq_model.specs.declared.plan.Event.{Event}
use Rattle.vq_model.specs.Plan.{Plan}
use Rattle.vq_model.specs.Machine.{Run}
use Rattle.vq_model.specs.Text.{lines_of}
use Rattle.vq_point_laws.specs.HistoryLaws.{PointLaw, PendingLaw}
use Rattle.vq_point_laws.specs.Points.{steps_of}
use Rattle.vq_given.specs.declared.given.GivenEvent.{GivenEvent}
use Rattle.vq_given.specs.declared.given.GivenTrace.{GivenTrace}
use Rattle.vq_given.specs.Reading.{read_trace}
use Rattle.vq_audit.specs.declared.verdict.Verdict.{Verdict}
use Rattle.vq_audit.specs.declared.verdict.Verdict.TheVariants.{Lawful}
use Rattle.vq_audit.specs.Verdicts.{IsWrongEvent}

-- A trace was read for a plan, from lines whose numbers fit.
pub record WasRead (p : Plan) (given : GivenTrace) : Type 0 where
  pub first : ℕ
  pub text : List ℕ
  pub read : read_trace p first text ≡ Ok given
  pub fits : first + length (lines_of text) < 2 ^ 32

-- Events are a run of the plan without those that show nothing of the machine, and keep the point law and the
-- pending law.
pub record KeepLaws (p : Plan) (events : List Event) : Type 0 where
  pub run : Run p (steps_of events)
  pub points : PointLaw p events
  pub pending : PendingLaw p events

-- what holds where a verdict says that a trace is lawful
abbrev pub IfLawful : Verdict → Type 0 → Type 0
IfLawful Lawful P = P
IfLawful other P = Unit {0}

-- the line of the first event that may not come
abbrev pub IsWrongLine : Plan → List GivenEvent → ℕ → Type 0
IsWrongLine p events line = (wrong : GivenEvent) × IsWrongEvent p events wrong × (line ≡ wrong.line)
