-- What an actor's place says of a world, whole: all that the guard of the actor's next event needs, beside what
-- each world of a history keeps. This project's own.
use Rattle.std.specs.Prelude.{ℕ, ◌≡◌, Bool, true, false, if◌then◌else◌, List, [], ◌∷◌, take, drop}
use Rattle.std.specs.List.{list_any}
use Rattle.vq_model.specs.declared.script.ActorName.{ActorName}
use Rattle.vq_model.specs.Plan.{Plan}
use Rattle.vq_model.specs.Machine.{is_reached}
use Rattle.vq_model.specs.Naming.{same_actor}
use Rattle.vq_point_laws.specs.Points.{PointState, CanCome, after_event}
use Rattle.vq_turns.specs.declared.task.Task.{Task}
use Rattle.vq_turns.specs.declared.look.Holding.{Holding}
use Rattle.vq_turns.specs.declared.look.Seen.{Seen}
use Rattle.vq_turns.specs.Programs.{program}
use Rattle.vq_turns.specs.declared.outcome.Outcome.{Outcome}
use Rattle.vq_turns.specs.declared.outcome.Outcome.TheVariants.{Moved}
use Rattle.vq_turns.specs.Turns.{Place, Did, GoesOn, Ends}
use Rattle.vq_turn_laws.specs.Holdings.{HoldsTruly}
use Rattle.vq_turn_laws.specs.Places.{IsDone, IsLeft}
use Rattle.vq_turn_laws.specs.PlanParts.{HasOwnProgram}
use Rattle.vq_turn_laws.specs.Tasks.{IsEventOf, Each, finishes, waited_now, is_waiting, compared_now, is_asking, onto}
use Rattle.vq_turn_laws.specs.Worlds.{Sees}

-- An actor stands between the tasks before it, latest first, and those that are left: the ones are done, the
-- others aren't. What it holds is so, for the first job that is left; it holds nothing but in a wait, and where
-- its waiting has ended one of the needs is met.
pub record Stands (p : Plan) (w : PointState) (a : ActorName) (before after : List Task) (holding : List Holding)
    (met : Bool) : Type 0 where
  pub done : Each (IsDone w) before
  pub left : Each (IsLeft w) after
  pub holds : (j : ℕ) (js : List ℕ) → finishes after ≡ j ∷ js →
      HoldsTruly p w a before j (waited_now after) holding met
  pub between : is_waiting after ≡ false → (holding ≡ []) × (met ≡ false)
  pub reached : met ≡ true → list_any (is_reached w.machine.progress.payload) (waited_now after) ≡ true

-- What an actor saw is so, while it compares for its first job that is left; else it saw nothing.
pub record SawTruly (p : Plan) (w : PointState) (before after : List Task) (seen : List Seen) : Type 0 where
  pub sees : is_asking after ≡ true → (j : ℕ) (js : List ℕ) → finishes after ≡ j ∷ js →
      Sees p w j (compared_now before) seen
  pub unseen : is_asking after ≡ false → seen ≡ []

-- an actor's place is true of a world
pub record IsTrueFor (p : Plan) (w : PointState) (a : ActorName) (x : Place) : Type 0 where
  pub stands : Stands p w a (onto (take x.done (program p a)) []) (drop x.done (program p a)) x.holding x.met
  pub saw : SawTruly p w (onto (take x.done (program p a)) []) (drop x.done (program p a)) x.seen

-- What a turn comes to is so: its event may come and is one of the actor's, and the place that it leads to is
-- true.
abbrev pub IsTrueTurn : Plan → PointState → ActorName → Outcome → Place → Type 0
IsTrueTurn p w a (Moved x) y = CanCome p w x × IsEventOf p a x × IsTrueFor p (after_event p w x) a y
IsTrueTurn p w a other y = IsTrueFor p w a y

-- what a task of a turn comes to is so
abbrev pub IsTrueDid : Plan → PointState → ActorName → Did → Type 0
IsTrueDid p w a (GoesOn y) = IsTrueFor p w a y
IsTrueDid p w a (Ends outcome y) = IsTrueTurn p w a outcome y

-- The places of all actors

-- the places of a plan's actors are true
abbrev pub AreTrueFor : Plan → PointState → (ActorName → Place) → Type 0
AreTrueFor p w places = (a : ActorName) → HasOwnProgram p a → IsTrueFor p w a (places a)

-- the places of all actors after one of them went to another place
abbrev pub with_place : (ActorName → Place) → ActorName → Place → ActorName → Place
with_place places b y a = if same_actor a b then y else places a
