-- The place of an actor as an access over a core keeps it. This project's own.
use Rattle.std.specs.Prelude.{◌≡◌, ◌<◌, List, All, length, Some}
use Rattle.std.specs.List.{slice_get}
use Rattle.vq_model.specs.declared.script.ActorName.{ActorName}
use Rattle.vq_model.specs.declared.plan.Need.{Need}
use Rattle.vq_turns.specs.declared.task.Task.{Task}
use Rattle.vq_turns.specs.declared.task.Task.TheVariants.{AwaitNeeds}
use Rattle.vq_turns.specs.Programs.{program}
use Rattle.vq_turns.specs.Turns.{Place}
use Rattle.vq_turn_laws.specs.TruePlaces.{IsTrueFor}
use Rattle.vq_actor.specs.Trackers.{Tracked, FitsIn}
use Rattle.vq_core.specs.CoreState.{Course, world}

-- Where a wait is next, each reference is held for one of its needs.
abbrev pub HoldsForNeeds : List Task → Place → Type 0
HoldsForNeeds tasks x =
    (ns : List Need) → slice_get tasks x.done ≡ Some (AwaitNeeds ns) → All (λ h. h.need < length ns) x.holding

-- a seat has room for what an actor of a core's plan may add
pub record HasSeat (c : Course) (a : ActorName) (seat : Tracked) : Type 0 where
  pub fits : FitsIn (program c.plan a) seat
  pub for_needs : HoldsForNeeds (program c.plan a) seat.place

-- An access keeps the place of an actor of a core's plan, and the place is true of the core.
pub record IsSeated (c : Course) (a : ActorName) (seat : Tracked) : Type 0 where
  pub fits : FitsIn (program c.plan a) seat
  pub for_needs : HoldsForNeeds (program c.plan a) seat.place
  pub stands : ∥ IsTrueFor c.plan (world c) a seat.place ∥₁
