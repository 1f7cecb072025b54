-- The places of a pass's own actor and of the submit actors that it serves. This project's own.
use Rattle.std.specs.Prelude.{List, if◌then◌else◌}
use Rattle.std.specs.List.{slice_index_or}
use Rattle.vq_model.specs.declared.script.ActorName.{ActorName}
use Rattle.vq_model.specs.declared.script.ActorName.TheVariants.{Submit as SubmitActor}
use Rattle.vq_model.specs.Naming.{same_actor}
use Rattle.vq_turns.specs.Turns.{Place, first_place}
use Rattle.vq_actor.specs.Trackers.{Tracked}

-- the place of the own actor, and of the submit actor of each queue
pub record Seating : Type 0 where
  pub own : Tracked
  pub submits : List Tracked

-- a seat of no actor, where there is none
abbrev pub no_seat : Tracked
no_seat = record { place = first_place; slots = 0; room = 0 }

abbrev pub served_at : Seating → ActorName → Tracked
served_at s (SubmitActor q) = slice_index_or s.submits q no_seat
served_at s other = no_seat

abbrev pub seat_of : ActorName → Seating → ActorName → Tracked
seat_of owner s a = if same_actor owner a then s.own else served_at s a

abbrev pub places_of : ActorName → Seating → ActorName → Place
places_of owner s a = (seat_of owner s a).place
