-- Rooms of actors that have taken no turn yet. This project's own.
use Rattle.std.specs.Prelude.{◌≡◌, true, [], None}
use Rattle.vq_model.specs.declared.script.ActorName.{ActorName}
use Rattle.vq_model.specs.Plan.{Plan}
use Rattle.vq_turns.specs.Turns.{first_place}
use Rattle.vq_access_laws.specs.Causes.{Refusals}
use Rattle.vq_access.specs.Seatings.{Seating, places_of}
use Rattle.vq_access.specs.Served.{is_served}
use Rattle.vq_board_run.specs.declared.lead.Lead.{Lead}
use Rattle.vq_board_run.specs.Rooming.{IsIdle, Room, view_of}

-- the owner, and each actor that it serves, is at the first place of its program
abbrev pub AreFirstPlaces : Plan → ActorName → Seating → Type 0
AreFirstPlaces p owner s = (b : ActorName) → is_served p owner b ≡ true → places_of owner s b ≡ first_place

abbrev pub no_refusals : Refusals
no_refusals = record { count = 0; last = None }

-- The room's pass has made no step and told nothing, all places are the first, and no lists refused anything.
pub record IsUnused (p : Plan) (r : Room) : Type 0 where
  pub idle : IsIdle p r.owner (view_of r)
  pub places : AreFirstPlaces p r.owner r.seats
  pub refused : r.refused ≡ no_refusals

-- so it is with the host's room, and no answer is kept
pub record IsUnusedLead (p : Plan) (l : Lead) : Type 0 where
  pub room : IsUnused p l.room
  pub answers : l.answers.items ≡ []
