-- What a turn leaves as it is, as numbers that nothing else has. This project's own.
use Rattle.std.specs.Prelude.{ℕ, List, [], ◌∷◌, ◌++◌}
use base.Stored.{Gv, gnil, gnum, gcons}
use Rattle.atomic_table.specs.Seated.{TableId}
use Rattle.vq_model.specs.declared.script.ActorName.{ActorName}
use Rattle.vq_model.specs.contracts.script.ActorName as actor_of
use Rattle.vq_access_laws.specs.AccessMeanings.{names_of}
use Rattle.vq_access.specs.Seatings.{Seating}
use Rattle.vq_access.specs.contracts.seats.Seats as seats_of

-- a ghost value, part by part
abbrev pub numbers_of : Gv → List ℕ
numbers_of gnil = 0 ∷ []
numbers_of (gnum n) = 1 ∷ n ∷ []
numbers_of (gcons a b) = 2 ∷ (numbers_of a ++ numbers_of b)

abbrev pub seats_code : Seating → Gv
seats_code s = seats_of.the_row.coded.code s

abbrev pub actor_code : ActorName → Gv
actor_code a = actor_of.the_row.coded.code a

-- whose pass it is, the places before the turn, and the board's table
abbrev pub pins : ActorName → Seating → TableId → List ℕ
pins owner s z = numbers_of (actor_code owner) ++ (numbers_of (seats_code s) ++ names_of z)
