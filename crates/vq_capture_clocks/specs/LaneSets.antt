-- Sets of the fifteen lanes of a number, as bits by their places.
use Rattle.std.specs.Prelude.{ℕ, Bool, List, [], ◌∷◌, ◌+◌, ◌*◌, ◌==◌, filter, map}
use Rattle.std.specs.Int.{bit_at}

abbrev pub has_lane : ℕ → ℕ → Bool
has_lane set place = bit_at set place == 1

abbrev pub every_place : List ℕ
every_place = 0 ∷ 1 ∷ 2 ∷ 3 ∷ 4 ∷ 5 ∷ 6 ∷ 7 ∷ 8 ∷ 9 ∷ 10 ∷ 11 ∷ 12 ∷ 13 ∷ 14 ∷ []

-- the lanes of a number that are in a set
abbrev pub set_lanes : ℕ → ℕ → List ℕ
set_lanes number set = map (λ place. 15 * number + place) (filter (has_lane set) every_place)
