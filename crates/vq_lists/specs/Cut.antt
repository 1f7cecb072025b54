-- A list of numbers, cut in rows. This project's own.
use Rattle.std.specs.Prelude.{ℕ, zero, suc, ◌≡◌, ◌≤◌, List, [], ◌∷◌, get_or}
use Rattle.std.specs.List.{slice_range}

-- the rows of a list from a place on, each of which ends at one of these places
abbrev pub rows_from : List ℕ → ℕ → List ℕ → List (List ℕ)
rows_from numbers start [] = []
rows_from numbers start (end ∷ ends) = slice_range numbers start end ∷ rows_from numbers end ends

-- these places come one after another from a place on, and the last of them is the list's end
abbrev pub AreEnds : ℕ → List ℕ → ℕ → Type 0
AreEnds start [] whole = start ≡ whole
AreEnds start (end ∷ ends) whole = (start ≤ end) × AreEnds end ends whole

-- where a row begins that is cut off from a place on: at the end of the one before it
abbrev pub start_of : ℕ → List ℕ → ℕ → ℕ
start_of start ends zero = start
start_of start ends (suc n) = get_or ends n 0
