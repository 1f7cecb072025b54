-- What clocks tell of some lines, and of those from a number on.
use Rattle.std.specs.Prelude.{ℕ, Bool, List, ◌≡◌, ◌≤◌, ◌<◌, ◌||◌, nat_le, true, length}
use Rattle.std.specs.List.{slice_index_or}
use Rattle.vq_ground.specs.Lists.{has}
use Rattle.vq_capture_clocks.specs.Clocks.{tells}

-- whether a line is one of some, or one from a number on
abbrev pub is_listed : List ℕ → ℕ → ℕ → Bool
is_listed lines next line = nat_le next line || has lines line

-- Clocks that tell the same of each lane, for these lines.
abbrev pub TellsOf : List ℕ → ℕ → (ℕ → ℕ) → (ℕ → ℕ) → Type 0
TellsOf lines next c d = (line lane : ℕ) → is_listed lines next line ≡ true → tells line lane c ≡ tells line lane d

-- no line is below one in front of it
abbrev pub AreInOrder : List ℕ → Type 0
AreInOrder lines =
    (i k d : ℕ) → i ≤ k → k < length lines → slice_index_or lines i d ≤ slice_index_or lines k d
