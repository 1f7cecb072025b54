-- Lists of numbers: what stands in one, and that they rise.
-- This project's own.
use Rattle.std.specs.Prelude.{ℕ, ◌≡◌, ◌<◌, ◌==◌, Bool, true, List, [], ◌∷◌}
use Rattle.std.specs.List.{list_any}

-- whether a number stands in a list
abbrev pub has : List ℕ → ℕ → Bool
has xs x = list_any (λ y. y == x) xs

-- numbers that rise
abbrev pub AreRising : List ℕ → Type 0
AreRising [] = Unit {0}
AreRising (x ∷ xs) = ((y : ℕ) → has xs y ≡ true → x < y) × AreRising xs

-- each number is above the one before it, the first above this one
abbrev pub AreRisingFrom : ℕ → List ℕ → Type 0
AreRisingFrom n [] = Unit {0}
AreRisingFrom n (x ∷ xs) = (n < x) × AreRisingFrom x xs
