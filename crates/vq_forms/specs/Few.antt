-- The first words of a line that has many.
use Rattle.std.specs.Prelude.{ℕ, ◌≡◌, ◌<◌, Bool, true, false, List, ◌++◌, length}

-- More words follow these 63.
pub record AreCutOff (first words : List (List ℕ)) : Type 0 where
  pub more : List (List ℕ)
  pub parts : first ++ more ≡ words
  pub many : length first ≡ 63
  pub some : 0 < length more

-- These are all words, or the first of them, of which more follow.
abbrev pub AreFirst : List (List ℕ) → List (List ℕ) → Bool → Type 0
AreFirst first words true = first ≡ words
AreFirst first words false = AreCutOff first words
