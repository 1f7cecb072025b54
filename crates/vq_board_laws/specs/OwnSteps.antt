-- What the record of a pass's steps shows: the steps of a view, of which the last stands first. They are
-- numbered from 1. This project's own.
use Rattle.std.specs.Prelude.{ℕ, List, [], ◌∷◌, ◌≡◌, ◌≢◌, ◌≤◌, ◌⊎◌, length, false, true}
use Rattle.vq_ground.specs.Lists.{has}
use Rattle.vq_point_laws.specs.PointWord.{parts}
use Rattle.vq_board_laws.specs.declared.view.OwnStep.{OwnStep}
use Rattle.vq_board_laws.specs.declared.view.View.{View}
use Rattle.vq_board_laws.specs.Words.{op_word, point_word, Carries}

-- of the steps with numbers above n, one is so; P also reads the steps before it
abbrev pub HasStep : ℕ → (OwnStep → List OwnStep → Type 0) → List OwnStep → Type 0
HasStep n P [] = ⊥
HasStep n P (s ∷ ss) = ((n ≤ length ss) × P s ss) ⊎ HasStep n P ss

-- the last of the steps at a word has a number above n, and what it found is so
abbrev pub HasBefore : ℕ → ℕ → (ℕ → Type 0) → List OwnStep → Type 0
HasBefore n word P [] = ⊥
HasBefore n word P (s ∷ ss) =
    ((s.word ≡ word) × (n ≤ length ss) × P s.found) ⊎ ((s.word ≢ word) × HasBefore n word P ss)

-- the last two steps at a word, of which the first has a number above n, found different numbers
abbrev pub HasChanged : ℕ → ℕ → List OwnStep → Type 0
HasChanged n word [] = ⊥
HasChanged n word (s ∷ ss) =
    ((s.word ≡ word) × HasBefore n word (λ found. s.found ≢ found) ss)
    ⊎ ((s.word ≢ word) × HasChanged n word ss)

-- the step showed the operation unmade: it found it unbound, or found a point that carries it
-- unsignaled
abbrev pub IsUnmadeStep : ℕ → OwnStep → Type 0
IsUnmadeStep e s =
    ((s.word ≡ op_word e) × (s.found ≡ 0))
    ⊎ ((q : ℕ) × (s.word ≡ point_word q) × Carries s.found e × ((parts s.found).signaled ≡ false))

-- the last step showed the operation unmade, and it is noted
pub record ShowsUnmade (v : View) (e : ℕ) : Type 0 where
  pub last : OwnStep
  pub before : List OwnStep
  pub are : v.steps ≡ last ∷ before
  pub shows : IsUnmadeStep e last
  pub noted : has v.unmade e ≡ true
