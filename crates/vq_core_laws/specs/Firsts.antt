-- Lists of which a first part is done. This project's own.
use Rattle.std.specs.Prelude.{ℕ, Bool, List, length, Some, ◌≡◌, ◌<◌, ◌≤◌, true, false}
use Rattle.std.specs.List.{slice_get}

-- so many of a list's first are done, and no others
pub record AreFirst (done : ℕ → Bool) (xs : List ℕ) (n : ℕ) : Type 0 where
  pub within : n ≤ length xs
  pub before : (i x : ℕ) → slice_get xs i ≡ Some x → i < n → done x ≡ true
  pub after : (i x : ℕ) → slice_get xs i ≡ Some x → n ≤ i → done x ≡ false

-- no number stands in a list twice
abbrev pub StandOnce : List ℕ → Type 0
StandOnce xs = (i k x : ℕ) → slice_get xs i ≡ Some x → slice_get xs k ≡ Some x → i ≡ k
