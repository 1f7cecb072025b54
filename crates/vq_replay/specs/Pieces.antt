-- Words in rooms of their own. This project's own.
use Rattle.std.specs.Prelude.{ℕ, ◌≡◌, ◌≤◌, List, [], MatchOption, take}
use Rattle.std.specs.List.{slice_get}
use Rattle.vq_replay.specs.declared.pieces.Piece.{Piece}

-- a piece has these words
pub record IsPiece (words : List ℕ) (x : Piece) : Type 0 where
  pub short : x.len ≤ 48
  pub spelled : take x.len x.bytes ≡ words

-- pieces have the words of all numbers; where there is no piece there are no words
abbrev pub Spell : (ℕ → List ℕ) → List Piece → Type 0
Spell f pieces = (k : ℕ) → MatchOption (slice_get pieces k) (f k ≡ []) (IsPiece (f k))
