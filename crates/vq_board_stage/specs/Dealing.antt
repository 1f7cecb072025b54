-- Passes as the board deals them.
use Rattle.std.specs.Prelude.{ℕ, List, ◌≡◌, Some}
use Rattle.std.specs.List.{slice_get}
use Rattle.vq_board_laws.specs.declared.view.Role.{Role}
use Rattle.vq_board.specs.declared.parts.Board.{Board}
use Rattle.vq_board.specs.declared.parts.Pass.{Pass}
use Rattle.vq_board.specs.declared.parts.Passes.{Passes}
use Rattle.vq_board.specs.Named.{role_of, IsCut, IsFresh}

abbrev pub AllFresh : Board → List Pass → Type 0
AllFresh b xs = (k : ℕ) (x : Pass) → slice_get xs k ≡ Some x → IsFresh b x

-- the host's pass, which has done nothing but to deal the others
abbrev pub IsDealer : Board → Pass → Type 0
IsDealer b x = (n : ℕ) × IsCut b x n

-- the pass of the role, which has done nothing
pub record IsNew (b : Board) (x : Pass) (r : Role) : Type 0 where
  pub fresh : IsFresh b x
  pub role : role_of x ≡ r

-- all passes of a board, which have done nothing else
pub record AreNew (b : Board) (xs : Passes) : Type 0 where
  pub host : IsDealer b xs.host
  pub submits : AllFresh b xs.submits.items
  pub rings : AllFresh b xs.rings.items
  pub shelves : AllFresh b xs.shelves.items
