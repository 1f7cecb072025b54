-- Points that were found in use. This project's own.
use Rattle.std.specs.Prelude.{ℕ, List, [], ◌∷◌, ◌++◌, ◌≡◌, ◌≢◌, ◌⊎◌}
use Rattle.vq_point_laws.specs.PointWord.{parts}
use Rattle.vq_board_laws.specs.declared.view.View.{View}
use Rattle.vq_board_laws.specs.PointSteps.{sees, misses_point, retires}

-- the pass looked at the point and found a reference there; or found none, and a moment later another
-- word than at first, so that somebody had changed it
abbrev pub FindsInUse : View → View → ℕ → Type 0
FindsInUse v w q =
    ((n : ℕ) × ((parts n).refs ≢ 0) × (w ≡ sees v q n))
    ⊎ ((n found : ℕ) × (found ≢ n) × (w ≡ misses_point (sees v q n) q found))

-- each of these points was found in use, one after another
abbrev pub FindsAllInUse : List ℕ → View → View → Type 0
FindsAllInUse [] v w = w ≡ v
FindsAllInUse (q ∷ qs) v w = (u : View) × FindsInUse v u q × FindsAllInUse qs u w

-- Of these points those before q were found in use, and q had no reference: the pass took its operation off
-- it.
pub record FindsFree (qs : List ℕ) (v w : View) (q : ℕ) : Type 0 where
  pub front : List ℕ
  pub back : List ℕ
  pub are : qs ≡ front ++ q ∷ back
  pub found : View
  pub in_use : FindsAllInUse front v found
  pub word : ℕ
  pub unreferred : (parts word).refs ≡ 0
  pub after : w ≡ retires (sees found q word) q word
