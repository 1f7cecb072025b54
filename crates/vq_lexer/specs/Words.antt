-- Words, wherever they lie in memory.
use Rattle.std.specs.Prelude.{ℕ, List, [], ◌∷◌, map, ◌≡◌, ◌==◌, ◌&&◌, ◌||◌, Bool, nat_le, true}
use Rattle.std.specs.Borrow.{Bor}
use Rattle.std.specs.List.{list_all}
use Rattle.std.specs.Simd.Lanes.{mask_l}
use Rattle.vq_model.specs.Text.{is_blank}

-- what words are, wherever they lie
abbrev pub texts : List (Bor (List ℕ)) → List (List ℕ)
texts words = map (λ w. w.now) words

-- a word, if it has a byte
abbrev pub some_word : List ℕ → List (List ℕ)
some_word [] = []
some_word (b ∷ bs) = (b ∷ bs) ∷ []

-- a space, or a byte that is plain, and neither a blank nor the hash sign
abbrev pub is_simple : ℕ → Bool
is_simple b = (b == 32) || (nat_le 36 b && nat_le b 126)

-- bytes are simple, and the bits of a mask stand for their blanks
pub record AreBlanks (bytes : List ℕ) (mask : ℕ) : Type 0 where
  pub simple : list_all is_simple bytes ≡ true
  pub bits : mask ≡ mask_l (map is_blank bytes)
