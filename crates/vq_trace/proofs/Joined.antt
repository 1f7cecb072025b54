-- Words with a space between two, as the first word and each other behind a space.
use Rattle.std.proofs.Common.{ℕ, ◌≡◌, List, [], ◌∷◌, ◌++◌, sym, ap}
use Rattle.std.specs.Borrow.{Bor}
use Rattle.std.specs.List.{flat_map, join_with_byte}
use Rattle.std.proofs.lemmas.List.{append-nil}
use Rattle.vq_lexer.specs.Words.{texts}

-- words, each behind a space
abbrev pub spaced : List (Bor (List ℕ)) → List ℕ
spaced words = flat_map (λ (w : Bor (List ℕ)). 32 ∷ w.now) words

pub joined : (first : List ℕ) (later : List (Bor (List ℕ))) →
    join_with_byte 32 (first ∷ texts later) ≡ first ++ spaced later
joined first [] = sym (append-nil first)
joined first (word ∷ words) = ap (λ (bs : List ℕ). first ++ 32 ∷ bs) (joined word.now words)
