-- Lists to which elements are added one by one.
use Rattle.std.proofs.Common.{◌≡◌, ◌<◌, ℕ, suc, ◌+◌, List, [], ◌∷◌, ◌++◌, length, map, replicate, sym, ap, subst, ◌∙◌, arith}
use Rattle.std.specs.Prelude.{All}
use Rattle.std.proofs.lemmas.List.{append_assoc, replicate_more}

-- the same element once more
pub repeated : {X : Type 0} (first kept pushed : List X) (x : X) (n m : ℕ) → kept ≡ first ++ replicate (n + m) x →
    pushed ≡ kept ++ x ∷ [] → pushed ≡ first ++ replicate (n + (m + 1)) x
repeated {X} first kept pushed x n m same more =
    let count : n + m + 1 ≡ n + (m + 1) = omega arith in
    more ∙ ap (λ (xs : List X). xs ++ x ∷ []) same ∙ append_assoc first (replicate (n + m) x) (x ∷ [])
    ∙ ap (λ (xs : List X). first ++ xs) (replicate_more (n + m) x)
    ∙ ap (λ (k : ℕ). first ++ replicate k x) count

-- the first of the rest moves over
pub moved : {X Y : Type 0} (f : X → Y) (kept pushed whole : List Y) (rest left : List X) (x : X) (y : Y) →
    kept ++ map f rest ≡ whole → rest ≡ x ∷ left → y ≡ f x → pushed ≡ kept ++ y ∷ [] → pushed ++ map f left ≡ whole
moved {X} {Y} f kept pushed whole rest left x y same first made more =
    ap (λ (ys : List Y). ys ++ map f left) more ∙ append_assoc kept (y ∷ []) (map f left)
    ∙ ap (λ (z : Y). kept ++ z ∷ map f left) made ∙ ap (λ (xs : List X). kept ++ map f xs) (sym first) ∙ same

-- what holds of all holds of all but the first
pub all_left : {X : Type 0} (P : X → Type 0) (rest left : List X) (x : X) → All P rest → rest ≡ x ∷ left → All P left
all_left {X} P rest left x all first = λ k d below.
    let all_first : All P (x ∷ left) = subst (λ (xs : List X). All P xs) first all in
    let under : suc k < length (x ∷ left) = omega (arith, below) in
    all_first (suc k) d under
