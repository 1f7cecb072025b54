-- Small facts on numbers, truth values and lists.
use Rattle.std.proofs.Common.{◌≡◌, ℕ, zero, suc, ◌+◌, ◌<◌, Bool, true, false, List, [], ◌∷◌, ◌++◌, length, take, drop, set, get_or, refl, sym, ◌∙◌, ap, arith}
use Rattle.std.specs.Prelude.{nat_eq}
use Rattle.std.proofs.lemmas.Bool.Decides.{nat_tests}

pub same_number : (a b : ℕ) → nat_eq a b ≡ true → a ≡ b
same_number a b e = grind (arith, nat_tests)

pub other_number : (a b : ℕ) → nat_eq a b ≡ false → a ≡ b → ⊥
other_number a b e = grind (arith, nat_tests)

pub equal_true : (a b : ℕ) → a ≡ b → nat_eq a b ≡ true
equal_true a b e = grind (arith, nat_tests)

pub equal_false : (a b : ℕ) → (a ≡ b → ⊥) → nat_eq a b ≡ false
equal_false a b n = grind (arith, nat_tests)

pub equal_turned : (a b : ℕ) → nat_eq a b ≡ false → nat_eq b a ≡ false
equal_turned a b e = equal_false b a (λ q. other_number a b e (sym q))

pub true_false : {P : Type 0} (b : Bool) → b ≡ true → b ≡ false → P
true_false b e f = absurd (cc)

-- what is read after a write is what was written, or what was there
pub read_set : {X : Type 0} (P : X → Type 0) (d : X) (xs : List X) (n m : ℕ) (x : X) → (n ≡ m → P x) → P (get_or xs m d) → P (get_or (set xs n x) m d)
read_set P d [] n m x p q = q
read_set P d (y ∷ ys) zero zero x p q = p refl
read_set P d (y ∷ ys) zero (suc m) x p q = q
read_set P d (y ∷ ys) (suc n) zero x p q = q
read_set P d (y ∷ ys) (suc n) (suc m) x p q = read_set P d ys n m x (λ e. p (ap suc e)) q

-- two writes in one place, of which the second undoes the first
pub back_set : {X : Type 0} (d : X) (xs : List X) (n : ℕ) (f g : X → X) → g (f (get_or xs n d)) ≡ get_or xs n d → set (set xs n (f (get_or xs n d))) n (g (get_or (set xs n (f (get_or xs n d))) n d)) ≡ xs
back_set d [] n f g e = refl
back_set d (y ∷ ys) zero f g e = ap (λ z. z ∷ ys) e
back_set d (y ∷ ys) (suc n) f g e = ap (λ zs. y ∷ zs) (back_set d ys n f g e)

-- two writes in one place are one
pub over_set : {X : Type 0} (d : X) (xs : List X) (n : ℕ) (f g : X → X) → set (set xs n (f (get_or xs n d))) n (g (get_or (set xs n (f (get_or xs n d))) n d)) ≡ set xs n (g (f (get_or xs n d)))
over_set d [] n f g = refl
over_set d (y ∷ ys) zero f g = refl
over_set d (y ∷ ys) (suc n) f g = ap (λ zs. y ∷ zs) (over_set d ys n f g)

-- writes in two places, in either order
pub swap_set : {X : Type 0} (d : X) (xs : List X) (n m : ℕ) (f g : X → X) → (n ≡ m → ⊥) → set (set xs m (g (get_or xs m d))) n (f (get_or (set xs m (g (get_or xs m d))) n d)) ≡ set (set xs n (f (get_or xs n d))) m (g (get_or (set xs n (f (get_or xs n d))) m d))
swap_set d [] n m f g ne = refl
swap_set d (y ∷ ys) zero zero f g ne = absurd (ne refl)
swap_set d (y ∷ ys) zero (suc m) f g ne = refl
swap_set d (y ∷ ys) (suc n) zero f g ne = refl
swap_set d (y ∷ ys) (suc n) (suc m) f g ne = ap (λ zs. y ∷ zs) (swap_set d ys n m f g (λ e. ne (ap suc e)))

-- a write in its parts
write_parts : {X : Type 0} (xs : List X) (n : ℕ) (x : X) → n < length xs → set xs n x ≡ take n xs ++ x ∷ drop (suc n) xs
write_parts [] n x l = absurd (omega arith)
write_parts (y ∷ ys) zero x l = refl
write_parts (y ∷ ys) (suc n) x l = ap (λ zs. y ∷ zs) (write_parts ys n x (omega arith))

pub set_parts : {X : Type 0} (xs : List X) (n : ℕ) (x : X) → n < length xs → set xs n x ≡ take n xs ++ x ∷ drop (n + 1) xs
set_parts xs n x l =
    let next : suc n ≡ n + 1 = omega arith in
    write_parts xs n x l ∙ ap (λ (k : ℕ). take n xs ++ x ∷ drop k xs) next
