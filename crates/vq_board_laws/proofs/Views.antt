-- The list of passes, when one of them steps.
use Rattle.std.proofs.Common.{◌≡◌, ◌≢◌, ℕ, zero, suc, ◌+◌, ◌<◌, ◌≤◌, List, [], ◌∷◌, ◌++◌, length, set, get_or, sym, ◌∙◌, subst, arith, ⊎_elim, length-set}
use mathlib.Core.Option.{some, some-injective, some-ne-none}
use lib.ListN.{get_elem?}
use Rattle.std.specs.Prelude.{sum_by}
use Rattle.std.proofs.lemmas.List.Sums.{sum_by-set, sum_by-cons}
use Rattle.atomic_table.proofs.Lists.{at_set}
use Rattle.vq_board_laws.specs.declared.view.View.{View}
use Rattle.vq_board_laws.specs.Knowledge.{Each}

pub at_inside : {A : Type 0} (l : List A) (i : ℕ) (a : A) → get_elem? l i ≡ some a → i < length l
at_inside [] i a e = absurd (some-ne-none a (sym e))
at_inside (x ∷ xs) zero a e = omega arith
at_inside (x ∷ xs) (suc i) a e = let h = at_inside xs i a e in omega arith

at_index : {A : Type 0} (l : List A) (i : ℕ) (a : A) → get_elem? l i ≡ some a → get_or l i a ≡ a
at_index [] i a e = absurd (some-ne-none a (sym e))
at_index (x ∷ xs) zero a e = some-injective x a e
at_index (x ∷ xs) (suc i) a e = at_index xs i a e

-- what holds of the pass that steps and of each other holds of all
pub each_pass : (Q : ℕ → View → Type 0) (views : List View) (id : ℕ) (w : View) → Q id w → ((i : ℕ) (u : View) → i ≢ id → get_elem? views i ≡ some u → Q i u) → Each Q (set views id w)
each_pass Q views id w mine others i u e = ⊎_elim (λ (t : (i ≡ id) × (w ≡ u)). subst (λ (x : ℕ × View). Q x.0 x.1) (λ k. (sym t.0 k, t.1 k)) mine)
    (λ (t : (i ≢ id) × (get_elem? views i ≡ some u)). others i u t.0 t.1) (at_set views id i w u e)

-- a role that isn't given out yet isn't that of the pass that steps
pub away : (views : List View) (id : ℕ) (v w : View) (role : ℕ) → get_elem? views id ≡ some v → v.role ≡ id → length (set views id w) ≤ role → (length views ≤ role) × (role ≢ v.role)
away views id v w role at is h = let l = length-set views id w in let i = at_inside views id v at in (omega arith, λ e. omega arith)

pub same_length : (views : List View) (id role : ℕ) (w : View) → length (set views id w) ≤ role → length views ≤ role
same_length views id role w h = let l = length-set views id w in omega arith

pub other_role : (i id : ℕ) (u v : View) → u.role ≡ i → v.role ≡ id → i ≢ id → u.role ≢ v.role
other_role i id u v is is' ne same = ne (sym is ∙ (same ∙ is'))

-- the sum over the passes changes by the part of the one that steps
pub sum_moves : (f : View → ℕ) (views : List View) (id : ℕ) (v w : View) → get_elem? views id ≡ some v → sum_by f (set views id w) + f v ≡ sum_by f views + f w
sum_moves f views id v w at = subst (λ (u : View). sum_by f (set views id w) + f u ≡ sum_by f views + f w) (at_index views id v at) (sum_by-set f views id w v (at_inside views id v at))

pub sum_stays : (f : View → ℕ) (views : List View) (id : ℕ) (v w : View) → get_elem? views id ≡ some v → f w ≡ f v → sum_by f (set views id w) ≡ sum_by f views
sum_stays f views id v w at same = let moves = sum_moves f views id v w at in omega arith

pub sum_more : (f : View → ℕ) (xs : List View) (w : View) → sum_by f (xs ++ w ∷ []) ≡ sum_by f xs + f w
sum_more f [] w = let c = sum_by-cons f w [] in omega arith
sum_more f (x ∷ xs) w = let a = sum_by-cons f x (xs ++ w ∷ []) in let b = sum_by-cons f x xs in let rest = sum_more f xs w in omega arith
