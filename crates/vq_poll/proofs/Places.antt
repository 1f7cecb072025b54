-- What stands at a place, and what is left.
use Rattle.std.proofs.Common.{◌≡◌, ℕ, zero, suc, ◌+◌, ◌<◌, List, [], ◌∷◌, length, slice_index_or, Some, None, refl, sym, ap, ◌∙◌, arith, inl, inr}
use Rattle.std.specs.List.{slice_get, remove, range_with_len}
use Rattle.std.proofs.lemmas.Bool.{cases_lt}
use Rattle.vq_ground.proofs.Gets.{get-range, get-range_past}

pub get_at : {A : Type 0} (xs : List A) (k : ℕ) (d : A) → k < length xs → slice_get xs k ≡ Some (slice_index_or xs k d)
get_at [] k d l = absurd (omega arith)
get_at (x ∷ xs) zero d l = refl
get_at (x ∷ xs) (suc k) d l = get_at xs k d (omega arith)

-- what `xs[k]` answers stands at that place
pub stands_at : {A : Type 0} (xs : List A) (k : ℕ) (x : A) → k < length xs → x ≡ slice_index_or xs k x → slice_get xs k ≡ Some x
stands_at xs k x l is = get_at xs k x l ∙ ap Some (sym is)

-- what is left after an item was taken out was left before
pub remove_at : (xs : List ℕ) (k j i : ℕ) → slice_get (remove xs k) j ≡ Some i → (m : ℕ) × (slice_get xs m ≡ Some i)
remove_at [] zero j i h = absurd (let z = h in cc)
remove_at [] (suc k) j i h = absurd (let z = h in cc)
remove_at (x ∷ xs) zero j i h = (suc j, h)
remove_at (x ∷ xs) (suc k) zero i h = (0, h)
remove_at (x ∷ xs) (suc k) (suc j) i h = let r = remove_at xs k j i h in (suc r.0, r.1)

-- each of the places below a count is below it
pub place_below : (n k i : ℕ) → slice_get (range_with_len 0 n) k ≡ Some i → i < n
place_below n k i h = elim (cases_lt k n) [
  | inl less ↦
      let at : slice_get (range_with_len 0 n) k ≡ Some (0 + k) = get-range n 0 k less in
      let same : 0 + k ≡ i = (let a = at in let b = h in cc) in omega arith
  | inr isnt ↦
      let none : slice_get (range_with_len 0 n) k ≡ None = get-range_past n 0 k (omega arith) in
      absurd (let a = none in let b = h in cc)
]
