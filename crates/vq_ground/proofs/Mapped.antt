-- Lists of what a function gives for the elements of others, where it gives something.
use Rattle.std.proofs.Common.{◌≡◌, ℕ, true, List, [], ◌∷◌, Option, Some, None, ap, ◌∙◌, inl, inr, ◌⊎◌}
use Rattle.std.specs.List.{filter_map, cons_option}
use Rattle.std.proofs.lemmas.Bool.{false≢true}
use Rattle.vq_ground.specs.Lists.{has}
use Rattle.vq_ground.proofs.Lists.{has_here, has_there, has_cases}

pub has_mapped : (f : ℕ → Option ℕ) (xs : List ℕ) (x y : ℕ) → has xs x ≡ true → f x ≡ Some y → has (filter_map f xs) y ≡ true
has_mapped f [] x y h e = absurd (false≢true h)
has_mapped f (z ∷ xs) x y h e =
    elim (has_cases z xs x h) [
      | inl i ↦ ap (λ o. has (cons_option o (filter_map f xs)) y) (ap f i ∙ e) ∙ has_here y (filter_map f xs)
      | inr m ↦ by_option (f z) (has_mapped f xs x y m e)
    ]
  where
    by_option : (o : Option ℕ) → has (filter_map f xs) y ≡ true → has (cons_option o (filter_map f xs)) y ≡ true
    by_option None m = m
    by_option (Some u) m = has_there u (filter_map f xs) y m

pub has_option : (o : Option ℕ) (rs : List ℕ) (r : ℕ) → has (cons_option o rs) r ≡ true → (o ≡ Some r) ⊎ (has rs r ≡ true)
has_option None rs r h = inr h
has_option (Some x) rs r h = elim (has_cases x rs r h) [ inl e ↦ inl (ap Some e) | inr i ↦ inr i ]

-- where an element of a mapped list comes from
pub mapped : (f : ℕ → Option ℕ) (xs : List ℕ) (y : ℕ) → has (filter_map f xs) y ≡ true → (x : ℕ) × (has xs x ≡ true) × (f x ≡ Some y)
mapped f [] y h = absurd (false≢true h)
mapped f (x ∷ xs) y h =
    elim (has_option (f x) (filter_map f xs) y h) [
      | inl e ↦ (x, has_here x xs, e)
      | inr m ↦ let r = mapped f xs y m in (r.0, has_there x xs r.0 r.1, r.2)
    ]
