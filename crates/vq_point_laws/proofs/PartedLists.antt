-- Lists of points, parted around one of them.
use Rattle.std.proofs.Common.{◌≡◌, ℕ, List, ◌++◌, ◌∷◌, []}
use Rattle.std.proofs.lemmas.List.{append_assoc, append-nil}

-- Lists of points, parted around one of them

pub parted : (f l r s w : List ℕ) → f ++ (l ++ r) ++ s ++ w ≡ (f ++ l) ++ (r ++ s ++ w)
parted f l r s w = simp append_assoc

pub parted_at : (f l r s w : List ℕ) (x : ℕ) → f ++ (l ++ x ∷ r) ++ s ++ w ≡ (f ++ l) ++ x ∷ (r ++ s ++ w)
parted_at f l r s w x = simp append_assoc

pub second_parted : (f d s w : List ℕ) (x : ℕ) → f ++ (x ∷ d) ++ s ++ w ≡ f ++ x ∷ (d ++ s ++ w)
second_parted f d s w x = simp append_assoc

pub third_pushed : (f d s w : List ℕ) (x : ℕ) → f ++ d ++ (s ++ x ∷ []) ++ w ≡ (f ++ d ++ s) ++ x ∷ w
third_pushed f d s w x = simp append_assoc

pub third_parted : (f d s w : List ℕ) (x : ℕ) → f ++ d ++ (x ∷ s) ++ w ≡ (f ++ d) ++ x ∷ (s ++ w)
third_parted f d s w x = simp append_assoc

pub fourth_pushed : (f d s w : List ℕ) (x : ℕ) → f ++ d ++ s ++ (w ++ x ∷ []) ≡ (f ++ d ++ s ++ w) ++ x ∷ []
fourth_pushed f d s w x = simp append_assoc

pub fourth_parted : (f d s l r : List ℕ) (x : ℕ) → f ++ d ++ s ++ (l ++ x ∷ r) ≡ (f ++ d ++ s ++ l) ++ x ∷ r
fourth_parted f d s l r x = simp append_assoc

pub grouped : (f d s w : List ℕ) → f ++ (d ++ s ++ w) ≡ (f ++ d ++ s) ++ w
grouped f d s w = simp append_assoc

pub grouped_back : (f d s w : List ℕ) → (f ++ d) ++ (s ++ w) ≡ (f ++ d ++ s ++ w) ++ []
grouped_back f d s w = simp (append_assoc, append-nil)

pub grouped_last : (f d s l r : List ℕ) → (f ++ d ++ s ++ l) ++ r ≡ f ++ d ++ s ++ (l ++ r)
grouped_last f d s l r = simp append_assoc
