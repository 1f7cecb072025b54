-- Of more numbers than there are below a bound, one stands twice.
use Rattle.std.proofs.Common.{◌≡◌, ◌⊎◌, ℕ, zero, suc, ◌+◌, ◌<◌, ◌≤◌, Bool, true, false, List, [], ◌∷◌, length, inl, inr, refl, sym, ap, arith}
use Rattle.std.specs.Prelude.{nat_eq, if◌then◌else◌}
use Rattle.vq_layer.proofs.Cited.{same_number, other_number}
use Rattle.vq_layer_laws.specs.Stuck.{IsAmong, StandsTwice}

abbrev pub AreBelow : ℕ → List ℕ → Type 0
AreBelow n [] = Unit {0}
AreBelow n (x ∷ xs) = (x < n) × AreBelow n xs

abbrev pub others : ℕ → List ℕ → List ℕ
others m [] = []
others m (x ∷ xs) = if nat_eq x m then others m xs else x ∷ others m xs

among_others : (m x : ℕ) (xs : List ℕ) → IsAmong x (others m xs) → IsAmong x xs
among_others m x [] h = h
among_others m x (y ∷ ys) h = by_test (nat_eq y m) h (among_others m x ys)
  where
    by_test : (b : Bool) → IsAmong x (if b then others m ys else y ∷ others m ys) → (IsAmong x (others m ys) → IsAmong x ys) → IsAmong x (y ∷ ys)
    by_test true k rest = inr (rest k)
    by_test false (inl e) rest = inl e
    by_test false (inr k) rest = inr (rest k)

twice_others : (m : ℕ) (xs : List ℕ) → StandsTwice (others m xs) → StandsTwice xs
twice_others m [] h = h
twice_others m (y ∷ ys) h = by_test (nat_eq y m) h (twice_others m ys)
  where
    by_test : (b : Bool) → StandsTwice (if b then others m ys else y ∷ others m ys) → (StandsTwice (others m ys) → StandsTwice ys) → StandsTwice (y ∷ ys)
    by_test true k rest = inr (rest k)
    by_test false (inl k) rest = inl (among_others m y ys k)
    by_test false (inr k) rest = inr (rest k)

below_others : (m : ℕ) (xs : List ℕ) → AreBelow (suc m) xs → AreBelow m (others m xs)
below_others m [] h = tt
below_others m (y ∷ ys) h = by_test (nat_eq y m) refl (below_others m ys h.1)
  where
    by_test : (b : Bool) → nat_eq y m ≡ b → AreBelow m (others m ys) → AreBelow m (if b then others m ys else y ∷ others m ys)
    by_test true e k = k
    by_test false e k =
        let other = other_number y m e in
        let low = h.0 in
        (omega arith, k)

-- a number stands twice, or at most one is gone
one_gone : (m : ℕ) (xs : List ℕ) → (IsAmong m xs ⊎ (length (others m xs) ≡ length xs))
one_gone m [] = inr refl
one_gone m (y ∷ ys) = by_test (nat_eq y m) refl (one_gone m ys)
  where
    by_test : (b : Bool) → nat_eq y m ≡ b → (IsAmong m ys ⊎ (length (others m ys) ≡ length ys)) → (IsAmong m (y ∷ ys) ⊎ (length (if b then others m ys else y ∷ others m ys) ≡ suc (length ys)))
    by_test true e k = inl (inl (same_number y m e))
    by_test false e (inl k) = inl (inr k)
    by_test false e (inr k) = inr (ap suc k)

all_gone : (m : ℕ) (xs : List ℕ) → StandsTwice xs ⊎ (length xs ≤ suc (length (others m xs)))
all_gone m [] = inr (omega arith)
all_gone m (y ∷ ys) = by_test (nat_eq y m) refl (all_gone m ys) (one_gone m ys)
  where
    to_it : y ≡ m → IsAmong m ys → IsAmong y ys
    to_it e k = moved ys k
      where
        moved : (zs : List ℕ) → IsAmong m zs → IsAmong y zs
        moved [] j = j
        moved (z ∷ zs) (inl q) = inl (cc)
        moved (z ∷ zs) (inr j) = inr (moved zs j)

    by_test : (b : Bool) → nat_eq y m ≡ b → (StandsTwice ys ⊎ (length ys ≤ suc (length (others m ys)))) → (IsAmong m ys ⊎ (length (others m ys) ≡ length ys)) → (StandsTwice (y ∷ ys) ⊎ (suc (length ys) ≤ suc (length (if b then others m ys else y ∷ others m ys))))
    by_test true e k (inl j) = inl (inl (to_it (same_number y m e) j))
    by_test true e k (inr j) = inr (omega arith)
    by_test false e (inl k) j = inl (inr k)
    by_test false e (inr k) j = inr (omega arith)

pub some_twice : (n : ℕ) (xs : List ℕ) → AreBelow n xs → n < length xs → StandsTwice xs
some_twice zero [] h l = absurd (omega arith)
some_twice zero (x ∷ xs) h l = let low = h.0 in absurd (omega arith)
some_twice (suc m) xs h l = by_gone (all_gone m xs) (some_twice m (others m xs) (below_others m xs h))
  where
    by_gone : (StandsTwice xs ⊎ (length xs ≤ suc (length (others m xs)))) → (m < length (others m xs) → StandsTwice (others m xs)) → StandsTwice xs
    by_gone (inl k) rest = k
    by_gone (inr k) rest = twice_others m xs (rest (omega arith))
