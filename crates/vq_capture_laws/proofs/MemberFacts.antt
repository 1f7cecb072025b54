-- Elements of lists, and tests of all and of some of them.
use Rattle.std.proofs.Common.{◌≡◌, ◌⊎◌, Bool, true, false, ◌&&◌, List, [], ◌∷◌, ◌++◌, map, reverse, refl, sym, subst, inl, inr}
use Rattle.std.specs.List.{list_any, list_all}
use Rattle.std.specs.Prelude.{flat_map, not}
use Rattle.std.proofs.lemmas.List.{reverse-append}
use Rattle.std.proofs.lemmas.Bool.{or_cases, or_left, or_right, and_from}
use Rattle.vq_ground.proofs.Bools.{never}
use Rattle.vq_capture.specs.Points.{IsMember}

-- Truth values

pub and_left : (a b : Bool) → (a && b) ≡ true → a ≡ true
and_left true b h = refl
and_left false b h = never h

pub and_right : (a b : Bool) → (a && b) ≡ true → b ≡ true
and_right true b h = h
and_right false b h = never h

-- Elements

pub in_front : {X : Type 0} (x : X) (xs ys : List X) → IsMember x xs → IsMember x (xs ++ ys)
in_front x [] ys m = absurd m
in_front x (z ∷ zs) ys (inl e) = inl e
in_front x (z ∷ zs) ys (inr m) = inr (in_front x zs ys m)

pub in_back : {X : Type 0} (x : X) (xs ys : List X) → IsMember x ys → IsMember x (xs ++ ys)
in_back x [] ys m = m
in_back x (z ∷ zs) ys m = inr (in_back x zs ys m)

pub in_either : {X : Type 0} (x : X) (xs ys : List X) → IsMember x (xs ++ ys) → IsMember x xs ⊎ IsMember x ys
in_either x [] ys m = inr m
in_either x (z ∷ zs) ys (inl e) = inl (inl e)
in_either x (z ∷ zs) ys (inr m) = elim (in_either x zs ys m) [ inl a ↦ inl (inr a) | inr b ↦ inr b ]

pub of_reverse : {X : Type 0} (x : X) (xs : List X) → IsMember x (reverse xs) → IsMember x xs
of_reverse x [] m = m
of_reverse {X} x (y ∷ ys) m = elim (in_either x (reverse ys) (y ∷ []) (subst (λ (l : List X). IsMember x l) (reverse-append (y ∷ []) ys) m)) [
  | inl n ↦ inr (of_reverse x ys n)
  | inr n ↦ here n
]
  where
    here : IsMember x (y ∷ []) → IsMember x (y ∷ ys)
    here (inl e) = inl e
    here (inr n) = absurd n

pub in_flat_map : {X Y : Type 0} (f : X → List Y) (y : Y) (x : X) (xs : List X) → IsMember x xs → IsMember y (f x) → IsMember y (flat_map f xs)
in_flat_map f y x [] m n = absurd m
in_flat_map {X} f y x (z ∷ zs) (inl e) n = in_front y (f z) (flat_map f zs) (subst (λ (w : X). IsMember y (f w)) e n)
in_flat_map f y x (z ∷ zs) (inr m) n = in_back y (f z) (flat_map f zs) (in_flat_map f y x zs m n)

pub from_flat_map : {X Y : Type 0} (f : X → List Y) (y : Y) (xs : List X) → IsMember y (flat_map f xs) → (x : X) × IsMember x xs × IsMember y (f x)
from_flat_map f y [] m = absurd m
from_flat_map f y (z ∷ zs) m = elim (in_either y (f z) (flat_map f zs) m) [
  | inl k ↦ (z, inl refl, k)
  | inr k ↦ let r = from_flat_map f y zs k in (r.0, inr r.1, r.2)
]

pub from_map : {X Y : Type 0} (f : X → Y) (y : Y) (xs : List X) → IsMember y (map f xs) → (x : X) × IsMember x xs × (y ≡ f x)
from_map f y [] m = absurd m
from_map f y (z ∷ zs) (inl e) = (z, inl refl, e)
from_map f y (z ∷ zs) (inr m) = let r = from_map f y zs m in (r.0, inr r.1, r.2)

-- Tests

pub any_of : {X : Type 0} (test : X → Bool) (xs : List X) (x : X) → IsMember x xs → test x ≡ true → list_any test xs ≡ true
any_of test [] x m t = absurd m
any_of {X} test (y ∷ ys) x (inl e) t = or_left (test y) (list_any test ys) (subst (λ (z : X). test z ≡ true) e t)
any_of test (y ∷ ys) x (inr m) t = or_right (test y) (list_any test ys) (any_of test ys x m t)

pub one_of_any : {X : Type 0} (test : X → Bool) (xs : List X) → list_any test xs ≡ true → (x : X) × IsMember x xs × (test x ≡ true)
one_of_any test [] h = never h
one_of_any test (y ∷ ys) h = elim (or_cases (test y) (list_any test ys) h) [
  | inl t ↦ (y, inl refl, t)
  | inr t ↦ let r = one_of_any test ys t in (r.0, inr r.1, r.2)
]

pub each_of_all : {X : Type 0} (test : X → Bool) (xs : List X) (x : X) → list_all test xs ≡ true → IsMember x xs → test x ≡ true
each_of_all test [] x h m = absurd m
each_of_all {X} test (y ∷ ys) x h (inl e) =
    subst (λ (z : X). test z ≡ true) (sym e) (and_left (test y) (list_all test ys) h)
each_of_all test (y ∷ ys) x h (inr m) = each_of_all test ys x (and_right (test y) (list_all test ys) h) m

pub all_of_each : {X : Type 0} (test : X → Bool) (xs : List X) → ((x : X) → IsMember x xs → test x ≡ true) → list_all test xs ≡ true
all_of_each test [] f = refl
all_of_each test (y ∷ ys) f =
    and_from (test y) (list_all test ys) (f y (inl refl)) (all_of_each test ys (λ x m. f x (inr m)))

pub true_of_not : (b : Bool) → (b ≡ true → ⊥) → not b ≡ true
true_of_not true f = absurd (f refl)
true_of_not false f = refl
