-- The elements of lists by their places.
use Rattle.std.proofs.Common.{◌≡◌, ℕ, zero, suc, ◌≤◌, List, [], ◌∷◌, length, None, refl, arith, map, option_map, ◌+◌, Option, Some, ap, ◌∙◌, ◌<◌, ◌++◌, take, All, subst, sym, get_or, true, Bool, inl, inr}
use Rattle.std.proofs.lemmas.List.Elements.{All-head, All-tail}
use Rattle.std.specs.List.{slice_get, enumerate_from, range_with_len, list_all}
use Rattle.std.proofs.lemmas.Option.{same_Some}
use Rattle.std.proofs.lemmas.Bool.{and_parts, false≢true}
use Rattle.std.proofs.Math.Seq.{take-append_seam}
use Rattle.vq_ground.proofs.Lists.{has_here, has_there, has_cases}
use Rattle.vq_ground.specs.Lists.{has}

pub get-map : {X Y : Type 0} (f : X → Y) (xs : List X) (i : ℕ) → slice_get (map f xs) i ≡ option_map f (slice_get xs i)
get-map f [] i = refl
get-map f (x ∷ xs) zero = refl
get-map f (x ∷ xs) (suc i) = get-map f xs i

pub get-enumerate : {X : Type 0} (a : ℕ) (xs : List X) (i : ℕ) → slice_get (enumerate_from a xs) i ≡ option_map (λ x. (a + i, x)) (slice_get xs i)
get-enumerate a [] i = refl
get-enumerate {X} a (x ∷ xs) zero =
    let e : a ≡ a + 0 = omega arith in
    let f : ℕ → Option (ℕ × X) = λ n. Some (n, x) in
    ap f e
get-enumerate {X} a (x ∷ xs) (suc i) =
    let e : (a + 1) + i ≡ a + suc i = omega arith in
    let f : ℕ → Option (ℕ × X) = λ n. option_map (λ y. (n, y)) (slice_get xs i) in
    get-enumerate (a + 1) xs i ∙ ap f e

pub get_some : {X : Type 0} (xs : List X) (i : ℕ) → i < length xs → (x : X) × (slice_get xs i ≡ Some x)
get_some [] i l = absurd (omega arith)
get_some (x ∷ xs) zero l = (x, refl)
get_some (x ∷ xs) (suc i) l = get_some xs i (omega arith)

pub get_within : {X : Type 0} (xs : List X) (i : ℕ) (x : X) → slice_get xs i ≡ Some x → i < length xs
get_within [] i x e = absurd (let c : None ≡ Some x = e in cc)
get_within (y ∷ xs) zero x e = omega arith
get_within (y ∷ xs) (suc i) x e = let l = get_within xs i x e in omega arith

pub get-append : {X : Type 0} (xs ys : List X) (i : ℕ) → slice_get (xs ++ ys) (length xs + i) ≡ slice_get ys i
get-append [] ys i = ap (slice_get ys) (omega arith)
get-append (x ∷ xs) ys i = let e : suc (length xs) + i ≡ suc (length xs + i) = omega arith in ap (slice_get (x ∷ xs ++ ys)) e ∙ get-append xs ys i

pub get-append_left : {X : Type 0} (xs ys : List X) (i : ℕ) → i < length xs → slice_get (xs ++ ys) i ≡ slice_get xs i
get-append_left [] ys i l = absurd (omega arith)
get-append_left (x ∷ xs) ys zero l = refl
get-append_left (x ∷ xs) ys (suc i) l = get-append_left xs ys i (omega arith)

pub get-range : (n a i : ℕ) → i < n → slice_get (range_with_len a n) i ≡ Some (a + i)
get-range zero a i l = absurd (omega arith)
get-range (suc n) a zero l = ap Some (let e : a ≡ a + 0 = omega arith in e)
get-range (suc n) a (suc i) l = get-range n (a + 1) i (omega arith) ∙ ap Some (let e : (a + 1) + i ≡ a + suc i = omega arith in e)

pub get-range_past : (n a i : ℕ) → n ≤ i → slice_get (range_with_len a n) i ≡ None
get-range_past zero a i l = refl
get-range_past (suc n) a zero l = absurd (omega arith)
get-range_past (suc n) a (suc i) l = get-range_past n (a + 1) i (omega arith)

pub get-take : {X : Type 0} (j : ℕ) (xs : List X) (i : ℕ) → i < j → slice_get (take j xs) i ≡ slice_get xs i
get-take zero xs i l = absurd (omega arith)
get-take (suc j) [] i l = refl
get-take (suc j) (x ∷ xs) zero l = refl
get-take (suc j) (x ∷ xs) (suc i) l = get-take j xs i (omega arith)

pub get-take_within : {X : Type 0} (j : ℕ) (xs : List X) (i : ℕ) (x : X) → slice_get (take j xs) i ≡ Some x → i < j
get-take_within zero xs i x e = absurd (let c : None ≡ Some x = e in cc)
get-take_within (suc j) [] i x e = absurd (let c : None ≡ Some x = e in cc)
get-take_within (suc j) (y ∷ xs) zero x e = omega arith
get-take_within (suc j) (y ∷ xs) (suc i) x e = let l = get-take_within j xs i x e in omega arith

pub first_is : (xs : List ℕ) (q : ℕ) → slice_get xs 0 ≡ Some q → (rest : List ℕ) × (xs ≡ q ∷ rest)
first_is [] q e = absurd (cc)
first_is (x ∷ xs) q e = (xs, ap (λ z. z ∷ xs) (same_Some x q e))

-- what holds of all holds of the one at a place
pub all_at : {A : Type 0} (P : A → Type 0) (xs : List A) (k : ℕ) (x : A) → All P xs → slice_get xs k ≡ Some x → P x
all_at P [] k x h e = absurd (cc)
all_at P (y ∷ xs) zero x h e = let same : y ≡ x = cc in subst P same (All-head P y xs h)
all_at P (y ∷ xs) (suc k) x h e = all_at P xs k x (All-tail P y xs h) e

-- a test that all pass is passed by the one at a place
pub all_pass_at : {A : Type 0} (test : A → Bool) (xs : List A) (k : ℕ) (x : A) → list_all test xs ≡ true → slice_get xs k ≡ Some x → test x ≡ true
all_pass_at test [] k x h e = absurd (let c : None ≡ Some x = e in cc)
all_pass_at {A} test (y ∷ xs) zero x h e =
    let same : y ≡ x = cc in
    subst (λ (z : A). test z ≡ true) same (and_parts (test y) (list_all test xs) h).0
all_pass_at test (y ∷ xs) (suc k) x h e = all_pass_at test xs k x (and_parts (test y) (list_all test xs) h).1 e

pub at_index : {A : Type 0} (xs : List A) (k : ℕ) (d : A) → k < length xs → d ≡ get_or xs k d → slice_get xs k ≡ Some d
at_index [] k d le e = absurd (omega arith)
at_index (x ∷ xs) zero d le e = ap Some (sym e)
at_index (x ∷ xs) (suc k) d le e = at_index xs k d (omega arith) e

pub taken : {A : Type 0} (xs : List A) (k : ℕ) (x : A) → slice_get xs k ≡ Some x →
    take (suc k) xs ≡ take k xs ++ x ∷ []
taken [] k x e = absurd (cc)
taken (y ∷ xs) zero x e = cc
taken (y ∷ xs) (suc k) x e = ap (λ ys. y ∷ ys) (taken xs k x e)

pub take_push : {A : Type 0} (xs : List A) (k : ℕ) (x : A) → slice_get xs k ≡ Some x →
    take (k + 1) xs ≡ take k xs ++ x ∷ []
take_push xs k x e = let f : k + 1 ≡ suc k = omega arith in ap (λ (i : ℕ). take i xs) f ∙ taken xs k x e

-- a number of a list stands at some place
pub place_in : (xs : List ℕ) (x : ℕ) → has xs x ≡ true → (i : ℕ) × (slice_get xs i ≡ Some x)
place_in [] x h = absurd (false≢true h)
place_in (y ∷ xs) x h = elim (has_cases y xs x h) [
  | inl s ↦ (0, ap Some s)
  | inr m ↦ let r = place_in xs x m in (suc r.0, r.1)
]

-- what is at a place stands in the list
pub get_has : (xs : List ℕ) (n x : ℕ) → slice_get xs n ≡ Some x → has xs x ≡ true
get_has [] n x e = cc
get_has (y ∷ xs) zero x e = let s : Some y ≡ Some x = e in let t : y ≡ x = cc in subst (λ z. has (y ∷ xs) z ≡ true) t (has_here y xs)
get_has (y ∷ xs) (suc n) x e = has_there y xs x (get_has xs n x e)

-- an element stands in the list
pub has_at : (xs : List ℕ) (i : ℕ) → i < length xs → has xs (get_or xs i 0) ≡ true
has_at [] i h = absurd (omega arith)
has_at (x ∷ xs) zero h = has_here x xs
has_at (x ∷ xs) (suc i) h = has_there x xs (get_or xs i 0) (has_at xs i (omega arith))

-- what is written back into a vector whole
pub whole_new : {X : Type 0} (n : ℕ) (new rest : List X) → length new ≡ n → take n (new ++ rest) ≡ new
whole_new n new rest e = subst (λ k. take k (new ++ rest) ≡ new) e (take-append_seam new rest)
