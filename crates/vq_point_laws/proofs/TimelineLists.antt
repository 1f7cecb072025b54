-- Lists of different points, and one moved or taken out.
use Rattle.std.proofs.Common.{◌≡◌, Bool, true, false, ◌||◌, refl, ℕ, arith, List, [], ◌∷◌, ◌++◌, IsPermutation, sym, subst, not, filter, cond, ◌∙◌, ap}
use Rattle.std.specs.Prelude.{◌==◌}
use Rattle.std.proofs.lemmas.Bool.Decides.{nat_tests}
use Rattle.std.specs.List.{list_any}
use Rattle.std.proofs.lemmas.Bool.{eqb-true, or_parts, or_from}
use Rattle.vq_point_laws.specs.Timeline.{IsAbsent, AreDistinct, IsPresent}
use Rattle.std.proofs.lemmas.List.Sorted.{IsPermutation-middle, IsPermutation-trans, IsPermutation-sym}

pub other_way : (x y : ℕ) → (x == y) ≡ false → (y == x) ≡ false
other_way x y h = grind (arith, nat_tests)

pub self_test : (x : ℕ) → (x == x) ≡ true
self_test x = grind (arith, nat_tests)

-- distinct numbers, one of which stands anywhere
absent_in : (x y : ℕ) (xs ys : List ℕ) → IsAbsent y (xs ++ ys) → (x == y) ≡ false → IsAbsent y (xs ++ x ∷ ys)
absent_in x y [] ys h k = or_from (x == y) (list_any (λ z. z == y) ys) k h
absent_in x y (z ∷ xs) ys h k =
    let parts = or_parts (z == y) (list_any (λ w. w == y) (xs ++ ys)) h in
    or_from (z == y) (list_any (λ w. w == y) (xs ++ x ∷ ys)) parts.0 (absent_in x y xs ys parts.1 k)

absent_out : (x y : ℕ) (xs ys : List ℕ) → IsAbsent y (xs ++ x ∷ ys) → IsAbsent y (xs ++ ys) × ((x == y) ≡ false)
absent_out x y [] ys h =
    let parts = or_parts (x == y) (list_any (λ w. w == y) ys) h in (parts.1, parts.0)
absent_out x y (z ∷ xs) ys h =
    let parts = or_parts (z == y) (list_any (λ w. w == y) (xs ++ x ∷ ys)) h in
    let more = absent_out x y xs ys parts.1 in
    (or_from (z == y) (list_any (λ w. w == y) (xs ++ ys)) parts.0 more.0, more.1)

distinct_in : (x : ℕ) (xs ys : List ℕ) → IsAbsent x (xs ++ ys) → AreDistinct (xs ++ ys) → AreDistinct (xs ++ x ∷ ys)
distinct_in x [] ys a d = (a, d)
distinct_in x (y ∷ xs) ys a d =
    let parts = or_parts (y == x) (list_any (λ w. w == x) (xs ++ ys)) a in
    (absent_in x y xs ys d.0 (other_way y x parts.0), distinct_in x xs ys parts.1 d.1)

pub distinct_out : (x : ℕ) (xs ys : List ℕ) → AreDistinct (xs ++ x ∷ ys) → IsAbsent x (xs ++ ys) × AreDistinct (xs ++ ys)
distinct_out x [] ys d = d
distinct_out x (y ∷ xs) ys d =
    let more = distinct_out x xs ys d.1 in
    let out = absent_out x y xs ys d.0 in
    (or_from (y == x) (list_any (λ w. w == x) (xs ++ ys)) (other_way x y out.1) more.0, (out.0, more.1))

-- a point moves to another place among the others
pub record IsMoved (old new : List ℕ) : Type 0 where
  pub distinct : AreDistinct new
  pub same : IsPermutation old new

same_but : (p : ℕ) (a b c d : List ℕ) → a ++ b ≡ c ++ d → IsPermutation (a ++ p ∷ b) (c ++ p ∷ d)
same_but p a b c d e =
    IsPermutation-trans (a ++ p ∷ b) (p ∷ (a ++ b)) (c ++ p ∷ d)
    (IsPermutation-middle a p b)
    (subst (λ (xs : List ℕ). IsPermutation (p ∷ xs) (c ++ p ∷ d)) (sym e)
    (IsPermutation-sym (c ++ p ∷ d) (p ∷ (c ++ d)) (IsPermutation-middle c p d)))

pub moved : (old new a b c d : List ℕ) (p : ℕ) → old ≡ a ++ p ∷ b → new ≡ c ++ p ∷ d → a ++ b ≡ c ++ d → AreDistinct old → IsMoved old new
moved old new a b c d p e f g h =
    let out = distinct_out p a b (subst AreDistinct e h) in
    let inside = distinct_in p c d (subst (IsAbsent p) g out.0) (subst AreDistinct g out.1) in
    record {
      distinct = subst AreDistinct (sym f) inside;
      same = subst (λ (xs : List ℕ). IsPermutation xs new) (sym e) (subst (IsPermutation (a ++ p ∷ b)) (sym f) (same_but p a b c d g));
    }

-- One number is taken out

pub record IsRemoved (k : ℕ) (xs : List ℕ) : Type 0 where
  pub front : List ℕ
  pub back : List ℕ
  pub is : xs ≡ front ++ k ∷ back
  pub left : filter (λ y. not (y == k)) xs ≡ front ++ back

keep_all : (k : ℕ) (xs : List ℕ) → IsAbsent k xs → filter (λ y. not (y == k)) xs ≡ xs
keep_all k [] a = refl
keep_all k (x ∷ xs) a =
    let parts = or_parts (x == k) (list_any (λ w. w == k) xs) a in
    ap (λ (b : Bool). cond (not b) (x ∷ filter (λ y. not (y == k)) xs) (filter (λ y. not (y == k)) xs)) parts.0
    ∙ ap (λ (ys : List ℕ). x ∷ ys) (keep_all k xs parts.1)

pub removed : (k : ℕ) (xs : List ℕ) → AreDistinct xs → IsPresent k xs → IsRemoved k xs
removed k [] d h = absurd (cc)
removed k (x ∷ xs) d h = by_test (x == k) refl h (removed k xs d.1)
  where
    rest : List ℕ
    rest = filter (λ y. not (y == k)) xs

    by_test : (b : Bool) → (x == k) ≡ b → (b || list_any (λ w. w == k) xs) ≡ true → (IsPresent k xs → IsRemoved k xs) → IsRemoved k (x ∷ xs)
    by_test true e h more =
        let same = eqb-true x k e in
        record {
          front = [];
          back = xs;
          is = ap (λ (y : ℕ). y ∷ xs) same;
          left = ap (λ (b : Bool). cond (not b) (x ∷ rest) rest) e ∙ keep_all k xs (subst (λ (n : ℕ). IsAbsent n xs) same d.0);
        }
    by_test false e h more =
        let r = more h in
        record {
          front = x ∷ r.front;
          back = r.back;
          is = ap (λ (ys : List ℕ). x ∷ ys) r.is;
          left = ap (λ (b : Bool). cond (not b) (x ∷ rest) rest) e ∙ ap (λ (ys : List ℕ). x ∷ ys) r.left;
        }

pub distinct_back : (xs ys : List ℕ) → AreDistinct (xs ++ ys) → AreDistinct ys
distinct_back [] ys h = h
distinct_back (x ∷ xs) ys h = distinct_back xs ys h.1

pub absent_back : (k : ℕ) (xs ys : List ℕ) → IsAbsent k (xs ++ ys) → IsAbsent k ys
absent_back k [] ys h = h
absent_back k (x ∷ xs) ys h =
    absent_back k xs ys (or_parts (x == k) (list_any (λ w. w == k) (xs ++ ys)) h).1
