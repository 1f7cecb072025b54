-- Lists of references: what is listed, and how many are of a point.
use Rattle.std.proofs.Common.{◌≡◌, ◌≢◌, ℕ, zero, suc, ◌+◌, ◌*◌, ◌<◌, ◌≤◌, Bool, true, false, not, cond, ◌&&◌, eqb, List, [], ◌∷◌, length, ap, sym, ◌∙◌, arith, refl, ⊎_elim, inl, inr, eq-eqb}
use Rattle.std.specs.Prelude.{count_by, sum_by}
use mathlib.Core.Option.{some, some-injective, some-ne-none}
use lib.ListN.{get_elem?}
use Rattle.std.proofs.lemmas.Bool.{eqb-true, and_parts, and_from}
use Rattle.std.proofs.lemmas.List.Sums.{sum_by-cons, count_by-le-length}
use Rattle.vq_board_laws.specs.declared.view.Reference.{Reference}
use Rattle.vq_board_laws.specs.declared.view.View.{View}
use Rattle.vq_board_laws.specs.Knowledge.{Each}
use Rattle.vq_board_laws.specs.Points.{Lists}
use Rattle.vq_board_laws.specs.PointSteps.{without, without_point}

-- how many references of a list are to a point
abbrev pub of_point : ℕ → List Reference → ℕ
of_point q rs = count_by (λ r. eqb r.point q) rs

-- what a reference counts for a point
abbrev pub one_of : ℕ → Reference → ℕ
one_of q r = cond (eqb r.point q) 1 0

pub count_more : (q : ℕ) (r : Reference) (rs : List Reference) → of_point q (r ∷ rs) ≡ one_of q r + of_point q rs
count_more q r rs = sum_by-cons (one_of q) r rs

pub count_le : (q : ℕ) (rs : List Reference) → of_point q rs ≤ length rs
count_le q rs = count_by-le-length (λ r. eqb r.point q) rs

-- a listed reference is counted
pub counted : (r : Reference) (rs : List Reference) → Lists rs r → 0 < of_point r.point rs
counted r [] m = absurd m
counted r (x ∷ xs) m = let c = count_more r.point x xs in ⊎_elim
    (λ (e : x ≡ r). let one : one_of r.point x ≡ 1 = rw (eq-eqb x.point r.point (ap (λ (z : Reference). z.point) e)) refl in omega arith)
    (λ t. let rest = counted r xs t in omega arith) m

-- Without one reference

-- the test by which a reference is taken out
abbrev is_same : Reference → Reference → Bool
is_same x r = eqb x.point r.point && eqb x.op r.op

same_is : (x r : Reference) → is_same x r ≡ true → x ≡ r
same_is x r e =
    let t = and_parts (eqb x.point r.point) (eqb x.op r.op) e in
    let p = eqb-true x.point r.point t.0 in
    let o = eqb-true x.op r.op t.1 in λ i. record { point = p i; op = o i }

same_self : (x r : Reference) → x ≡ r → is_same x r ≡ true
same_self x r e = and_from (eqb x.point r.point) (eqb x.op r.op) (eq-eqb x.point r.point (ap (λ (z : Reference). z.point) e)) (eq-eqb x.op r.op (ap (λ (z : Reference). z.op) e))

-- what is listed without r is listed with it
pub sub_listed : (r t : Reference) (rs : List Reference) → Lists (without r rs) t → Lists rs t
sub_listed r t [] m = m
sub_listed r t (x ∷ xs) m = by_test (is_same x r) (sub_listed r t xs) m
  where
    by_test : (b : Bool) → (Lists (without r xs) t → Lists xs t) → Lists (cond b xs (x ∷ without r xs)) t → Lists (x ∷ xs) t
    by_test true rest n = inr n
    by_test false rest n = ⊎_elim (λ (e : x ≡ t). inl e) (λ h. inr (rest h)) n

-- a point has one reference less where a listed one is taken out
pub count_less : (q : ℕ) (r : Reference) (rs : List Reference) → Lists rs r → of_point q (without r rs) + one_of q r ≡ of_point q rs
count_less q r [] m = absurd m
count_less q r (x ∷ xs) m = by_test (is_same x r) refl (count_less q r xs) m
  where
    by_test : (b : Bool) → is_same x r ≡ b → (Lists xs r → of_point q (without r xs) + one_of q r ≡ of_point q xs) → Lists (x ∷ xs) r → of_point q (cond b xs (x ∷ without r xs)) + one_of q r ≡ of_point q (x ∷ xs)
    by_test true is rest n = let c = count_more q x xs in let e : one_of q x ≡ one_of q r = ap (one_of q) (same_is x r is) in omega arith
    by_test false is rest n = ⊎_elim (λ (e : x ≡ r). absurd (let t = same_self x r e in cc)) (λ h. let less = rest h in let c = count_more q x xs in let d = count_more q x (without r xs) in omega arith) n

pub length_less : (r : Reference) (rs : List Reference) → length (without r rs) ≤ length rs
length_less r [] = omega arith
length_less r (x ∷ xs) = by_test (is_same x r) (length_less r xs)
  where
    by_test : (b : Bool) → length (without r xs) ≤ length xs → length (cond b xs (x ∷ without r xs)) ≤ length (x ∷ xs)
    by_test true rest = omega arith
    by_test false rest = omega arith

-- Without a point

pub left_listed : (q : ℕ) (t : Reference) (rs : List Reference) → Lists (without_point q rs) t → Lists rs t × (t.point ≢ q)
left_listed q t [] m = absurd m
left_listed q t (x ∷ xs) m = by_test (eqb x.point q) refl (left_listed q t xs) m
  where
    by_test : (b : Bool) → eqb x.point q ≡ b → (Lists (without_point q xs) t → Lists xs t × (t.point ≢ q)) → Lists (cond (not b) (x ∷ without_point q xs) (without_point q xs)) t → Lists (x ∷ xs) t × (t.point ≢ q)
    by_test true is rest n = let u = rest n in (inr u.0, u.1)
    by_test false is rest n = ⊎_elim
        (λ (e : x ≡ t). (inl e, λ (h : t.point ≡ q). let g : eqb x.point q ≡ true = eq-eqb x.point q (ap (λ (z : Reference). z.point) e ∙ h) in cc))
        (λ h. let u = rest h in (inr u.0, u.1)) n

pub kept_listed : (q : ℕ) (t : Reference) (rs : List Reference) → t.point ≢ q → Lists rs t → Lists (without_point q rs) t
kept_listed q t [] ne m = absurd m
kept_listed q t (x ∷ xs) ne m = by_test (eqb x.point q) refl (kept_listed q t xs ne) m
  where
    by_test : (b : Bool) → eqb x.point q ≡ b → (Lists xs t → Lists (without_point q xs) t) → Lists (x ∷ xs) t → Lists (cond (not b) (x ∷ without_point q xs) (without_point q xs)) t
    by_test true is rest n = ⊎_elim (λ (e : x ≡ t). absurd (ne (ap (λ (z : Reference). z.point) (sym e) ∙ eqb-true x.point q is))) rest n
    by_test false is rest n = ⊎_elim (λ (e : x ≡ t). inl e) (λ h. inr (rest h)) n

-- Sums over the passes

-- one part is at most the sum
pub part_of_sum : (f : View → ℕ) (views : List View) (i : ℕ) (u : View) → get_elem? views i ≡ some u → f u ≤ sum_by f views
part_of_sum f [] i u e = absurd (some-ne-none u (sym e))
part_of_sum f (x ∷ xs) zero u e = let same = ap f (some-injective x u e) in let c = sum_by-cons f x xs in omega arith
part_of_sum f (x ∷ xs) (suc i) u e = let rest = part_of_sum f xs i u e in let c = sum_by-cons f x xs in omega arith

-- the sum is at most the greatest part for each pass
pub sum_bounded : (f : View → ℕ) (most : ℕ) (views : List View) → Each (λ i u. f u ≤ most) views → sum_by f views ≤ most * length views
sum_bounded f most [] h = omega arith
sum_bounded f most (x ∷ xs) h = let rest = sum_bounded f most xs (λ i u e. h (suc i) u e) in let here = h 0 x refl in let c = sum_by-cons f x xs in omega arith
