-- What the pass's lists of points that carry operations keep, and the last carriers of points.
use Rattle.std.proofs.Common.{◌≡◌, ◌≢◌, ℕ, suc, ◌+◌, ◌<◌, ◌⊎◌, inl, inr, List, [], ◌∷◌, true, false, not}
use Rattle.std.proofs.Common.{Bool, cond, Option, Some, None, length, take, get_or, refl, sym, ap, ◌∙◌, arith}
use Rattle.std.proofs.Common.{eq-eqb}
use Rattle.std.specs.Prelude.{◌==◌}
use Rattle.std.proofs.lemmas.Bool.{false≢true, eqb-true}
use Rattle.std.proofs.lemmas.List.{get_or-take, length-take}
use Rattle.vq_ground.proofs.Rising.{above_first}
use Rattle.vq_ground.specs.Lists.{has}
use Rattle.vq_point_laws.specs.Timeline.{Timeline, KeepsLists, point_at, carries, last_from, last_carrier}
use Rattle.vq_board_laws.specs.declared.view.Reference.{Reference}
use Rattle.vq_board_laws.specs.Points.{Lists, reference}
use Rattle.vq_board_laws.specs.PointSteps.{without_point}

-- Lists without a point

pub left_there : (q : ℕ) (rs : List Reference) (r e : ℕ) → Lists rs (reference r e) → r ≢ q →
    Lists (without_point q rs) (reference r e)
left_there q [] r e h ne = h
left_there q (x ∷ rs) r e h ne = by_test (x.point == q) refl h (λ m. left_there q rs r e m ne)
  where
    by_test : (b : Bool) → (x.point == q) ≡ b → (x ≡ reference r e) ⊎ Lists rs (reference r e) →
        (Lists rs (reference r e) → Lists (without_point q rs) (reference r e)) →
        Lists (cond (not b) (x ∷ without_point q rs) (without_point q rs)) (reference r e)
    by_test false is (inl same) more = inl same
    by_test false is (inr m) more = inr (more m)
    by_test true is (inl same) more =
        absurd (ne (sym (ap (λ (y : Reference). y.point) same) ∙ eqb-true x.point q is))
    by_test true is (inr m) more = more m

pub was_there : (q : ℕ) (rs : List Reference) (r e : ℕ) → Lists (without_point q rs) (reference r e) →
    Lists rs (reference r e) × (r ≢ q)
was_there q [] r e h = absurd h
was_there q (x ∷ rs) r e h = by_test (x.point == q) refl h (was_there q rs r e)
  where
    by_test : (b : Bool) → (x.point == q) ≡ b →
        Lists (cond (not b) (x ∷ without_point q rs) (without_point q rs)) (reference r e) →
        (Lists (without_point q rs) (reference r e) → Lists rs (reference r e) × (r ≢ q)) →
        ((x ≡ reference r e) ⊎ Lists rs (reference r e)) × (r ≢ q)
    by_test false is (inl same) more =
        (inl same, λ (s : r ≡ q). false≢true (sym is ∙ eq-eqb x.point q (ap (λ (y : Reference). y.point) same ∙ s)))
    by_test false is (inr m) more = let t = more m in (inr t.0, t.1)
    by_test true is m more = let t = more m in (inr t.0, t.1)

-- Last carriers

-- one of the operations after the first n carried the point last
pub record IsLastFrom (n w number : ℕ) (xs : List (Option ℕ)) : Type 0 where
  pub place : ℕ
  pub within : place < length xs
  pub point : get_or xs place None ≡ Some w
  pub is : number ≡ n + place + 1

carried_by : (x : Option ℕ) (w : ℕ) → carries x w ≡ true → x ≡ Some w
carried_by None w h = absurd (false≢true h)
carried_by (Some r) w h = ap Some (eqb-true r w h)

further : (n w m : ℕ) (x : Option ℕ) (xs : List (Option ℕ)) → IsLastFrom (n + 1) w m xs → IsLastFrom n w m (x ∷ xs)
further n w m x xs r =
    let l = r.within in
    let s = r.is in
    record { place = suc r.place; within = omega arith; point = r.point; is = omega arith }

last_is : (n found w : ℕ) (xs : List (Option ℕ)) →
    (last_from n found w xs ≡ found) ⊎ IsLastFrom n w (last_from n found w xs) xs
last_is n found w [] = inl refl
last_is n found w (x ∷ xs) = by_test (carries x w) refl (λ m. last_is (n + 1) m w xs)
  where
    by_test : (b : Bool) → carries x w ≡ b →
        ((m : ℕ) → (last_from (n + 1) m w xs ≡ m) ⊎ IsLastFrom (n + 1) w (last_from (n + 1) m w xs) xs) →
        (last_from (n + 1) (cond b (n + 1) found) w xs ≡ found)
        ⊎ IsLastFrom n w (last_from (n + 1) (cond b (n + 1) found) w xs) (x ∷ xs)
    by_test false is rest = elim (rest found) [
      | inl same ↦ inl same
      | inr r ↦ inr (further n w (last_from (n + 1) found w xs) x xs r)
    ]
    by_test true is rest = elim (rest (n + 1)) [
      | inl same ↦ inr record { place = 0; within = omega arith; point = carried_by x w is; is = omega arith }
      | inr r ↦ inr (further n w (last_from (n + 1) (n + 1) w xs) x xs r)
    ]

-- the completed operation that carried a waiting point last
pub record Carried (c : Timeline) (q : ℕ) : Type 0 where
  pub index : ℕ
  pub before : index < c.completed
  pub point : point_at c index ≡ Some q
  pub last : last_carrier c q ≡ index + 1

pub waits_for : (c : Timeline) → KeepsLists c → (q : ℕ) → has c.waiting q ≡ true → Carried c q
waits_for c k q waits =
    let positive = above_first (last_carrier c) 0 c.waiting q k.completion waits in
    elim (last_is 0 0 q (take c.completed c.points)) [
      | inl none ↦ let z : last_carrier c q ≡ 0 = none in absurd (omega arith)
      | inr r ↦
          let size = length-take c.completed c.points in
          let low = r.within in
          let before : r.place < c.completed = omega arith in
          let number : last_carrier c q ≡ 0 + r.place + 1 = r.is in
          record {
            index = r.place;
            before = before;
            point = sym (get_or-take c.completed c.points r.place None before) ∙ r.point;
            last = omega arith;
          }
    ]
