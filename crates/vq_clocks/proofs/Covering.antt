-- A row that joins another covers what both cover.
use Rattle.std.proofs.Common.{◌≡◌, ℕ, ◌<◌, ◌≤◌, max, Bool, true, false, eqb, if◌then◌else◌, Option, Some, refl, sym, ap, ◌∙◌, ◌⊎◌, inl, inr, arith}
use Rattle.std.proofs.lemmas.Bool.{cases_eq, cases_lt, cond-true, cond-false, eq-eqb, eqb-true}
use Rattle.vq_clocks.specs.VectorClocks.{Covers}

pub covers_same : (lane : ℕ → ℕ) (of : ℕ → Option ℕ) (row : ℕ → ℕ) (S Q : ℕ → Type 0) → Covers lane of row S → ((x : ℕ) → S x → Q x) → ((x : ℕ) → Q x → S x) → Covers lane of row Q
covers_same lane of row S Q c f g = record { below = λ x i o h. c.below x i o (g x h); covered = λ x i o h. f x (c.covered x i o h) }

module _ (jobs : ℕ) (lane : ℕ → ℕ) (of : ℕ → Option ℕ) (Reached : ℕ → ℕ → Type 0) (closed : (x i j : ℕ) → of x ≡ Some i → i < j → j < jobs → lane i ≡ lane j → Reached x j) where
  -- what comes through a job: what has reached it, and its own things below a bound
  abbrev pub Comes : ℕ → ℕ → ℕ → Type 0
  Comes j b x = Reached x j ⊎ ((of x ≡ Some j) × (x < b))

  pub joins : (row from new : ℕ → ℕ) (S : ℕ → Type 0) (j b : ℕ) → j < jobs → Covers lane of row S → Covers lane of from (λ x. Reached x j) → ((x i : ℕ) → of x ≡ Some i → j < i → b ≤ x) → ((l : ℕ) → new l ≡ max (max (row l) (from l)) (if eqb (lane j) l then b else 0)) → Covers lane of new (λ x. S x ⊎ Comes j b x)
  joins row from new S j b l s f above is = record { below = below; covered = λ x i o h. by_lane x i o h (eqb (lane j) (lane i)) refl }
    where
      below : (x i : ℕ) → of x ≡ Some i → (S x ⊎ Comes j b x) → x < new (lane i)
      below x i o (inl q) = let a = s.below x i o q in let e = is (lane i) in omega arith
      below x i o (inr (inl q)) = let a = f.below x i o q in let e = is (lane i) in omega arith
      below x i o (inr (inr q)) =
          let same : j ≡ i = cc in
          let t = cond-true (eqb (lane j) (lane i)) b 0 (eq-eqb (lane j) (lane i) (ap lane same)) in
          let e = is (lane i) in
          let h = q.1 in
          omega arith

      by_lane : (x i : ℕ) → of x ≡ Some i → x < new (lane i) → (v : Bool) → eqb (lane j) (lane i) ≡ v → S x ⊎ Comes j b x
      by_lane x i o h v q =
          elim (cases_lt x (row (lane i))) [
            | inl a ↦ inl (s.covered x i o a)
            | inr a ↦ elim (cases_lt x (from (lane i))) [
              | inl c ↦ inr (inl (f.covered x i o c))
              | inr c ↦ inr (own v q a c)
            ]
          ]
        where
          own : (v : Bool) → eqb (lane j) (lane i) ≡ v → row (lane i) ≤ x → from (lane i) ≤ x → Comes j b x
          own false q a c = let t = cond-false (eqb (lane j) (lane i)) b 0 q in let e = is (lane i) in absurd (omega arith)
          own true q a c =
              let t = cond-true (eqb (lane j) (lane i)) b 0 q in
              let e = is (lane i) in
              let under : x < b = omega arith in
              let alike = eqb-true (lane j) (lane i) q in
              elim (cases_eq i j) [
                | inl same ↦ inr (o ∙ ap Some same, under)
                | inr other ↦ elim (cases_lt i j) [
                  | inl less ↦ inl (closed x i j o less l (sym alike))
                  | inr more ↦ let w = above x i o (omega arith) in absurd (omega arith)
                ]
              ]
