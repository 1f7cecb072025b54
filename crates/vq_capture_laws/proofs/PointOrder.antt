-- The points of a capture stand in the order of its lines, where the lines rise.
use Rattle.std.proofs.Common.{◌≡◌, ◌<◌, ◌≤◌, List, [], ◌∷◌, ◌++◌, filter, refl, sym, ◌∙◌, ap, inl, inr, arith, ℕ, ◌+◌}
use Rattle.std.specs.Prelude.{Some}
use Rattle.vq_capture.specs.declared.stage.Stage.{Stage}
use Rattle.vq_capture.specs.declared.statement.Statement.{Statement}
use Rattle.vq_capture.specs.declared.statement.Statement.TheVariants.{CommandAccess}
use Rattle.vq_capture.specs.declared.capture.Step.{Step}
use Rattle.vq_capture.specs.Masks.{has_stage}
use Rattle.vq_capture.specs.Points.{Point, points_of, points_at, points_of_step, stages_with_word, IsMember}
use Rattle.vq_capture_laws.proofs.MemberFacts.{in_either, from_flat_map, from_map}
use Rattle.vq_capture_laws.proofs.BehindPoints.{AreInOrder}

-- each step stands above those behind it in the list
abbrev pub AreRising : List Step → Type 0
AreRising [] = Unit {0}
AreRising (x ∷ xs) = ((y : Step) → IsMember y xs → x.line < y.line) × AreRising xs

-- a point of a step has that step
pub own_step : (s : Step) (said : Statement) (p : Point) → IsMember p (points_at s said) → p.step ≡ s
own_step s (CommandAccess access scope) p m =
    let at : Stage → Point = λ t. record { step = s; stage = Some t } in
    let r = from_map at p (filter (has_stage scope.stages) stages_with_word) m in
    ap (λ (q : Point). q.step) r.2
own_step s other p (inl e) = ap (λ (q : Point). q.step) e
own_step s other p (inr m) = absurd m

abbrev pub of_line : Step → Point → Type 0
of_line s p = p.step.line ≡ s.line

pub own_line : (s : Step) (p : Point) → IsMember p (points_of_step s) → of_line s p
own_line s p m = ap (λ (t : Step). t.line) (own_step s s.statement p m)

-- points of one line, and behind them points in order of later lines, are in order
in_order : (n : ℕ) (xs ys : List Point) → ((p : Point) → IsMember p xs → p.step.line ≡ n) → ((p : Point) → IsMember p ys → n < p.step.line) → AreInOrder ys → AreInOrder (xs ++ ys)
in_order n [] ys f g o = o
in_order n (x ∷ xs) ys f g o = (first, in_order n xs ys (λ p m. f p (inr m)) g o)
  where
    first : (y : Point) → IsMember y (xs ++ ys) → x.step.line ≤ y.step.line
    first y m = elim (in_either y xs ys m) [
      | inl k ↦ let a = f x (inl refl) in let b = f y (inr k) in omega arith
      | inr k ↦ let a = f x (inl refl) in let b = g y k in omega arith
    ]

pub points_in_order : (steps : List Step) → AreRising steps → AreInOrder (points_of steps)
points_in_order [] r = tt
points_in_order (s ∷ steps) r =
    in_order s.line (points_of_step s) (points_of steps) (own_line s) below (points_in_order steps r.1)
  where
    below : (p : Point) → IsMember p (points_of steps) → s.line < p.step.line
    below p m =
        let f = from_flat_map points_of_step p steps m in
        let a = own_line f.0 p f.2 in
        let b = r.0 f.0 f.1 in omega arith

-- two steps of one line are the same
pub same_step : (steps : List Step) (a b : Step) → AreRising steps → IsMember a steps → IsMember b steps → a.line ≡ b.line → a ≡ b
same_step [] a b r m n e = absurd m
same_step (s ∷ steps) a b r (inl i) (inl j) e = i ∙ sym j
same_step (s ∷ steps) a b r (inl i) (inr n) e =
    let h = ap (λ (t : Step). t.line) i in let l = r.0 b n in absurd (omega arith)
same_step (s ∷ steps) a b r (inr m) (inl j) e =
    let h = ap (λ (t : Step). t.line) j in let l = r.0 a m in absurd (omega arith)
same_step (s ∷ steps) a b r (inr m) (inr n) e = same_step steps a b r.1 m n e

-- Steps that rise, below a number

pub record AreNumbered (n : ℕ) (steps : List Step) : Type 0 where
  pub rising : AreRising steps
  pub below : (s : Step) → IsMember s steps → s.line < n

rising_with : (steps : List Step) (x : Step) → AreRising steps → ((s : Step) → IsMember s steps → s.line < x.line) → AreRising (steps ++ x ∷ [])
rising_with [] x r f = (λ y m. absurd m, tt)
rising_with (s ∷ steps) x r f = (first, rising_with steps x r.1 (λ t m. f t (inr m)))
  where
    first : (y : Step) → IsMember y (steps ++ x ∷ []) → s.line < y.line
    first y m = elim (in_either y steps (x ∷ []) m) [
      | inl k ↦ r.0 y k
      | inr k ↦ last k
    ]
      where
        last : IsMember y (x ∷ []) → s.line < y.line
        last (inl e) = let h = ap (λ (t : Step). t.line) e in let l = f s (inl refl) in omega arith
        last (inr k) = absurd k

pub numbered_with : (n : ℕ) (steps : List Step) (x : Step) → x.line ≡ n → AreNumbered n steps → AreNumbered (n + 1) (steps ++ x ∷ [])
numbered_with n steps x e k = record {
  rising = rising_with steps x k.rising (λ s m. let l = k.below s m in omega arith);
  below = below;
}
  where
    last : (s : Step) → IsMember s (x ∷ []) → s.line < n + 1
    last s (inl q) = let h = ap (λ (t : Step). t.line) q in omega arith
    last s (inr m) = absurd m

    below : (s : Step) → IsMember s (steps ++ x ∷ []) → s.line < n + 1
    below s m = elim (in_either s steps (x ∷ []) m) [ inl i ↦ (let l = k.below s i in omega arith) | inr i ↦ last s i ]

pub numbered_on : (n : ℕ) (steps : List Step) → AreNumbered n steps → AreNumbered (n + 1) steps
numbered_on n steps k = record { rising = k.rising; below = λ s m. let l = k.below s m in omega arith }
