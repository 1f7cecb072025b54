-- Steps that rise, and those above one of them.
use Rattle.std.proofs.Common.{◌≡◌, ◌<◌, ◌≤◌, ℕ, List, [], ◌∷◌, ◌++◌, filter, refl, sym, ◌∙◌, ap, inl, inr, arith}
use Rattle.std.specs.Prelude.{nat_lt}
use Rattle.std.proofs.lemmas.Bool.{cond-true, cond-false}
use Rattle.vq_ground.proofs.Tests.{below_test, not_below_test}
use Rattle.vq_capture.specs.declared.capture.Step.{Step}
use Rattle.vq_capture.specs.Points.{IsMember}
use Rattle.vq_capture.specs.Before.{steps_above}
use Rattle.vq_capture_laws.proofs.Cited.{AreRising, in_front, in_back, in_either}

pub rising_back : (xs ys : List Step) → AreRising (xs ++ ys) → AreRising ys
rising_back [] ys r = r
rising_back (x ∷ xs) ys r = rising_back xs ys r.1

pub front_below : (xs ys : List Step) (b s : Step) → AreRising (xs ++ b ∷ ys) → IsMember s xs → s.line < b.line
front_below [] ys b s r m = absurd m
front_below (x ∷ xs) ys b s r (inl e) =
    let l = r.0 b (in_back b xs (b ∷ ys) (inl refl)) in
    let h = ap (λ (t : Step). t.line) e in omega arith
front_below (x ∷ xs) ys b s r (inr m) = front_below xs ys b s r.1 m

-- what stands above a line is in front of it
pub in_front_of : (xs ys : List Step) (b s : Step) → AreRising (xs ++ b ∷ ys) → IsMember s (xs ++ b ∷ ys) → s.line < b.line → IsMember s xs
in_front_of xs ys b s r m l = elim (in_either s xs (b ∷ ys) m) [ inl n ↦ n | inr n ↦ absurd (late n) ]
  where
    late : IsMember s (b ∷ ys) → ⊥
    late (inl e) = let h = ap (λ (t : Step). t.line) e in omega arith
    late (inr n) = let h = (rising_back xs (b ∷ ys) r).0 s n in omega arith

none_above : (n : ℕ) (xs : List Step) → ((s : Step) → IsMember s xs → n ≤ s.line) → filter (λ s. nat_lt s.line n) xs ≡ []
none_above n [] f = refl
none_above n (x ∷ xs) f =
    let rest : List Step = filter (λ s. nat_lt s.line n) xs in
    cond-false (nat_lt x.line n) (x ∷ rest) rest (not_below_test x.line n (f x (inl refl)))
    ∙ none_above n xs (λ s m. f s (inr m))

pub those_above : (xs ys : List Step) (b : Step) → AreRising (xs ++ b ∷ ys) → steps_above (xs ++ b ∷ ys) b.line ≡ xs
those_above [] ys b r =
    none_above b.line (b ∷ ys) at
  where
    at : (s : Step) → IsMember s (b ∷ ys) → b.line ≤ s.line
    at s (inl e) = let h = ap (λ (t : Step). t.line) e in omega arith
    at s (inr m) = let l = r.0 s m in omega arith
those_above (x ∷ xs) ys b r =
    let rest : List Step = filter (λ s. nat_lt s.line b.line) (xs ++ b ∷ ys) in
    cond-true (nat_lt x.line b.line) (x ∷ rest) rest
    (below_test x.line b.line (r.0 b (in_back b xs (b ∷ ys) (inl refl))))
    ∙ ap (λ (l : List Step). x ∷ l) (those_above xs ys b r.1)

pub rising_front : (xs ys : List Step) → AreRising (xs ++ ys) → AreRising xs
rising_front [] ys r = tt
rising_front (x ∷ xs) ys r = (λ s m. r.0 s (in_front s xs ys m), rising_front xs ys r.1)

-- two steps of one line are the same
pub same_step : (steps : List Step) (a b : Step) → AreRising steps → IsMember a steps → IsMember b steps → a.line ≡ b.line → a ≡ b
same_step [] a b r m n e = absurd m
same_step (s ∷ steps) a b r (inl i) (inl j) e = i ∙ sym j
same_step (s ∷ steps) a b r (inl i) (inr n) e =
    let h = ap (λ (t : Step). t.line) i in let l = r.0 b n in absurd (omega arith)
same_step (s ∷ steps) a b r (inr m) (inl j) e =
    let h = ap (λ (t : Step). t.line) j in let l = r.0 a m in absurd (omega arith)
same_step (s ∷ steps) a b r (inr m) (inr n) e = same_step steps a b r.1 m n e
