-- The points that are gathered behind a point are those that it is before.
use Rattle.std.proofs.Common.{◌≡◌, ◌⊎◌, ◌<◌, ◌≤◌, Bool, true, false, List, [], ◌∷◌, if◌then◌else◌, refl, sym, ◌∙◌, ap, subst, inl, inr, arith}
use Rattle.std.specs.Prelude.{nat_lt, ◌||◌}
use Rattle.std.specs.List.{list_any}
use Rattle.std.proofs.lemmas.Bool.{or_cases, or_left, or_right}
use Rattle.vq_ground.proofs.Bools.{never}
use Rattle.vq_ground.proofs.Tests.{below_of_test}
use Rattle.vq_capture.specs.declared.capture.Step.{Step}
use Rattle.vq_capture.specs.Points.{Point, points_of, IsMember}
use Rattle.vq_capture.specs.Before.{Before, one, more, is_direct, by_scopes, by_signals, by_release, by_thread, by_telling, by_cut}
use Rattle.vq_capture_laws.specs.Closure.{follows, behind, all_behind, is_before}
use Rattle.vq_capture_laws.proofs.MemberFacts.{and_left, any_of, one_of_any}

-- each point stands at a line at most that of the points behind it in the list
abbrev pub AreInOrder : List Point → Type 0
AreInOrder [] = Unit {0}
AreInOrder (x ∷ xs) = ((y : Point) → IsMember y xs → x.step.line ≤ y.step.line) × AreInOrder xs

-- an edge leads down
pub down : (steps : List Step) (x y : Point) → is_direct steps x y ≡ true → x.step.line < y.step.line
down steps x y h =
    below_of_test x.step.line y.step.line
    (and_left (nat_lt x.step.line y.step.line)
    (by_scopes x y || by_signals x y || by_release steps x y || by_thread x y || by_telling x y || by_cut x y) h)

module _ (steps : List Step) (x : Point) where
  pub kept : (ps found : List Point) (z : Point) → IsMember z found → IsMember z (behind steps x found ps)
  kept [] found z m = m
  kept (y ∷ ys) found z m = case (follows steps x found y) (kept ys (y ∷ found) z (inr m)) (kept ys found z m)
    where
      case : (b : Bool) → IsMember z (behind steps x (y ∷ found) ys) → IsMember z (behind steps x found ys) →
          IsMember z (if b then behind steps x (y ∷ found) ys else behind steps x found ys)
      case true f g = f
      case false f g = g

  pub comes : (ps found : List Point) (z : Point) → IsMember z (behind steps x found ps) → IsMember z found ⊎ IsMember z ps
  comes [] found z m = inl m
  comes (y ∷ ys) found z m = case (follows steps x found y) m (comes ys (y ∷ found) z) (comes ys found z)
    where
      sort : IsMember z (y ∷ found) ⊎ IsMember z ys → IsMember z found ⊎ IsMember z (y ∷ ys)
      sort (inl (inl e)) = inr (inl e)
      sort (inl (inr k)) = inl k
      sort (inr k) = inr (inr k)

      sort_on : IsMember z found ⊎ IsMember z ys → IsMember z found ⊎ IsMember z (y ∷ ys)
      sort_on (inl k) = inl k
      sort_on (inr k) = inr (inr k)

      case : (b : Bool) → IsMember z (if b then behind steps x (y ∷ found) ys else behind steps x found ys) →
          (IsMember z (behind steps x (y ∷ found) ys) → IsMember z (y ∷ found) ⊎ IsMember z ys) →
          (IsMember z (behind steps x found ys) → IsMember z found ⊎ IsMember z ys) →
          IsMember z found ⊎ IsMember z (y ∷ ys)
      case true m f g = sort (f m)
      case false m f g = sort_on (g m)

  -- what follows is behind
  pub behind_of : (found : List Point) (y : Point) → ((z : Point) → IsMember z found → Before steps x z) → IsMember y (points_of steps) → follows steps x found y ≡ true → Before steps x y
  behind_of found y f p h = elim (or_cases (is_direct steps x y) (list_any (λ z. is_direct steps z y) found) h) [
    | inl d ↦ one (record { point = p; direct = d })
    | inr a ↦ let r = one_of_any (λ z. is_direct steps z y) found a in
        more (f r.0 r.1) (record { point = p; direct = r.2 })
  ]

  pub sound : (ps found : List Point) → ((z : Point) → IsMember z found → Before steps x z) → ((z : Point) → IsMember z ps → IsMember z (points_of steps)) → (z : Point) → IsMember z (behind steps x found ps) → Before steps x z
  sound [] found f g z m = f z m
  sound (y ∷ ys) found f g z m =
      case (follows steps x found y) refl m (λ h. sound ys (y ∷ found) h (λ w k. g w (inr k)) z)
      (sound ys found f (λ w k. g w (inr k)) z)
    where
      with_one : follows steps x found y ≡ true → (w : Point) → IsMember w (y ∷ found) → Before steps x w
      with_one e w (inl q) =
          subst (λ (v : Point). Before steps x v) (sym q) (behind_of found y f (g y (inl refl)) e)
      with_one e w (inr k) = f w k

      case : (b : Bool) → follows steps x found y ≡ b →
          IsMember z (if b then behind steps x (y ∷ found) ys else behind steps x found ys) →
          (((w : Point) → IsMember w (y ∷ found) → Before steps x w) → IsMember z (behind steps x (y ∷ found) ys) →
          Before steps x z) → (IsMember z (behind steps x found ys) → Before steps x z) → Before steps x z
      case true e m h k = h (with_one e) m
      case false e m h k = k m

  -- a point that follows is gathered
  gathered : (y : Point) (ys found : List Point) (z : Point) → z ≡ y → follows steps x found y ≡ true → IsMember z (behind steps x found (y ∷ ys))
  gathered y ys found z e t = case (follows steps x found y) refl
    where
      case : (b : Bool) → follows steps x found y ≡ b →
          IsMember z (if b then behind steps x (y ∷ found) ys else behind steps x found ys)
      case true q = kept ys (y ∷ found) z (inl e)
      case false q = never (sym q ∙ t)

  pub added : (ps found : List Point) (z : Point) → IsMember z ps → is_direct steps x z ≡ true → IsMember z (behind steps x found ps)
  added [] found z m d = absurd m
  added (y ∷ ys) found z (inl e) d =
      gathered y ys found z e
      (or_left (is_direct steps x y) (list_any (λ w. is_direct steps w y) found)
      (subst (λ (v : Point). is_direct steps x v ≡ true) e d))
  added (y ∷ ys) found z (inr m) d = case (follows steps x found y) (added ys (y ∷ found) z m d) (added ys found z m d)
    where
      case : (b : Bool) → IsMember z (behind steps x (y ∷ found) ys) → IsMember z (behind steps x found ys) →
          IsMember z (if b then behind steps x (y ∷ found) ys else behind steps x found ys)
      case true f g = f
      case false f g = g

  -- what stands before a point, in order, was gathered before it
  pub found_first : (y : Point) (ys found : List Point) (w : Point) → AreInOrder (y ∷ ys) → IsMember w (behind steps x found (y ∷ ys)) → w.step.line < y.step.line → IsMember w found
  found_first y ys found w o m l = elim (comes (y ∷ ys) found w m) [
    | inl k ↦ k
    | inr k ↦ absurd (late k)
  ]
    where
      late : IsMember w (y ∷ ys) → ⊥
      late (inl e) = let same = ap (λ (v : Point). v.step.line) e in omega arith
      late (inr k) = let least = o.0 w k in omega arith

  pub led : (ps found : List Point) (w z : Point) → AreInOrder ps → IsMember z ps → IsMember w (behind steps x found ps) → is_direct steps w z ≡ true → IsMember z (behind steps x found ps)
  led [] found w z o k m d = absurd k
  led (y ∷ ys) found w z o (inl e) m d =
      let d' = subst (λ (v : Point). is_direct steps w v ≡ true) e d in
      let first = found_first y ys found w o m (down steps w y d') in
      gathered y ys found z e
      (or_right (is_direct steps x y) (list_any (λ v. is_direct steps v y) found)
      (any_of (λ v. is_direct steps v y) found w first d'))
  led (y ∷ ys) found w z o (inr k) m d =
      case (follows steps x found y) m (λ n. led ys (y ∷ found) w z o.1 k n d) (λ n. led ys found w z o.1 k n d)
    where
      case : (b : Bool) → IsMember w (if b then behind steps x (y ∷ found) ys else behind steps x found ys) →
          (IsMember w (behind steps x (y ∷ found) ys) → IsMember z (behind steps x (y ∷ found) ys)) →
          (IsMember w (behind steps x found ys) → IsMember z (behind steps x found ys)) →
          IsMember z (if b then behind steps x (y ∷ found) ys else behind steps x found ys)
      case true n f g = f n
      case false n f g = g n

  pub complete : (z : Point) → AreInOrder (points_of steps) → Before steps x z → IsMember z (all_behind steps x)
  complete z o (one e) = added (points_of steps) [] z e.point e.direct
  complete z o (more {y} b e) = led (points_of steps) [] y z o e.point (complete y o b) e.direct

  pub before_by_test : (y : Point) → IsMember y (points_of steps) → is_before steps x y ≡ true → Before steps x y
  before_by_test y p h =
      behind_of (all_behind steps x) y (sound (points_of steps) [] (λ z m. absurd m) (λ z m. m)) p h

  pub test_of_before : (y : Point) → AreInOrder (points_of steps) → Before steps x y → is_before steps x y ≡ true
  test_of_before y o (one e) =
      or_left (is_direct steps x y) (list_any (λ z. is_direct steps z y) (all_behind steps x)) e.direct
  test_of_before y o (more {y = w} b e) =
      or_right (is_direct steps x y) (list_any (λ z. is_direct steps z y) (all_behind steps x))
      (any_of (λ z. is_direct steps z y) (all_behind steps x) w (complete w o b) e.direct)
