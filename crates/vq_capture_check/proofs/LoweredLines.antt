-- The least lines that lanes are asked for.
use Rattle.std.proofs.Common.{suc, drop, drop-cons, ◌≡◌, ◌<◌, ◌≤◌, ◌+◌, ◌∙◌, Bool, true, false, ℕ, List, [], ◌∷◌, ◌++◌, cond, refl, sym, ap, subst, arith, length, get_or, inl, inr, Some}
use Rattle.std.specs.Prelude.{nat_lt, ◌==◌}
use Rattle.std.specs.Option.{option_map_or}
use Rattle.std.specs.Ordering.{nat_cmp}
use Rattle.std.specs.Map.{keys_of, lookup}
use Rattle.std.specs.BTreeMap.{BTreeMap, is_at, keys}
use Rattle.vq_ground.proofs.Tests.{below_of_test, at_least_of_test}
use Rattle.vq_capture.specs.Points.{Point, IsMember, points_of_step}
use Rattle.vq_capture_touched.specs.declared.touch.Touch.{Touch}
use Rattle.vq_capture_check.specs.declared.touched.TouchedThing.{TouchedThing}
use Rattle.vq_capture_check.specs.Alike.{IsAsked}
use Rattle.vq_capture_check.specs.Lanes.{given}
use Rattle.vq_capture_check.specs.Least.{lesser, lowered, lower_lanes, lower_points, lower_touches, lower_things}
use Rattle.vq_capture_check.specs.Watching.{Touched, all_touched, none_touched}
use Rattle.vq_capture_check.specs.Watches.{parts_of, touched_at}
use Rattle.vq_capture_clocks.proofs.Cited.{other_of_test, same_number}

-- Accesses in two lists, and the accesses of one resource more

pub lower_both : (f : ℕ → ℕ) (xs ys : List Touch) → lower_touches f (xs ++ ys) ≡ lower_touches (lower_touches f xs) ys
lower_both f [] ys = refl
lower_both f (x ∷ xs) ys = lower_both (lower_points f x (points_of_step x.step)) xs ys

pub things_more : (f : ℕ → ℕ) (touched : ℕ → Touched) (rs : List ℕ) (r : ℕ) → lower_things f touched (rs ++ r ∷ []) ≡ lower_touches (lower_things f touched rs) (all_touched (touched r))
things_more f touched [] r = refl
things_more f touched (q ∷ qs) r = things_more (lower_touches f (all_touched (touched q))) touched qs r

-- No line is raised, and each access lowers those of the lanes that it gives.

lesser_keeps : (a b : ℕ) → lesser a b ≤ a
lesser_keeps a b = by (nat_lt b a) refl
  where
    by : (t : Bool) → nat_lt b a ≡ t → cond t b a ≤ a
    by true e = let l = below_of_test b a e in omega arith
    by false e = omega arith

lesser_low : (a b : ℕ) → lesser a b ≤ b
lesser_low a b = by (nat_lt b a) refl
  where
    by : (t : Bool) → nat_lt b a ≡ t → cond t b a ≤ b
    by true e = omega arith
    by false e = at_least_of_test b a e

module _ (n k : ℕ) where
  one_keeps : (f : ℕ → ℕ) (j : ℕ) → lowered f j n k ≤ f k
  one_keeps f j = by (k == j)
    where
      by : (t : Bool) → cond t (lesser (f k) n) (f k) ≤ f k
      by true = lesser_keeps (f k) n
      by false = omega arith

  one_low : (f : ℕ → ℕ) (j : ℕ) → k ≡ j → lowered f j n k ≤ n
  one_low f j e = by (k == j) refl
    where
      by : (t : Bool) → (k == j) ≡ t → cond t (lesser (f k) n) (f k) ≤ n
      by true q = lesser_low (f k) n
      by false q = absurd (other_of_test k j q e)

  lanes_keep : (ks : List ℕ) (f : ℕ → ℕ) → lower_lanes f n ks k ≤ f k
  lanes_keep [] f = omega arith
  lanes_keep (j ∷ js) f =
      let rest = lanes_keep js (lowered f j n) in
      let one = one_keeps f j in
      omega arith

  lanes_low : (ks : List ℕ) (f : ℕ → ℕ) → IsMember k ks → lower_lanes f n ks k ≤ n
  lanes_low [] f m = absurd m
  lanes_low (j ∷ js) f (inl e) =
      let rest = lanes_keep js (lowered f j n) in
      let one = one_low f j e in
      omega arith
  lanes_low (j ∷ js) f (inr m) = lanes_low js (lowered f j n) m

module _ (k : ℕ) where
  points_keep : (t : Touch) (xs : List Point) (f : ℕ → ℕ) → lower_points f t xs k ≤ f k
  points_keep t [] f = omega arith
  points_keep t (x ∷ xs) f =
      let rest = points_keep t xs (lower_lanes f t.step.line (given t.at x)) in
      let one = lanes_keep t.step.line k (given t.at x) f in
      omega arith

  points_low : (t : Touch) (xs : List Point) (f : ℕ → ℕ) (x : Point) → IsMember x xs → IsMember k (given t.at x) → lower_points f t xs k ≤ t.step.line
  points_low t [] f x m g = absurd m
  points_low t (y ∷ ys) f x (inl e) g =
      let rest = points_keep t ys (lower_lanes f t.step.line (given t.at y)) in
      let one = lanes_low t.step.line k (given t.at y) f (subst (λ (z : Point). IsMember k (given t.at z)) e g) in
      omega arith
  points_low t (y ∷ ys) f x (inr m) g = points_low t ys (lower_lanes f t.step.line (given t.at y)) x m g

  touches_keep : (ts : List Touch) (f : ℕ → ℕ) → lower_touches f ts k ≤ f k
  touches_keep [] f = omega arith
  touches_keep (t ∷ ts) f =
      let rest = touches_keep ts (lower_points f t (points_of_step t.step)) in
      let one = points_keep t (points_of_step t.step) f in
      omega arith

  touches_low : (ts : List Touch) (f : ℕ → ℕ) (t : Touch) (x : Point) → IsMember t ts → IsMember x (points_of_step t.step) → IsMember k (given t.at x) → lower_touches f ts k ≤ t.step.line
  touches_low [] f t x m p g = absurd m
  touches_low (u ∷ us) f t x (inl e) p g =
      let rest = touches_keep us (lower_points f u (points_of_step u.step)) in
      let one : lower_points f u (points_of_step u.step) k ≤ t.step.line =
      subst (λ (v : Touch). lower_points f v (points_of_step v.step) k ≤ t.step.line) e (points_low t (points_of_step t.step) f x p g) in
      omega arith
  touches_low (u ∷ us) f t x (inr m) p g = touches_low us (lower_points f u (points_of_step u.step)) t x m p g

  module _ (touched : ℕ → Touched) where
    things_keep : (rs : List ℕ) (f : ℕ → ℕ) → lower_things f touched rs k ≤ f k
    things_keep [] f = omega arith
    things_keep (r ∷ rs) f =
        let rest = things_keep rs (lower_touches f (all_touched (touched r))) in
        let one = touches_keep (all_touched (touched r)) f in
        omega arith

    things_low : (rs : List ℕ) (f : ℕ → ℕ) (r : ℕ) (t : Touch) (x : Point) → IsMember r rs → IsMember t (all_touched (touched r)) → IsMember x (points_of_step t.step) → IsMember k (given t.at x) → lower_things f touched rs k ≤ t.step.line
    things_low [] f r t x i m p g = absurd i
    things_low (q ∷ qs) f r t x (inl e) m p g =
        let rest = things_keep qs (lower_touches f (all_touched (touched q))) in
        let one = touches_low (all_touched (touched q)) f t x (subst (λ (s : ℕ). IsMember t (all_touched (touched s))) e m) p g in
        omega arith
    things_low (q ∷ qs) f r t x (inr i) m p g = things_low qs (lower_touches f (all_touched (touched q))) r t x i m p g

-- A resource with accesses is in the map.

pub in_keys : (es : List (ℕ × TouchedThing)) (r : ℕ) (t : Touch) → IsMember t (all_touched (option_map_or parts_of (lookup (is_at (nat_cmp r)) es) none_touched)) → IsMember r (keys_of es)
in_keys [] r t m = absurd m
in_keys (e ∷ es) r t m = case (is_at (nat_cmp r) e.0) refl m (λ n. in_keys es r t n)
  where
    case : (b : Bool) → is_at (nat_cmp r) e.0 ≡ b →
        IsMember t (all_touched (option_map_or parts_of (cond b (Some e.1) (lookup (is_at (nat_cmp r)) es)) none_touched)) →
        (IsMember t (all_touched (option_map_or parts_of (lookup (is_at (nat_cmp r)) es) none_touched)) → IsMember r (keys_of es)) →
        IsMember r (e.0 ∷ keys_of es)
    case true q n f = inl (same_number r e.0 q)
    case false q n f = inr (f n)

-- The lines are the least that lanes are asked for.
pub asked_least : (map : BTreeMap ℕ TouchedThing) (next line lane : ℕ) → IsAsked (touched_at map) next line lane → lower_things (λ k. next) (touched_at map) (keys map) lane ≤ line
asked_least map next line lane (inl l) =
    let keeps = things_keep lane (touched_at map) (keys map) (λ k. next) in
    omega arith
asked_least map next line lane (inr (r, t, x, m, e, p, g)) =
    subst (λ (n : ℕ). lower_things (λ k. next) (touched_at map) (keys map) lane ≤ n) e
    (things_low lane (touched_at map) (keys map) (λ k. next) r t x (in_keys map.entries r t m) m p g)

-- the next lane
pub lowered_next : (f g : ℕ → ℕ) (line : ℕ) (ks : List ℕ) (i d : ℕ) → i < length ks → ((k : ℕ) → g k ≡ lowered f (get_or ks i d) line k) → lower_lanes g line (drop (i + 1) ks) ≡ lower_lanes f line (drop i ks)
lowered_next f g line ks i d l e =
    let n : i + 1 ≡ suc i = omega arith in
    ap (λ (m : ℕ). lower_lanes g line (drop m ks)) n
    ∙ (ap (λ (h : ℕ → ℕ). lower_lanes h line (drop (suc i) ks)) (λ j k. e k j)
    ∙ sym (ap (λ (js : List ℕ). lower_lanes f line js) (drop-cons ks i d l)))
