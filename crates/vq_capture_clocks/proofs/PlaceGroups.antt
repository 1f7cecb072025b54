-- Groups of lanes: what one of them has, and what is left.
use Rattle.std.proofs.Common.{zero, suc, ◌≡◌, ◌≢◌, ◌<◌, ◌≤◌, ◌+◌, ◌∙◌, Bool, true, false, ℕ, List, [], ◌∷◌, ◌++◌, cond, refl, sym, ap, subst, arith, length, get_or, set, take}
use Rattle.std.specs.Prelude.{◌==◌, ◌&&◌, ◌||◌, not}
use Rattle.std.proofs.Math.Seq.{take-suc}
use Rattle.std.proofs.Common.{take_all}
use Rattle.std.specs.Int.{trailing_zeros}
use Rattle.std.proofs.Common.{w16}
use Rattle.std.proofs.lemmas.Nat.Bits.{bit_at-trailing_zeros}
use Rattle.vq_ground.proofs.Bools.{never}
use Rattle.vq_capture_clocks.specs.declared.groups.Group.{Group}
use Rattle.vq_capture_clocks.specs.Blocks.{says}
use Rattle.vq_capture_clocks.specs.Cells.{cell_in, hold, IsTaking, HasTaken}
use Rattle.vq_capture_clocks.specs.Clocks.{IsBelow, join, no_clock}
use Rattle.vq_capture_clocks.specs.LaneSets.{has_lane}
use Rattle.vq_capture_clocks.proofs.BlockLists.{below_both, below_first, below_second, below_on, below_same}

-- Places in several groups

pub hold_both : (xs ys : List Group) (p : ℕ) → hold (xs ++ ys) p ≡ (hold xs p || hold ys p)
hold_both [] ys p = refl
hold_both (x ∷ xs) ys p = by (has_lane x.lanes p) (hold_both xs ys p)
  where
    by : (b : Bool) → hold (xs ++ ys) p ≡ (hold xs p || hold ys p) → (b || hold (xs ++ ys) p) ≡ ((b || hold xs p) || hold ys p)
    by true e = refl
    by false e = e

pub cell_behind : (xs ys : List Group) (p : ℕ) → hold xs p ≡ false → cell_in (xs ++ ys) p ≡ cell_in ys p
cell_behind [] ys p e = refl
cell_behind (x ∷ xs) ys p e = by (has_lane x.lanes p) refl (λ f. cell_behind xs ys p f)
  where
    by : (b : Bool) → has_lane x.lanes p ≡ b → (hold xs p ≡ false → cell_in (xs ++ ys) p ≡ cell_in ys p) →
        cond b (says x.clock.items) (cell_in (xs ++ ys) p) ≡ cell_in ys p
    by true q f = never (sym (sym (ap (λ (t : Bool). t || hold xs p) q) ∙ e))
    by false q f = f (sym (ap (λ (t : Bool). t || hold xs p) q) ∙ e)

pub cell_front : (xs ys zs : List Group) (p : ℕ) → cell_in ys p ≡ cell_in zs p → cell_in (xs ++ ys) p ≡ cell_in (xs ++ zs) p
cell_front [] ys zs p e = e
cell_front (x ∷ xs) ys zs p e = ap (λ (c : ℕ → ℕ). cond (has_lane x.lanes p) (says x.clock.items) c) (cell_front xs ys zs p e)

pub cell_none : (xs : List Group) (p : ℕ) → hold xs p ≡ false → cell_in xs p ≡ no_clock
cell_none [] p e = refl
cell_none (x ∷ xs) p e = by (has_lane x.lanes p) refl (λ f. cell_none xs p f)
  where
    by : (b : Bool) → has_lane x.lanes p ≡ b → (hold xs p ≡ false → cell_in xs p ≡ no_clock) →
        cond b (says x.clock.items) (cell_in xs p) ≡ no_clock
    by true q f = never (sym (sym (ap (λ (t : Bool). t || hold xs p) q) ∙ e))
    by false q f = f (sym (ap (λ (t : Bool). t || hold xs p) q) ∙ e)

pub cell_here : (xs : List Group) (i : ℕ) (d : Group) (p : ℕ) → i < length xs → hold (take i xs) p ≡ false → has_lane (get_or xs i d).lanes p ≡ true → cell_in xs p ≡ says (get_or xs i d).clock.items
cell_here [] i d p l e h = absurd (omega arith)
cell_here (x ∷ xs) zero d p l e h = ap (λ (b : Bool). cond b (says x.clock.items) (cell_in xs p)) h
cell_here (x ∷ xs) (suc i) d p l e h = by (has_lane x.lanes p) refl (λ f. cell_here xs i d p (omega arith) f h)
  where
    by : (b : Bool) → has_lane x.lanes p ≡ b → (hold (take i xs) p ≡ false → cell_in xs p ≡ says (get_or xs i d).clock.items) →
        cond b (says x.clock.items) (cell_in xs p) ≡ says (get_or xs i d).clock.items
    by true q f = never (sym (sym (ap (λ (t : Bool). t || hold (take i xs) p) q) ∙ e))
    by false q f = f (sym (ap (λ (t : Bool). t || hold (take i xs) p) q) ∙ e)

pub hold_next : (xs : List Group) (i : ℕ) (d : Group) (p : ℕ) → i < length xs → hold (take i xs) p ≡ false → has_lane (get_or xs i d).lanes p ≡ false → hold (take (i + 1) xs) p ≡ false
hold_next xs i d p l e f =
    let n : i + 1 ≡ suc i = omega arith in
    ap (λ (k : ℕ). hold (take k xs) p) n
    ∙ (ap (λ (ys : List Group). hold ys p) (take-suc xs i d l)
    ∙ (hold_both (take i xs) (get_or xs i d ∷ []) p
    ∙ (λ j. e j || (f j || false))))

-- the same of a group that was found there
module _ (xs : List Group) (i : ℕ) (g : Group) (l : i < length xs) (q : g ≡ get_or xs i g) (p : ℕ) (e : hold (take i xs) p ≡ false) where
  pub cell_of : has_lane g.lanes p ≡ true → cell_in xs p ≡ says g.clock.items
  cell_of h =
      cell_here xs i g p l e (sym (ap (λ (x : Group). has_lane x.lanes p) q) ∙ h) ∙ ap (λ (x : Group). says x.clock.items) (sym q)

  pub hold_past : has_lane g.lanes p ≡ false → hold (take (i + 1) xs) p ≡ false
  hold_past h = hold_next xs i g p l e (sym (ap (λ (x : Group). has_lane x.lanes p) q) ∙ h)

-- Sets of places

-- a set that isn't empty has a place
pub some_place : (n : ℕ) → n < 65536 → n ≢ 0 → (p : ℕ) × (has_lane n p ≡ true)
some_place n l o =
    let p : 0 < n = above n o in
    let found = bit_at-trailing_zeros w16 n p l in
    (trailing_zeros w16 n, ap (λ (k : ℕ). k == 1) found.1)
  where
    above : (n : ℕ) → n ≢ 0 → 0 < n
    above n o = omega arith

-- Taking

module _ (xs : List Group) (i : ℕ) (here : Group) (l : i < length xs) (g : here ≡ get_or xs i here) (set left rest : ℕ) (c now : ℕ → ℕ) (k : IsTaking xs set c i left now) where
  -- none of the places that are left is of the group
  pub taking_past : ((p : ℕ) → (has_lane left p && has_lane here.lanes p) ≡ false) → IsTaking xs set c (i + 1) left now
  taking_past f = record {
    least = k.least;
    most = k.most;
    taken = k.taken;
    unmet = k.unmet;
    behind = λ p h. hold_past xs i here l g p (k.behind p h) (by p (has_lane left p) refl h (f p));
  }
    where
      by : (p : ℕ) (b : Bool) → has_lane left p ≡ b → b ≡ true → (b && has_lane here.lanes p) ≡ false → has_lane here.lanes p ≡ false
      by p true q r s = s
      by p false q r s = never (sym (sym r))

  -- one of them is
  pub taking_here : (some : (p : ℕ) × (has_lane left p ≡ true) × (has_lane here.lanes p ≡ true)) → ((p : ℕ) → has_lane rest p ≡ (has_lane left p && not (has_lane here.lanes p))) → (after : ℕ → ℕ) → after ≡ join now (says here.clock.items) → IsTaking xs set c (i + 1) rest after
  taking_here (q, inleft, inhere) f after e = record {
    least = below_on c now after k.least (up now (below_first now (says here.clock.items)));
    most = λ d a b. subst (λ (v : ℕ → ℕ). IsBelow v d) (sym e) (below_both now (says here.clock.items) d (k.most d a b)
        (subst (λ (v : ℕ → ℕ). IsBelow v d) (cell q (k.behind q inleft) inhere) (b q (k.unmet q inleft))));
    taken = λ p h r. by p (has_lane left p) (has_lane here.lanes p) refl refl h r;
    unmet = λ p h. k.unmet p (was p (has_lane left p) refl h);
    behind = λ p h. hold_past xs i here l g p (k.behind p (was p (has_lane left p) refl h)) (not_here p (has_lane left p) (has_lane here.lanes p) refl refl h);
  }
    where
      cell : (p : ℕ) → hold (take i xs) p ≡ false → has_lane here.lanes p ≡ true → cell_in xs p ≡ says here.clock.items
      cell p a b = cell_of xs i here l g p a b

      up : (g : ℕ → ℕ) → IsBelow g (join now (says here.clock.items)) → IsBelow g after
      up g a = subst (λ (h : ℕ → ℕ). IsBelow g h) (sym e) a

      was : (p : ℕ) (b : Bool) → has_lane left p ≡ b → has_lane rest p ≡ true → has_lane left p ≡ true
      was p true a h = a
      was p false a h = never (sym (f p ∙ ap (λ (t : Bool). t && not (has_lane here.lanes p)) a) ∙ h)

      not_here : (p : ℕ) (b t : Bool) → has_lane left p ≡ b → has_lane here.lanes p ≡ t → has_lane rest p ≡ true → has_lane here.lanes p ≡ false
      not_here p b false a u h = u
      not_here p true true a u h = never (sym (f p ∙ (λ j. a j && not (u j))) ∙ h)
      not_here p false true a u h = never (sym (f p ∙ (λ j. a j && not (u j))) ∙ h)

      by : (p : ℕ) (b t : Bool) → has_lane left p ≡ b → has_lane here.lanes p ≡ t → has_lane set p ≡ true → has_lane rest p ≡ false → IsBelow (cell_in xs p) after
      by p false t a u h r = below_on (cell_in xs p) now after (k.taken p h a) (up now (below_first now (says here.clock.items)))
      by p true true a u h r =
          subst (λ (d : ℕ → ℕ). IsBelow d after) (sym (cell p (k.behind p a) u)) (up (says here.clock.items) (below_second now (says here.clock.items)))
      by p true false a u h r = never (sym r ∙ (f p ∙ (λ j. a j && not (u j))))

-- the beginning
pub taking_none : (xs : List Group) (set : ℕ) (c : ℕ → ℕ) → IsTaking xs set c 0 set c
taking_none xs set c = record {
  least = below_same c c refl;
  most = λ d a b. a;
  taken = λ p h r. never (sym r ∙ h);
  unmet = λ p h. h;
  behind = λ p h. refl;
}

-- the end
pub taking_all : (xs : List Group) (i set left : ℕ) (c now : ℕ → ℕ) → length xs ≤ i → IsTaking xs set c i left now → HasTaken (cell_in xs) set c now
taking_all xs i set left c now l k = record {
  least = k.least;
  taken = λ p h. by p (has_lane left p) refl h;
  most = k.most;
}
  where
    by : (p : ℕ) (b : Bool) → has_lane left p ≡ b → has_lane set p ≡ true → IsBelow (cell_in xs p) now
    by p false a h = k.taken p h a
    by p true a h =
        let none : cell_in xs p ≡ no_clock =
        cell_none xs p (subst (λ (ys : List Group). hold ys p ≡ false) (take_all i xs l) (k.behind p a)) in
        subst (λ (d : ℕ → ℕ). IsBelow d now) (sym none) (λ j. omega arith)

-- a place that two sets share
pub some_both : (a b n : ℕ) → n < 65536 → n ≢ 0 → ((p : ℕ) → has_lane n p ≡ (has_lane a p && has_lane b p)) → (p : ℕ) × (has_lane a p ≡ true) × (has_lane b p ≡ true)
some_both a b n l o f =
    let found = some_place n l o in
    let is = sym (f found.0) ∙ found.1 in
    (found.0, first (has_lane a found.0) (has_lane b found.0) is, second (has_lane a found.0) (has_lane b found.0) is)
  where
    first : (s t : Bool) → (s && t) ≡ true → s ≡ true
    first true t e = refl
    first false t e = never e

    second : (s t : Bool) → (s && t) ≡ true → t ≡ true
    second true t e = e
    second false t e = never e
