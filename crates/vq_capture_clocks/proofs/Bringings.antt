-- A clock that is brought to the places of a set, group by group.
use Rattle.std.proofs.Common.{zero, suc, ◌≡◌, ◌<◌, ◌≤◌, ◌+◌, ◌∙◌, Bool, true, false, ℕ, List, [], ◌∷◌, ◌++◌, cond, refl, sym, ap, subst, arith, length, get_or, take, drop, Vec, Global}
use Rattle.std.proofs.Common.{set as set_at}
use Rattle.std.specs.Prelude.{◌&&◌, ◌||◌, not}
use Rattle.std.proofs.Common.{take_all}
use Rattle.std.proofs.lemmas.List.{get_or_default}
use Rattle.vq_ground.proofs.Bools.{never}
use Rattle.vq_capture_clocks.specs.declared.clocks.Block.{Block}
use Rattle.vq_capture_clocks.specs.declared.groups.Group.{Group}
use Rattle.vq_capture_clocks.specs.Blocks.{says}
use Rattle.vq_capture_clocks.specs.Cells.{cell_in, hold, IsBringing, brought_in}
use Rattle.vq_capture_clocks.specs.Clocks.{IsBelow, join, no_clock}
use Rattle.vq_capture_clocks.specs.LaneSets.{has_lane}
use Rattle.vq_capture_clocks.proofs.BlockLists.{join_below}
use Rattle.vq_capture_clocks.proofs.Joined.{nothing_join}
use Rattle.vq_capture_clocks.proofs.LaneBits.{in_nothing}
use Rattle.vq_capture_clocks.proofs.PlaceGroups.{cell_behind, cell_front, cell_none, cell_of, hold_both, hold_past}

-- a list with some in place of one
abbrev pub with_some : List Group → ℕ → List Group → List Group
with_some xs i ys = take i xs ++ (ys ++ drop (suc i) xs)

pub set_some : (xs : List Group) (i : ℕ) (y : Group) → i < length xs → set_at xs i y ≡ with_some xs i (y ∷ [])
set_some [] i y l = absurd (omega arith)
set_some (x ∷ xs) zero y l = refl
set_some (x ∷ xs) (suc i) y l = ap (λ (ys : List Group). x ∷ ys) (set_some xs i y (omega arith))

pub insert_some : (xs : List Group) (i : ℕ) (y z : Group) → i < length xs → take (i + 1) (set_at xs i y) ++ z ∷ drop (i + 1) (set_at xs i y) ≡ with_some xs i (y ∷ z ∷ [])
insert_some xs i y z l =
    let n : i + 1 ≡ suc i = omega arith in
    ap (λ (k : ℕ). take k (set_at xs i y) ++ z ∷ drop k (set_at xs i y)) n ∙ at xs i l
  where
    at : (xs : List Group) (i : ℕ) → i < length xs → take (suc i) (set_at xs i y) ++ z ∷ drop (suc i) (set_at xs i y) ≡ with_some xs i (y ∷ z ∷ [])
    at [] i l = absurd (omega arith)
    at (x ∷ xs) zero l = refl
    at (x ∷ xs) (suc i) l = ap (λ (ys : List Group). x ∷ ys) (at xs i (omega arith))

whole : (xs : List Group) (i : ℕ) (g : Group) → i < length xs → g ≡ get_or xs i g → xs ≡ with_some xs i (g ∷ [])
whole [] i g l q = absurd (omega arith)
whole (x ∷ xs) zero g l q = ap (λ (y : Group). y ∷ xs) (sym q)
whole (x ∷ xs) (suc i) g l q = ap (λ (ys : List Group). x ∷ ys) (whole xs i g (omega arith) q)

take_front : (xs ys : List Group) (i : ℕ) → i ≤ length xs → (zs : List Group) → take (i + length ys) (take i xs ++ (ys ++ zs)) ≡ take i xs ++ ys
take_front xs ys zero l zs =
    let n : 0 + length ys ≡ length ys = omega arith in
    ap (λ (k : ℕ). take k (ys ++ zs)) n ∙ at ys
  where
    at : (ys : List Group) → take (length ys) (ys ++ zs) ≡ ys
    at [] = refl
    at (y ∷ ys) = ap (λ (us : List Group). y ∷ us) (at ys)
take_front [] ys (suc i) l zs = absurd (omega arith)
take_front (x ∷ xs) ys (suc i) l zs =
    let n : suc i + length ys ≡ suc (i + length ys) = omega arith in
    ap (λ (k : ℕ). take k (x ∷ (take i xs ++ (ys ++ zs)))) n
    ∙ ap (λ (us : List Group). x ∷ us) (take_front xs ys i (omega arith) zs)

-- one group
pub hold_one : (x : Group) (p : ℕ) → hold (x ∷ []) p ≡ has_lane x.lanes p
hold_one x p = by (has_lane x.lanes p)
  where
    by : (t : Bool) → (t || false) ≡ t
    by true = refl
    by false = refl

pub cell_one : (x : Group) (p : ℕ) → has_lane x.lanes p ≡ true → cell_in (x ∷ []) p ≡ says x.clock.items
cell_one x p h = ap (λ (t : Bool). cond t (says x.clock.items) no_clock) h

-- what is found at one place is the same
pub same_at : (xs : List Group) (i : ℕ) (a b : Group) → i < length xs → a ≡ get_or xs i a → b ≡ get_or xs i b → a ≡ b
same_at xs i a b l p q = p ∙ (get_or_default xs i a b l ∙ sym q)

module _ (first : List Group) (set : ℕ) (c : ℕ → ℕ) (xs : List Group) (i left same : ℕ) (k : IsBringing first set c xs i left same) (g : Group) (l : i < length xs) (q : g ≡ get_or xs i g) where
  -- none of the places that weren't met is of the group
  pub bringing_past : ((p : ℕ) → (has_lane left p && has_lane g.lanes p) ≡ false) → IsBringing first set c xs (i + 1) left same
  bringing_past f = record {
    unmet = k.unmet;
    behind = λ p h. hold_past xs i g l q p (k.behind p h) (by p (has_lane left p) refl h (f p));
    apart = k.apart;
    among = k.among;
    below = k.below;
    others = k.others;
  }
    where
      by : (p : ℕ) (b : Bool) → has_lane left p ≡ b → b ≡ true → (b && has_lane g.lanes p) ≡ false → has_lane g.lanes p ≡ false
      by p true a r s = s
      by p false a r s = never (sym (sym r))

  module _ (rest : ℕ) (inrest : (p : ℕ) → has_lane rest p ≡ (has_lane left p && not (has_lane g.lanes p))) (ys new : List Group) (is : new ≡ with_some xs i ys) where
    was : (p : ℕ) (b : Bool) → has_lane left p ≡ b → has_lane rest p ≡ true → has_lane left p ≡ true
    was p true a h = a
    was p false a h = never (sym (inrest p ∙ ap (λ (t : Bool). t && not (has_lane g.lanes p)) a) ∙ h)

    not_here : (p : ℕ) (b t : Bool) → has_lane left p ≡ b → has_lane g.lanes p ≡ t → has_lane rest p ≡ true → has_lane g.lanes p ≡ false
    not_here p b false a u h = u
    not_here p true true a u h = never (sym (inrest p ∙ (λ j. a j && not (u j))) ∙ h)
    not_here p false true a u h = never (sym (inrest p ∙ (λ j. a j && not (u j))) ∙ h)

    -- what is held in front
    front : (p : ℕ) → hold (take i xs) p ≡ false → hold ys p ≡ false → hold (take (i + length ys) new) p ≡ false
    front p a b =
        ap (λ (zs : List Group). hold zs p) (ap (λ (zs : List Group). take (i + length ys) zs) is ∙ take_front xs ys i (omega arith) (drop (suc i) xs))
        ∙ (hold_both (take i xs) ys p ∙ (λ j. a j || b j))

    -- a cell that isn't of the group, or of others as it was
    aside : (p : ℕ) → hold ys p ≡ has_lane g.lanes p → (has_lane g.lanes p ≡ true → cell_in ys p ≡ says g.clock.items) → cell_in new p ≡ cell_in xs p
    aside p a b =
        ap (λ (zs : List Group). cell_in zs p) is
        ∙ (cell_front (take i xs) (ys ++ drop (suc i) xs) (g ∷ drop (suc i) xs) p (by (has_lane g.lanes p) refl)
        ∙ sym (ap (λ (zs : List Group). cell_in zs p) (whole xs i g l q)))
      where
        in_front : (us vs : List Group) → hold us p ≡ true → cell_in (us ++ vs) p ≡ cell_in us p
        in_front [] vs e = never (sym (sym e))
        in_front (u ∷ us) vs e = at (has_lane u.lanes p) refl (λ f. in_front us vs f)
          where
            at : (b : Bool) → has_lane u.lanes p ≡ b → (hold us p ≡ true → cell_in (us ++ vs) p ≡ cell_in us p) →
                cond b (says u.clock.items) (cell_in (us ++ vs) p) ≡ cond b (says u.clock.items) (cell_in us p)
            at true r f = refl
            at false r f = f (sym (ap (λ (t : Bool). t || hold us p) r) ∙ e)

        by : (t : Bool) → has_lane g.lanes p ≡ t → cell_in (ys ++ drop (suc i) xs) p ≡ cond (has_lane g.lanes p) (says g.clock.items) (cell_in (drop (suc i) xs) p)
        by true e =
            in_front ys (drop (suc i) xs) (a ∙ e)
            ∙ (b e ∙ sym (ap (λ (t : Bool). cond t (says g.clock.items) (cell_in (drop (suc i) xs) p)) e))
        by false e =
            cell_behind ys (drop (suc i) xs) p (a ∙ e)
            ∙ sym (ap (λ (t : Bool). cond t (says g.clock.items) (cell_in (drop (suc i) xs) p)) e)

    -- what the definition says of a place that isn't both left and of the group
    still : (p : ℕ) → (has_lane left p && has_lane g.lanes p) ≡ false → has_lane rest p ≡ has_lane left p
    still p e = inrest p ∙ by (has_lane left p) (has_lane g.lanes p) e
      where
        by : (s t : Bool) → (s && t) ≡ false → (s && not t) ≡ s
        by true true r = never (sym r)
        by true false r = refl
        by false t r = refl

    expected : ℕ → ℕ → ℕ → ℕ
    expected n p = cond (has_lane set p && not (has_lane n p)) (join (cell_in first p) c) (cell_in first p)

    kept : (p : ℕ) → (has_lane left p && has_lane g.lanes p) ≡ false → has_lane same p ≡ false → cell_in new p ≡ cell_in xs p →
        cell_in new p ≡ cond (has_lane set p && not (has_lane rest p)) (join (cell_in first p) c) (cell_in first p)
    kept p e s a =
        a ∙ (k.others p s ∙ ap (λ (t : Bool). cond (has_lane set p && not t) (join (cell_in first p) c) (cell_in first p)) (sym (still p e)))

    -- a place that is both: what it had
    had : (p : ℕ) → has_lane left p ≡ true → has_lane g.lanes p ≡ true → cell_in first p ≡ says g.clock.items
    had p a b =
        sym (k.others p (k.apart p a) ∙ (λ j. cond (k.unmet p a j && not (a j)) (join (cell_in first p) c) (cell_in first p)))
        ∙ cell_of xs i g l q p (k.behind p a) b

    -- the group has just this clock now
    pub bringing_same : (now : ℕ) → ((p : ℕ) → has_lane now p ≡ (has_lane same p || (has_lane left p && has_lane g.lanes p))) → IsBelow (says g.clock.items) c →
        ((p : ℕ) → hold ys p ≡ (has_lane g.lanes p && not (has_lane left p))) → ((p : ℕ) → hold ys p ≡ true → cell_in ys p ≡ says g.clock.items) →
        IsBringing first set c new (i + length ys) rest now
    bringing_same now innow low holds cells = record {
      unmet = λ p h. k.unmet p (was p (has_lane left p) refl h);
      behind = λ p h.
          let n = not_here p (has_lane left p) (has_lane g.lanes p) refl refl h in
          front p (k.behind p (was p (has_lane left p) refl h)) (holds p ∙ ap (λ (t : Bool). t && not (has_lane left p)) n);
      apart = λ p h.
          let w = was p (has_lane left p) refl h in
          let n = not_here p (has_lane left p) (has_lane g.lanes p) refl refl h in
          innow p ∙ (λ j. k.apart p w j || (w j && n j));
      among = λ p h. among p (has_lane same p) (has_lane left p) refl refl (sym (innow p) ∙ h);
      below = λ p h. below p (has_lane same p) (has_lane left p) (has_lane g.lanes p) refl refl refl (sym (innow p) ∙ h);
      others = λ p h. others p (has_lane same p) (has_lane left p) (has_lane g.lanes p) refl refl refl (sym (innow p) ∙ h);
    }
      where
        among : (p : ℕ) (s a : Bool) → has_lane same p ≡ s → has_lane left p ≡ a → (has_lane same p || (has_lane left p && has_lane g.lanes p)) ≡ true → has_lane set p ≡ true
        among p true a e f h = k.among p e
        among p false true e f h = k.unmet p f
        among p false false e f h = never (sym (λ j. e j || (f j && has_lane g.lanes p)) ∙ h)

        below : (p : ℕ) (s a b : Bool) → has_lane same p ≡ s → has_lane left p ≡ a → has_lane g.lanes p ≡ b → (has_lane same p || (has_lane left p && has_lane g.lanes p)) ≡ true → IsBelow (cell_in first p) c
        below p true a b e f u h = k.below p e
        below p false true true e f u h = subst (λ (d : ℕ → ℕ). IsBelow d c) (sym (had p f u)) low
        below p false true false e f u h = never (sym (λ j. e j || (f j && u j)) ∙ h)
        below p false false b e f u h = never (sym (λ j. e j || (f j && has_lane g.lanes p)) ∙ h)

        others : (p : ℕ) (s a b : Bool) → has_lane same p ≡ s → has_lane left p ≡ a → has_lane g.lanes p ≡ b → (has_lane same p || (has_lane left p && has_lane g.lanes p)) ≡ false →
            cell_in new p ≡ cond (has_lane set p && not (has_lane rest p)) (join (cell_in first p) c) (cell_in first p)
        others p true a b e f u h = never (sym (sym (λ j. e j || (has_lane left p && has_lane g.lanes p)) ∙ h))
        others p false true true e f u h = never (sym (sym (λ j. e j || (f j && u j)) ∙ h))
        others p false true false e f u h =
            kept p (λ j. f j && u j) e
            (aside p (holds p ∙ ((λ j. u j && not (f j)) ∙ sym u)) (λ w. never (sym u ∙ w)))
        others p false false b e f u h =
            kept p (λ j. f j && has_lane g.lanes p) e
            (aside p (holds p ∙ ((λ j. has_lane g.lanes p && not (f j)) ∙ whole_test (has_lane g.lanes p)))
            (λ w. cells p (holds p ∙ (λ j. w j && not (f j)))))
          where
            whole_test : (t : Bool) → (t && true) ≡ t
            whole_test true = refl
            whole_test false = refl

    -- the places have a clock that was joined
    pub bringing_more : ((p : ℕ) → hold ys p ≡ has_lane g.lanes p) →
        ((p : ℕ) → has_lane g.lanes p ≡ true → cell_in ys p ≡ cond (has_lane left p) (join (says g.clock.items) c) (says g.clock.items)) →
        IsBringing first set c new (i + length ys) rest same
    bringing_more holds cells = record {
      unmet = λ p h. k.unmet p (was p (has_lane left p) refl h);
      behind = λ p h.
          front p (k.behind p (was p (has_lane left p) refl h)) (holds p ∙ not_here p (has_lane left p) (has_lane g.lanes p) refl refl h);
      apart = λ p h. k.apart p (was p (has_lane left p) refl h);
      among = k.among;
      below = k.below;
      others = λ p h. others p (has_lane left p) (has_lane g.lanes p) refl refl h;
    }
      where
        others : (p : ℕ) (a b : Bool) → has_lane left p ≡ a → has_lane g.lanes p ≡ b → has_lane same p ≡ false →
            cell_in new p ≡ cond (has_lane set p && not (has_lane rest p)) (join (cell_in first p) c) (cell_in first p)
        others p true true f u h =
            ap (λ (zs : List Group). cell_in zs p) is
            ∙ (cell_behind (take i xs) (ys ++ drop (suc i) xs) p (k.behind p f)
            ∙ (in_front ys (drop (suc i) xs) (holds p ∙ u)
            ∙ (cells p u
            ∙ ((λ j. cond (f j) (join (sym (had p f u) j) c) (says g.clock.items))
            ∙ sym (λ j. cond (k.unmet p f j && not ((inrest p ∙ (λ m. f m && not (u m))) j)) (join (cell_in first p) c) (cell_in first p))))))
          where
            in_front : (us vs : List Group) → hold us p ≡ true → cell_in (us ++ vs) p ≡ cell_in us p
            in_front [] vs e = never (sym (sym e))
            in_front (v ∷ us) vs e = at (has_lane v.lanes p) refl (λ r. in_front us vs r)
              where
                at : (b : Bool) → has_lane v.lanes p ≡ b → (hold us p ≡ true → cell_in (us ++ vs) p ≡ cell_in us p) →
                    cond b (says v.clock.items) (cell_in (us ++ vs) p) ≡ cond b (says v.clock.items) (cell_in us p)
                at true r s = refl
                at false r s = s (sym (ap (λ (t : Bool). t || hold us p) r) ∙ e)
        others p true false f u h =
            kept p (λ j. f j && u j) h (aside p (holds p) (λ w. never (sym u ∙ w)))
        others p false b f u h =
            kept p (λ j. f j && has_lane g.lanes p) h
            (aside p (holds p) (λ w. cells p w ∙ ap (λ (t : Bool). cond t (join (says g.clock.items) c) (says g.clock.items)) f))

-- the four ways on
module _ (first : List Group) (set : ℕ) (c : ℕ → ℕ) (xs : List Group) (i left same : ℕ) (g : Group) (l : i < length xs) (q : g ≡ get_or xs i g) (rest : ℕ) (inrest : (p : ℕ) → has_lane rest p ≡ (has_lane left p && not (has_lane g.lanes p))) where
  module _ (now : ℕ) (innow : (p : ℕ) → has_lane now p ≡ (has_lane same p || (has_lane left p && has_lane g.lanes p))) (low : IsBelow (says g.clock.items) c) (others : ℕ) (inothers : (p : ℕ) → has_lane others p ≡ (has_lane g.lanes p && not (has_lane left p))) (new : List Group) where
    pub gone_group : others ≡ 0 → new ≡ take i xs ++ drop (suc i) xs → IsBringing first set c xs i left same → IsBringing first set c new i rest now
    gone_group e is k =
        let n : i + 0 ≡ i = omega arith in
        subst (λ (m : ℕ). IsBringing first set c new m rest now) n
        (bringing_same first set c xs i left same k g l q rest inrest [] new is now innow low
        (λ p. sym (in_nothing p) ∙ (ap (λ (m : ℕ). has_lane m p) (sym e) ∙ inothers p)) (λ p h. never h))

    pub narrow_group : (x old : Group) → old ≡ get_or xs i old → x.lanes ≡ others → x.clock ≡ old.clock → new ≡ set_at xs i x → IsBringing first set c xs i left same → IsBringing first set c new (i + 1) rest now
    narrow_group x old o e f is k =
        bringing_same first set c xs i left same k g l q rest inrest (x ∷ []) new (is ∙ set_some xs i x l) now innow low
        (λ p. hold_one x p ∙ (ap (λ (m : ℕ). has_lane m p) e ∙ inothers p))
        (λ p h. cell_one x p (sym (hold_one x p) ∙ h) ∙ (ap (λ (v : Vec Block Global). says v.items) f ∙ ap (λ (y : Group). says y.clock.items) (same_at xs i old g l o q)))

  -- a test and what is chosen by it
  chosen : (p : ℕ) (d : ℕ → ℕ) (t : Bool) → has_lane left p ≡ t → d ≡ cond t (join (says g.clock.items) c) (says g.clock.items) → d ≡ cond (has_lane left p) (join (says g.clock.items) c) (says g.clock.items)
  chosen p d t e f = f ∙ ap (λ (b : Bool). cond b (join (says g.clock.items) c) (says g.clock.items)) (sym e)

  module _ (x old : Group) (o : old ≡ get_or xs i old) (clock : says x.clock.items ≡ join (says old.clock.items) c) (new : List Group) where
    joined : says x.clock.items ≡ join (says g.clock.items) c
    joined = clock ∙ ap (λ (y : Group). join (says y.clock.items) c) (same_at xs i old g l o q)

    pub grown_group : (others : ℕ) → ((p : ℕ) → has_lane others p ≡ (has_lane g.lanes p && not (has_lane left p))) → others ≡ 0 → x.lanes ≡ old.lanes → new ≡ set_at xs i x → IsBringing first set c xs i left same → IsBringing first set c new (i + 1) rest same
    grown_group others inothers none e is k =
        bringing_more first set c xs i left same k g l q rest inrest (x ∷ []) new (is ∙ set_some xs i x l)
        (λ p. hold_one x p ∙ same_lanes p)
        (λ p h. chosen p (cell_in (x ∷ []) p) true (all p (has_lane left p) refl h) (cell_one x p (same_lanes p ∙ h) ∙ joined))
      where
        same_lanes : (p : ℕ) → has_lane x.lanes p ≡ has_lane g.lanes p
        same_lanes p = ap (λ (m : ℕ). has_lane m p) e ∙ ap (λ (y : Group). has_lane y.lanes p) (same_at xs i old g l o q)

        all : (p : ℕ) (t : Bool) → has_lane left p ≡ t → has_lane g.lanes p ≡ true → has_lane left p ≡ true
        all p true a h = a
        all p false a h =
            never (sym (in_nothing p) ∙ (ap (λ (m : ℕ). has_lane m p) (sym none) ∙ (inothers p ∙ (λ j. h j && not (a j)))))

    pub cut_group : (hit others : ℕ) → ((p : ℕ) → has_lane hit p ≡ (has_lane left p && has_lane g.lanes p)) → ((p : ℕ) → has_lane others p ≡ (has_lane g.lanes p && not (has_lane left p))) →
        x.lanes ≡ hit → (y : Group) → y.lanes ≡ others → says y.clock.items ≡ says old.clock.items → new ≡ take (i + 1) (set_at xs i x) ++ y ∷ drop (i + 1) (set_at xs i x) →
        IsBringing first set c xs i left same → IsBringing first set c new (i + 2) rest same
    cut_group hit others inhit inothers e y f same_clock is k =
        bringing_more first set c xs i left same k g l q rest inrest (x ∷ y ∷ []) new (is ∙ insert_some xs i x y l)
        (λ p. (λ j. in_x p j || (hold_one y p ∙ in_y p) j) ∙ either (has_lane left p) (has_lane g.lanes p))
        (λ p h. chosen_of p (has_lane left p) refl h)
      where
        in_x : (p : ℕ) → has_lane x.lanes p ≡ (has_lane left p && has_lane g.lanes p)
        in_x p = ap (λ (m : ℕ). has_lane m p) e ∙ inhit p

        in_y : (p : ℕ) → has_lane y.lanes p ≡ (has_lane g.lanes p && not (has_lane left p))
        in_y p = ap (λ (m : ℕ). has_lane m p) f ∙ inothers p

        either : (s t : Bool) → ((s && t) || (t && not s)) ≡ t
        either true true = refl
        either true false = refl
        either false true = refl
        either false false = refl

        chosen_of : (p : ℕ) (t : Bool) → has_lane left p ≡ t → has_lane g.lanes p ≡ true → cell_in (x ∷ y ∷ []) p ≡ cond (has_lane left p) (join (says g.clock.items) c) (says g.clock.items)
        chosen_of p true a h =
            chosen p (cell_in (x ∷ y ∷ []) p) true a
            (ap (λ (t : Bool). cond t (says x.clock.items) (cell_in (y ∷ []) p)) (in_x p ∙ (λ j. a j && h j)) ∙ joined)
        chosen_of p false a h =
            chosen p (cell_in (x ∷ y ∷ []) p) false a
            (ap (λ (t : Bool). cond t (says x.clock.items) (cell_in (y ∷ []) p)) (in_x p ∙ (λ j. a j && h j))
            ∙ (cell_one y p (in_y p ∙ (λ j. h j && not (a j)))
            ∙ (same_clock ∙ ap (λ (z : Group). says z.clock.items) (same_at xs i old g l o q))))

-- the beginning
pub bringing_none : (xs : List Group) (set : ℕ) (c : ℕ → ℕ) → IsBringing xs set c xs 0 set 0
bringing_none xs set c = record {
  unmet = λ p h. h;
  behind = λ p h. refl;
  apart = λ p h. in_nothing p;
  among = λ p h. never (sym (in_nothing p) ∙ h);
  below = λ p h. never (sym (in_nothing p) ∙ h);
  others = λ p h. sym (by p (has_lane set p));
}
  where
    by : (p : ℕ) (t : Bool) → cond (t && not t) (join (cell_in xs p) c) (cell_in xs p) ≡ cell_in xs p
    by p true = refl
    by p false = refl

-- the end
module _ (first : List Group) (set : ℕ) (c : ℕ → ℕ) (xs : List Group) (i left same : ℕ) (l : length xs ≤ i) (k : IsBringing first set c xs i left same) where
  empty : (p : ℕ) → has_lane left p ≡ true → join (cell_in first p) c ≡ c
  empty p h =
      ap (λ (d : ℕ → ℕ). join d c)
      (sym (k.others p (k.apart p h) ∙ (λ j. cond (k.unmet p h j && not (h j)) (join (cell_in first p) c) (cell_in first p)))
      ∙ cell_none xs p (subst (λ (ys : List Group). hold ys p ≡ false) (take_all i xs l) (k.behind p h)))
      ∙ nothing_join c

  rest_of : (p : ℕ) (a s : Bool) → has_lane left p ≡ a → has_lane same p ≡ s → (has_lane left p || has_lane same p) ≡ false → cell_in xs p ≡ brought_in (cell_in first) set c p
  rest_of p true s e f h = never (sym (sym (λ j. e j || has_lane same p) ∙ h))
  rest_of p false true e f h = never (sym (sym (λ j. e j || f j) ∙ h))
  rest_of p false false e f h =
      k.others p f
      ∙ ((λ j. cond (has_lane set p && not (e j)) (join (cell_in first p) c) (cell_in first p)) ∙ by (has_lane set p))
    where
      by : (t : Bool) → cond (t && true) (join (cell_in first p) c) (cell_in first p) ≡ cond t (join (cell_in first p) c) (cell_in first p)
      by true = refl
      by false = refl

  both_of : (p : ℕ) (a s : Bool) → has_lane left p ≡ a → has_lane same p ≡ s → (has_lane left p || has_lane same p) ≡ true → c ≡ brought_in (cell_in first) set c p
  both_of p true s e f h =
      sym (ap (λ (t : Bool). cond t (join (cell_in first p) c) (cell_in first p)) (k.unmet p e) ∙ empty p e)
  both_of p false true e f h =
      sym (ap (λ (t : Bool). cond t (join (cell_in first p) c) (cell_in first p)) (k.among p f) ∙ join_below (cell_in first p) c (k.below p f))
  both_of p false false e f h = never (sym (λ j. e j || f j) ∙ h)

  pub brought_all : (lanes : ℕ) (x : Group) → x.lanes ≡ lanes → says x.clock.items ≡ c → ((p : ℕ) → has_lane lanes p ≡ (has_lane left p || has_lane same p)) → (p : ℕ) → cell_in (x ∷ xs) p ≡ brought_in (cell_in first) set c p
  brought_all lanes x e f inlanes p = by (has_lane lanes p) refl
    where
      by : (t : Bool) → has_lane lanes p ≡ t → cell_in (x ∷ xs) p ≡ brought_in (cell_in first) set c p
      by true h =
          (λ j. cond ((ap (λ (n : ℕ). has_lane n p) e ∙ h) j) (f j) (cell_in xs p))
          ∙ both_of p (has_lane left p) (has_lane same p) refl refl (sym (inlanes p) ∙ h)
      by false h =
          (λ j. cond ((ap (λ (n : ℕ). has_lane n p) e ∙ h) j) (says x.clock.items) (cell_in xs p))
          ∙ rest_of p (has_lane left p) (has_lane same p) refl refl (sym (inlanes p) ∙ h)

  pub brought_none : (lanes : ℕ) → lanes ≡ 0 → ((p : ℕ) → has_lane lanes p ≡ (has_lane left p || has_lane same p)) → (p : ℕ) → cell_in xs p ≡ brought_in (cell_in first) set c p
  brought_none lanes e inlanes p =
      rest_of p (has_lane left p) (has_lane same p) refl refl (sym (inlanes p) ∙ (ap (λ (n : ℕ). has_lane n p) e ∙ in_nothing p))
