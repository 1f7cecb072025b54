-- The steps of a gauge keep its rule.
use Rattle.std.proofs.Common.{◌≡◌, ◌≢◌, ◌≤◌, ◌<◌, ◌+◌, ◌==◌, ℕ, List, [], ◌∷◌, ◌++◌, Option, Some, None, set, get_or, refl, ap, sym, ◌∙◌, subst, arith, inl, inr, ⊎_elim, length-set, get_or-set_same, le_refl, le_trans}
use mathlib.Core.Option as maybe
use mathlib.Core.Option.{some, none}
use lib.ListN.{get_elem?}
use prog.Atomic.{either}
use Rattle.vq_ground.proofs.Elements.{at_end, at_one}
use Rattle.atomic_table.specs.Table.{Me, step, keeps, opening, Allows, Enters, Splits}
use Rattle.atomic_table.proofs.Lists.{at_set, exchanged}
use Rattle.vq_live_lock.specs.declared.bell.Heard.{Heard}
use Rattle.vq_live_lock.specs.declared.rule.Known.{Known}
use Rattle.vq_live_lock.specs.Gauges.{IsAbove, IsNoted, Covers, IsRungOrKept, IsRising, reads, pen_at, note_of, rings_of, looked, raised, cleared, left}

abbrev floor_of : Known → ℕ
floor_of v = v.floor

abbrev role_of : Known → ℕ
role_of v = v.role

-- a note of a view stays rung for or kept, whatever the pen comes to know later
later_kept : (l m : Option ℕ) (value : ℕ) → ((x : ℕ) → IsNoted l x → value ≤ x) → Covers l m → Covers (Some value) m
later_kept l None value lower c = tt
later_kept l (Some x) value lower c = lower x c

still_rung : (v w u : Known) → w.rings ≤ u.rings → (Covers w.least v.least → Covers u.least v.least) →
    IsRungOrKept v w → IsRungOrKept v u
still_rung v w u more covers (inl h) = inl (omega arith)
still_rung v w u more covers (inr (h, c)) = inr (omega arith, covers c)

now_rung : (v w u : Known) → w.rings < u.rings → IsRungOrKept v w → IsRungOrKept v u
now_rung v w u more (inl h) = inl (omega arith)
now_rung v w u more (inr (h, c)) = inl (omega arith)

module _ {S : Type 0} where
  pub opens : (n : ℕ) → IsRising {S = S} n (opening (n ∷ []) [] (pen_at n None 0))
  opens n =
      let is : (i : ℕ) (v : Known) → get_elem? (pen_at n None 0 ∷ []) i ≡ some v → pen_at n None 0 ≡ v = λ i v e. (at_one (pen_at n None 0) v i e).1 in
      record {
        wide = refl;
        from = le_refl n;
        below = λ i v e. subst (λ (k : ℕ). k ≤ n) (ap floor_of (is i v e)) (le_refl n);
        written = λ i v e w. sym (ap floor_of (is i v e));
        one = λ i k v w e e' g g'. (at_one (pen_at n None 0) v i e).0 ∙ sym (at_one (pen_at n None 0) w k e').0;
        above = λ i v e g. subst (λ (u : Known). IsAbove u.least n) (is i v e) tt;
        rung = λ i k v w e e' g g'. absurd (let t = ap role_of (is i v e) in omega arith);
      }

  -- a new seat that only reads
  joined : (h : ℕ) (n : ℕ) (ws : List ℕ) (hs : List (maybe.Option S)) (vs : List Known) → get_or ws 0 0 ≡ n →
      IsRising h (record { words = ws; homes = hs; views = vs }) →
      IsRising h (record { words = ws; homes = hs; views = vs ++ reads n ∷ [] })
  joined h n ws hs vs is r =
      let old : (i : ℕ) (v : Known) → get_elem? (vs ++ reads n ∷ []) i ≡ some v → 0 < v.role → get_elem? vs i ≡ some v =
      λ i v e g. ⊎_elim (λ a. a) (λ b. absurd (let t = ap role_of b.1 in omega arith)) (at_end vs (reads n) v i e) in
      record {
        wide = r.wide;
        from = r.from;
        below = λ i v e. ⊎_elim (λ a. r.below i v a) (λ b. subst (λ (k : ℕ). k ≤ get_or ws 0 0) (ap floor_of b.1) (subst (λ (k : ℕ). k ≤ get_or ws 0 0) is (le_refl (get_or ws 0 0)))) (at_end vs (reads n) v i e);
        written = λ i v e g. r.written i v (old i v e (omega arith)) g;
        one = λ i k v u e e' g g'. r.one i k v u (old i v e (omega arith)) (old k u e' (omega arith)) g g';
        above = λ i v e g. r.above i v (old i v e (omega arith)) g;
        rung = λ i k v u e e' g g'. r.rung i k v u (old i v e (omega arith)) (old k u e' (omega arith)) g g';
      }

  pub enters : (h slots : ℕ) → Enters {S = S} (IsRising h) slots 0 (λ n w. looked {S = S} (step slots 0 0 0 none) (pen_at h None 0, []) n (w, []))
  enters h slots s r deep small =
      let n : ℕ = get_or s.words 0 0 in
      (reads n, joined h n s.words s.homes s.views refl r, (r.from, refl))

  pub looks : (h slots id v : ℕ) (m : Me S Known) → m ≡ (reads v, []) →
      Allows (IsRising h) slots id m 0 (λ n. n) (looked (step slots 0 0 0 none) m)
  looks h slots id v m is = subst (λ (z : Me S Known). Allows (IsRising h) slots id z 0 (λ n. n) (looked (step slots 0 0 0 none) z)) (sym is) (λ s r deep at small.
      let n : ℕ = get_or s.words 0 0 in
      let w : Known = reads n in
      let now : get_or (set s.words 0 n) 0 0 ≡ n = get_or-set_same s.words 0 n 0 (let w = r.wide in omega arith) in
      let old : (i : ℕ) (v : Known) → get_elem? (set s.views id w) i ≡ some v → 0 < v.role → get_elem? s.views i ≡ some v =
      λ i v e g. ⊎_elim (λ (t : (i ≡ id) × (w ≡ v)). absurd (let q = ap role_of t.1 in omega arith)) (λ (t : (i ≢ id) × (get_elem? s.views i ≡ some v)). t.1) (at_set s.views id i w v e) in
      let below : (i : ℕ) (v : Known) → get_elem? (set s.views id w) i ≡ some v → v.floor ≤ n =
      λ i v e. ⊎_elim (λ (t : (i ≡ id) × (w ≡ v)). subst (λ (k : ℕ). k ≤ n) (ap floor_of t.1) (le_refl n)) (λ (t : (i ≢ id) × (get_elem? s.views i ≡ some v)). r.below i v t.1) (at_set s.views id i w v e) in (
        w,
        keeps,
        tt,
        record {
          wide = length-set s.words 0 n ∙ r.wide;
          from = subst (λ (k : ℕ). h ≤ k) (sym now) r.from;
          below = λ i v e. subst (λ (k : ℕ). v.floor ≤ k) (sym now) (below i v e);
          written = λ i v e g. r.written i v (old i v e (omega arith)) g ∙ sym now;
          one = λ i k v u e e' g g'. r.one i k v u (old i v e (omega arith)) (old k u e' (omega arith)) g g';
          above = λ i v e g. subst (λ (k : ℕ). IsAbove v.least k) (sym now) (r.above i v (old i v e (omega arith)) g);
          rung = λ i k v u e e' g g'. r.rung i k v u (old i v e (omega arith)) (old k u e' (omega arith)) g g';
        },
        (r.below id (reads v) at, refl),
      ))

  -- the pen writes a value, and knows something new
  wrote : (h id v r0 new r1 : ℕ) (l0 l1 : Option ℕ) → v ≤ new → IsAbove l1 new →
      ((x : Known) → IsRungOrKept x (pen_at v l0 r0) → IsRungOrKept x (pen_at new l1 r1)) →
      (ws : List ℕ) (hs : List (maybe.Option S)) (vs : List Known) → IsRising h (record { words = ws; homes = hs; views = vs }) →
      get_elem? vs id ≡ some (pen_at v l0 r0) →
      IsRising h (record { words = set ws 0 new; homes = hs; views = set vs id (pen_at new l1 r1) })
  wrote h id v r0 new r1 l0 l1 up higher keep ws hs vs r at =
      let n : ℕ = get_or ws 0 0 in
      let w : Known = pen_at new l1 r1 in
      let now : get_or (set ws 0 new) 0 0 ≡ new = get_or-set_same ws 0 new 0 (let w = r.wide in omega arith) in
      let rose : n ≤ new = subst (λ (k : ℕ). k ≤ new) (r.written id (pen_at v l0 r0) at refl) up in
      let mine : (i : ℕ) (u : Known) → get_elem? (set vs id w) i ≡ some u → u.role ≡ 1 → (i ≡ id) × (w ≡ u) =
      λ i u e g. ⊎_elim (λ (t : (i ≡ id) × (w ≡ u)). t) (λ (t : (i ≢ id) × (get_elem? vs i ≡ some u)). absurd (t.0 (r.one i id u (pen_at v l0 r0) t.1 at g refl))) (at_set vs id i w u e) in
      let note : (i : ℕ) (u : Known) → get_elem? (set vs id w) i ≡ some u → u.role ≡ 2 → get_elem? vs i ≡ some u =
      λ i u e g. ⊎_elim (λ (t : (i ≡ id) × (w ≡ u)). absurd (let q = ap role_of t.1 in omega arith)) (λ (t : (i ≢ id) × (get_elem? vs i ≡ some u)). t.1) (at_set vs id i w u e) in
      let below : (i : ℕ) (u : Known) → get_elem? (set vs id w) i ≡ some u → u.floor ≤ new =
      λ i u e. ⊎_elim (λ (t : (i ≡ id) × (w ≡ u)). subst (λ (k : ℕ). k ≤ new) (ap floor_of t.1) (le_refl new)) (λ (t : (i ≢ id) × (get_elem? vs i ≡ some u)). le_trans (r.below i u t.1) rose) (at_set vs id i w u e) in
      record {
        wide = length-set ws 0 new ∙ r.wide;
        from = subst (λ (k : ℕ). h ≤ k) (sym now) (le_trans r.from rose);
        below = λ i u e. subst (λ (k : ℕ). u.floor ≤ k) (sym now) (below i u e);
        written = λ i u e g. sym (ap floor_of (mine i u e g).1) ∙ sym now;
        one = λ i k u x e e' g g'. (mine i u e g).0 ∙ sym (mine k x e' g').0;
        above = λ i u e g. subst (λ (k : ℕ). IsAbove u.least k) (sym now) (subst (λ (x : Known). IsAbove x.least new) (mine i u e g).1 higher);
        rung = λ i k u x e e' g g'. subst (λ (y : Known). IsRungOrKept u y) (mine k x e' g').1
            (keep u (r.rung i id u (pen_at v l0 r0) (note i u e g) at g refl));
      }

  writes : (h slots id v r0 new r1 : ℕ) (l0 l1 : Option ℕ) → v ≤ new → IsAbove l1 new →
      ((x : Known) → IsRungOrKept x (pen_at v l0 r0) → IsRungOrKept x (pen_at new l1 r1)) →
      Allows {S = S} (IsRising h) slots id (pen_at v l0 r0, []) 0 (λ _. new) (λ n m. m ≡ (pen_at new l1 r1, []))
  writes h slots id v r0 new r1 l0 l1 up higher keep = λ s r deep at small.
      (pen_at new l1 r1, keeps, tt, wrote h id v r0 new r1 l0 l1 up higher keep s.words s.homes s.views r at, refl)

  pub raises : (h slots id v new r0 : ℕ) (l0 : Option ℕ) (m : Me S Known) → m ≡ (pen_at v l0 r0, []) → v ≤ new → IsAbove l0 new →
      Allows (IsRising h) slots id m 0 (λ _. new) (λ _. raised (step slots 0 new 0 none) m new)
  raises h slots id v new r0 l0 m is up higher = subst (λ (z : Me S Known). Allows (IsRising h) slots id z 0 (λ _. new) (λ _. raised (step slots 0 new 0 none) z new)) (sym is)
      (writes h slots id v r0 new r0 l0 l0 up higher (λ x k. still_rung x (pen_at v l0 r0) (pen_at new l0 r0) (le_refl r0) (λ c. c) k))

  pub clears : (h slots id v new r0 : ℕ) (l0 : Option ℕ) (m : Me S Known) → m ≡ (pen_at v l0 r0, []) → v ≤ new →
      Allows (IsRising h) slots id m 0 (λ _. new) (λ _. cleared (step slots 0 new 0 none) m new)
  clears h slots id v new r0 l0 m is up = subst (λ (z : Me S Known). Allows (IsRising h) slots id z 0 (λ _. new) (λ _. cleared (step slots 0 new 0 none) z new)) (sym is)
      (writes h slots id v r0 new (r0 + 1) l0 None up tt (λ x k. now_rung x (pen_at v l0 r0) (pen_at new None (r0 + 1)) (omega arith) k))

  -- a seat's view is cut in two: it stays what it was, and the new one is no pen
  cut : (h id : ℕ) (w u : Known) → u.floor ≡ w.floor → (u.role ≡ 1 → ⊥) → (u.role ≡ 2 → (w.role ≡ 1) × IsRungOrKept u w) →
      Splits (IsRising {S = S} h) id w w u
  cut h id w u floor no_pen note s r at =
      let n : ℕ = get_or s.words 0 0 in
      let same : (i : ℕ) (x : Known) → get_elem? (set s.views id w) i ≡ some x → get_elem? s.views i ≡ some x =
      λ i x e. ⊎_elim (λ (t : (i ≡ id) × (w ≡ x)). subst (λ (k : ℕ). get_elem? s.views k ≡ some x) (sym t.0) (at ∙ ap some t.1)) (λ (t : (i ≢ id) × (get_elem? s.views i ≡ some x)). t.1) (at_set s.views id i w x e) in
      let pen : (i : ℕ) (x : Known) → get_elem? (set s.views id w ++ u ∷ []) i ≡ some x → x.role ≡ 1 → get_elem? s.views i ≡ some x =
      λ i x e g. ⊎_elim (λ a. same i x a) (λ b. absurd (no_pen (ap role_of b.1 ∙ g))) (at_end (set s.views id w) u x i e) in
      record {
        wide = r.wide;
        from = r.from;
        below = λ i x e. ⊎_elim (λ a. r.below i x (same i x a)) (λ b. subst (λ (k : ℕ). k ≤ n) (sym floor ∙ ap floor_of b.1) (r.below id w at)) (at_end (set s.views id w) u x i e);
        written = λ i x e g. r.written i x (pen i x e g) g;
        one = λ i k x y e e' g g'. r.one i k x y (pen i x e g) (pen k y e' g') g g';
        above = λ i x e g. r.above i x (pen i x e g) g;
        rung = λ i k x y e e' g g'. ⊎_elim (λ a. r.rung i k x y (same i x a) (pen k y e' g') g g')
            (λ b.
            let is = note (ap role_of b.1 ∙ g) in
            let there : k ≡ id = r.one k id y w (pen k y e' g') at g' is.0 in
            let y_is : w ≡ y = some_same w y (sym at ∙ subst (λ (j : ℕ). get_elem? s.views j ≡ some y) there (pen k y e' g')) in
            subst (λ (z : Known). IsRungOrKept z y) b.1 (subst (λ (z : Known). IsRungOrKept u z) y_is is.1))
            (at_end (set s.views id w) u x i e);
      }
    where
      some_same : (a b : Known) → some a ≡ some b → a ≡ b
      some_same a b e = maybe.some-injective a b e

  pub shares : (h id v r0 : ℕ) (l0 : Option ℕ) (w : Known) → w ≡ pen_at v l0 r0 → Splits (IsRising {S = S} h) id w w (reads w.floor)
  shares h id v r0 l0 w is = cut h id w (reads w.floor) refl (λ g. omega arith) (λ g. absurd (omega arith))

  pub hands_out : (h id v value r0 : ℕ) (w : Known) → w ≡ pen_at v (Some value) r0 → Splits (IsRising {S = S} h) id w w (note_of w)
  hands_out h id v value r0 w is = cut h id w (note_of w) refl (λ g. omega arith) (λ g. (
    ap role_of is,
    subst (λ (x : Known). IsRungOrKept (note_of x) x) (sym is) (inr (le_refl r0, le_refl value)),
  ))

-- a note is left by a step that writes what it finds
pub leaves : (h slots id v value r0 : ℕ) (l0 : Option ℕ) (said : Heard) (m : Me Heard Known) → m ≡ (pen_at v l0 r0, []) →
    v < value → r0 ≤ rings_of said → ((x : ℕ) → IsNoted l0 x → value ≤ x) →
    Allows (IsRising h) slots id m 0 (λ n. either (n == value) value n) (left (step slots 0 value value (some said)) m)
leaves h slots id v value r0 l0 said m is higher more lower = subst (λ (z : Me Heard Known). Allows (IsRising h) slots id z 0 (λ n. either (n == value) value n) (left (step slots 0 value value (some said)) z)) (sym is) (λ s r deep at small.
    let n : ℕ = get_or s.words 0 0 in
    let found : either (n == value) value n ≡ v = exchanged n value value (λ k. k ≡ v) (λ e. absurd (let q = r.written id (pen_at v l0 r0) at refl in omega arith)) (λ ne. sym (r.written id (pen_at v l0 r0) at refl)) in
    let knows : Known = pen_at v (Some value) (rings_of said) in
    let noted : IsRising h (record { words = set s.words 0 v; homes = s.homes; views = set s.views id knows }) = wrote h id v r0 v (rings_of said) l0 (Some value) (le_refl v) higher
    (λ x k. still_rung x (pen_at v l0 r0) knows more (λ c. later_kept l0 x.least value lower c) k) s.words s.homes s.views r at in (
      knows,
      keeps,
      tt,
      subst (λ (k : ℕ). IsRising h (record { words = set s.words 0 k; homes = s.homes; views = set s.views id knows })) (sym found) noted,
      refl,
    ))
