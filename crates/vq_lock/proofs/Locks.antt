-- The steps of a lock keep its rule.
use Rattle.std.proofs.Common.{Bool, ne_eqb, ◌≡◌, ◌≢◌, ◌<◌, ◌==◌, ℕ, List, [], ◌∷◌, ◌++◌, length, set, get_or, refl, ap, sym, ◌∙◌, subst, arith, ⊎_elim, length-set, get_or-set_same}
use mathlib.Core.Option.{some, none, some-injective}
use mathlib.Core.Option as maybe
use mathlib.Core.Logic.{dite}
use Rattle.vq_ground.proofs.Elements.{at_end, at_one}
use native.Mathlib.Decide.{ℕ_discrete}
use prog.Atomic.{either}
use lib.ListN.{get_elem?}
use Rattle.atomic_table.specs.Table.{Me, step, keeps, takes, gives, opening, Allows, Arrives, Enters, Final}
use Rattle.atomic_table.proofs.Lists.{at_set}
use Rattle.vq_lock.specs.declared.parts.Turn.{Turn}
use Rattle.vq_lock.specs.Locks.{turn, IsLocked, taken, given, sat}

one_home : {T : Type 0} (hs : List (maybe.Option T)) (y : maybe.Option T) → length hs ≡ 1 → set hs 0 y ≡ y ∷ []
one_home [] y h = absurd (omega arith)
one_home (x ∷ []) y h = refl
one_home (x ∷ z ∷ zs) y h = absurd (omega arith)

zero_word : (l : List ℕ) → get_elem? l 0 ≡ some 0 → get_or l 0 0 ≡ 0
zero_word [] e = refl
zero_word (x ∷ xs) e = some-injective x 0 e

either_free : (n : ℕ) → n ≡ 0 → either (n == 0) 1 n ≡ 1
either_free n e = subst (λ (k : ℕ). either (k == 0) 1 k ≡ 1) (sym e) refl

either_taken : (n : ℕ) → n ≢ 0 → either (n == 0) 1 n ≡ n
either_taken n ne = ap (λ (b : Bool). either b 1 n) (ne_eqb n 0 ne)

module _ {K T : Type 0} (fits : K → T → Type 0) where
  pub opens : (h : K) (x : T) → fits h x → IsLocked fits h (opening (0 ∷ []) (x ∷ []) (turn h 0))
  opens h x has = record {
    wide = refl;
    free = λ z. (x, refl, has);
    held = λ i v e g. absurd (let t = ap (λ (u : Turn K). u.holds) (at_one (turn h 0) v i e).1 in omega arith);
    one = λ i k v w e e' g g'. (at_one (turn h 0) v i e).0 ∙ sym (at_one (turn h 0) w k e').0;
  }

  pub arrives : (h : K) (slots a : ℕ) → 0 < a → Arrives (IsLocked fits h) slots 0 (λ _. a) (taken fits (step slots 0 a 0 none) (turn h 0, []))
  arrives h slots a some_taken s r deep small =
      let n : ℕ = get_or s.words 0 0 in
      let now : get_or (set s.words 0 a) 0 0 ≡ a = get_or-set_same s.words 0 a 0 (let w = r.wide in omega arith) in
      dite (ℕ_discrete n 0)
      (λ is.
      let t = r.free is in
      let w : Turn K = turn h 1 in (
        w,
        takes 0 t.0,
        subst (λ (hs : List (maybe.Option T)). get_elem? hs 0 ≡ some (some t.0)) (sym t.1) refl,
        record {
          wide = length-set s.words 0 a ∙ r.wide;
          free = λ z. absurd (omega arith);
          held = λ i v e g z. omega arith;
          one = λ i k v u e e' g g'.
              let last : (i : ℕ) (v : Turn K) → get_elem? (s.views ++ w ∷ []) i ≡ some v → v.holds ≡ 1 → i ≡ length s.views = λ i v e g. ⊎_elim (λ old. absurd (r.held i v old g is)) (λ new. new.0) (at_end s.views w v i e) in
              last i v e g ∙ sym (last k u e' g');
        },
        ((λ _. (t.0, refl, t.2)), λ ne. absurd (ne is)),
      ))
      (λ ne.
      let w : Turn K = turn h 0 in (
        w,
        keeps,
        tt,
        record {
          wide = length-set s.words 0 a ∙ r.wide;
          free = λ z. absurd (omega arith);
          held = λ i v e g z. omega arith;
          one = λ i k v u e e' g g'.
              let old : (i : ℕ) (v : Turn K) → get_elem? (s.views ++ w ∷ []) i ≡ some v → v.holds ≡ 1 → get_elem? s.views i ≡ some v = λ i v e g. ⊎_elim (λ a. a) (λ b. absurd (let t = ap (λ (u : Turn K). u.holds) b.1 in omega arith)) (at_end s.views w v i e) in
              r.one i k v u (old i v e g) (old k u e' g') g g';
        },
        ((λ is. absurd (ne is)), λ _. refl),
      ))

  pub sits : (h : K) (slots : ℕ) → Enters (IsLocked fits h) slots 0 (λ n w. sat {K = K} {T = T} (step slots 0 0 0 none) (turn h 0, []) n (w, []))
  sits h slots s r deep small =
      let w : Turn K = turn h 0 in
      let old : (i : ℕ) (v : Turn K) → get_elem? (s.views ++ w ∷ []) i ≡ some v → v.holds ≡ 1 → get_elem? s.views i ≡ some v = λ i v e g. ⊎_elim (λ a. a) (λ b. absurd (let t = ap (λ (u : Turn K). u.holds) b.1 in omega arith)) (at_end s.views w v i e) in (
        w,
        record {
          wide = r.wide;
          free = r.free;
          held = λ i v e g. r.held i v (old i v e g) g;
          one = λ i k v u e e' g g'. r.one i k v u (old i v e g) (old k u e' g') g g';
        },
        refl,
      )

  pub takes_if : (h : K) (slots id : ℕ) (m : Me T (Turn K)) → m ≡ (turn h 0, []) → Allows (IsLocked fits h) slots id m 0 (λ n. either (n == 0) 1 n) (taken fits (step slots 0 0 1 none) m)
  takes_if h slots id m is = subst (λ (z : Me T (Turn K)). Allows (IsLocked fits h) slots id z 0 (λ n. either (n == 0) 1 n) (taken fits (step slots 0 0 1 none) z)) (sym is) (λ s r deep at small.
      let n : ℕ = get_or s.words 0 0 in
      let a : ℕ = either (n == 0) 1 n in
      let now : get_or (set s.words 0 a) 0 0 ≡ a = get_or-set_same s.words 0 a 0 (let w = r.wide in omega arith) in
      dite (ℕ_discrete n 0)
      (λ is.
      let t = r.free is in
      let w : Turn K = turn h 1 in
      let one : a ≡ 1 = either_free n is in
      let mine : (i : ℕ) (v : Turn K) → get_elem? (set s.views id w) i ≡ some v → v.holds ≡ 1 → i ≡ id = λ i v e g. ⊎_elim (λ (t : (i ≡ id) × (w ≡ v)). t.0) (λ (t : (i ≢ id) × (get_elem? s.views i ≡ some v)). absurd (r.held i v t.1 g is)) (at_set s.views id i w v e) in (
        w,
        takes 0 t.0,
        subst (λ (hs : List (maybe.Option T)). get_elem? hs 0 ≡ some (some t.0)) (sym t.1) refl,
        record {
          wide = length-set s.words 0 a ∙ r.wide;
          free = λ z. absurd (omega arith);
          held = λ i v e g z. omega arith;
          one = λ i k v u e e' g g'. mine i v e g ∙ sym (mine k u e' g');
        },
        ((λ _. (t.0, refl, t.2)), λ ne. absurd (ne is)),
      ))
      (λ ne.
      let w : Turn K = turn h 0 in
      let same : a ≡ n = either_taken n ne in
      let old : (i : ℕ) (v : Turn K) → get_elem? (set s.views id w) i ≡ some v → v.holds ≡ 1 → get_elem? s.views i ≡ some v = λ i v e g. ⊎_elim (λ (t : (i ≡ id) × (w ≡ v)). absurd (let q = ap (λ (u : Turn K). u.holds) t.1 in omega arith)) (λ (t : (i ≢ id) × (get_elem? s.views i ≡ some v)). t.1) (at_set s.views id i w v e) in (
        w,
        keeps,
        tt,
        record {
          wide = length-set s.words 0 a ∙ r.wide;
          free = λ z. absurd (ne (sym same ∙ (sym now ∙ z)));
          held = λ i v e g z. ne (sym same ∙ (sym now ∙ z));
          one = λ i k v u e e' g g'. r.one i k v u (old i v e g) (old k u e' g') g g';
        },
        ((λ is. absurd (ne is)), λ _. refl),
      )))

  pub gives_back : (h : K) (slots id : ℕ) (m : Me T (Turn K)) (x : T) → slots ≡ 1 → m ≡ (turn h 1, (0, x) ∷ []) → fits h x → Allows (IsLocked fits h) slots id m 0 (λ _. 0) (given (step slots 0 0 0 none) m)
  gives_back h slots id m x one is has = subst (λ (z : Me T (Turn K)). Allows (IsLocked fits h) slots id z 0 (λ _. 0) (given (step slots 0 0 0 none) z)) (sym is) (λ s r deep at small.
      let w : Turn K = turn h 0 in (
        w,
        gives,
        tt,
        record {
          wide = length-set s.words 0 0 ∙ r.wide;
          free = λ z. (x, one_home s.homes (some x) (deep ∙ one), has);
          held = λ i v e g. absurd (⊎_elim (λ (t : (i ≡ id) × (w ≡ v)). let b = ap (λ (u : Turn K). u.holds) t.1 in omega arith) (λ (t : (i ≢ id) × (get_elem? s.views i ≡ some v)). t.0 (r.one i id v (turn h 1) t.1 at g refl)) (at_set s.views id i w v e));
          one = λ i k v u e e' g g'. absurd (⊎_elim (λ (t : (i ≡ id) × (w ≡ v)). let b = ap (λ (u : Turn K). u.holds) t.1 in omega arith) (λ (t : (i ≢ id) × (get_elem? s.views i ≡ some v)). t.0 (r.one i id v (turn h 1) t.1 at g refl)) (at_set s.views id i w v e));
        },
        tt,
      ))

  -- at the end: where the word is 0, the slot's value fits
  pub ends : (h : K) (ws : List ℕ) (xs : List T) (n : ℕ) (x : T) → Final (IsLocked fits h) ws xs → get_elem? ws 0 ≡ some n → n ≡ 0 → get_elem? xs 0 ≡ some x → fits h x
  ends h ws xs n x f w is e =
      let z : get_or f.0.words 0 0 ≡ 0 = zero_word f.0.words (subst (λ (l : List ℕ). get_elem? l 0 ≡ some 0) (sym f.2) (w ∙ ap (λ (k : ℕ). some k) is)) in
      let t = f.1.free z in
      let at : get_elem? xs 0 ≡ some t.0 = f.4 0 t.0 (subst (λ (hs : List (maybe.Option T)). get_elem? hs 0 ≡ some (some t.0)) (sym t.1) refl) in
      subst (λ (y : T). fits h y) (some-injective t.0 x (sym at ∙ e)) t.2
