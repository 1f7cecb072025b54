-- The steps of a bell keep its rule, and who sleeps on a count that is past sees it.
use Rattle.std.proofs.Common.{◌≡◌, ◌≢◌, ◌≤◌, ◌+◌, ◌%◌, ◌^◌, ℕ, [], ◌∷◌, length, set, get_or, refl, ap, sym, ◌∙◌, subst, arith, ⊎_elim, length-set, get_or-set_same, le_refl}
use mathlib.Core.Option.{some, none}
use lib.ListN.{get_elem?}
use Rattle.vq_ground.proofs.Elements.{at_end, at_one}
use Rattle.atomic_table.specs.Table.{Me, State, step, keeps, opening, Allows, Enters}
use Rattle.atomic_table.proofs.Lists.{at_set}
use Rattle.vq_live_lock.specs.declared.counting.Times.{Times}
use Rattle.vq_live_lock.specs.Rings.{IsCounted, times, heard, rang}

abbrev rings_in : Times → ℕ
rings_in v = v.rings

one_more : (t : ℕ) → (t % 2 ^ 64 + 1) % 2 ^ 64 ≡ (t + 1) % 2 ^ 64
one_more t = omega arith

module _ {S : Type 0} where
  pub opens : IsCounted {S = S} (opening (0 ∷ []) [] (times 0))
  opens = record {
    wide = refl;
    total = 0;
    word = refl;
    below = λ i v e. subst (λ (k : ℕ). k ≤ 0) (ap rings_in (at_one (times 0) v i e).1) (le_refl 0);
  }

  pub enters : (slots : ℕ) → Enters {S = S} IsCounted slots 0 (λ n w. heard {S = S} (step slots 0 0 0 none) (times 0, []) n (w, []))
  enters slots s r deep small =
      let w : Times = times r.total in (
        w,
        record {
          wide = r.wide;
          total = r.total;
          word = r.word;
          below = λ i v e. ⊎_elim (λ a. r.below i v a) (λ b. subst (λ (k : ℕ). k ≤ r.total) (ap rings_in b.1) (le_refl r.total)) (at_end s.views w v i e);
        },
        (r.total, omega arith, r.word, refl),
      )

  -- a step that leaves so many rings, of which it knows
  steps : (new total id : ℕ) (s : State S Times) → length s.words ≡ 1 → new ≡ total % 2 ^ 64 →
      ((i : ℕ) (v : Times) → get_elem? s.views i ≡ some v → v.rings ≤ total) →
      IsCounted (record { words = set s.words 0 new; homes = s.homes; views = set s.views id (times total) })
  steps new total id s wide is below =
      let w : Times = times total in
      record {
        wide = length-set s.words 0 new ∙ wide;
        total = total;
        word = get_or-set_same s.words 0 new 0 (omega arith) ∙ is;
        below = λ i v e. ⊎_elim (λ (t : (i ≡ id) × (w ≡ v)). subst (λ (k : ℕ). k ≤ total) (ap rings_in t.1) (le_refl total)) (λ (t : (i ≢ id) × (get_elem? s.views i ≡ some v)). below i v t.1) (at_set s.views id i w v e);
      }

  pub hears : (slots id k : ℕ) (m : Me S Times) → m ≡ (times k, []) →
      Allows IsCounted slots id m 0 (λ n. n) (heard (step slots 0 0 0 none) m)
  hears slots id k m is = subst (λ (z : Me S Times). Allows IsCounted slots id z 0 (λ n. n) (heard (step slots 0 0 0 none) z)) (sym is) (λ s r deep at small.
      (times r.total, keeps, tt, steps (get_or s.words 0 0) r.total id s r.wide r.word r.below, (r.total, r.below id (times k) at, r.word, refl)))

  pub rings : (slots id k : ℕ) (m : Me S Times) → m ≡ (times k, []) →
      Allows IsCounted slots id m 0 (λ n. (n + 1) % 2 ^ 64) (rang (step slots 0 1 0 none) m)
  rings slots id k m is = subst (λ (z : Me S Times). Allows IsCounted slots id z 0 (λ n. (n + 1) % 2 ^ 64) (rang (step slots 0 1 0 none) z)) (sym is) (λ s r deep at small.
      let n : ℕ = get_or s.words 0 0 in
      let known : k ≤ r.total = r.below id (times k) at in
      let word : (n + 1) % 2 ^ 64 ≡ (r.total + 1) % 2 ^ 64 = ap (λ (x : ℕ). (x + 1) % 2 ^ 64) r.word ∙ one_more r.total in
      let below : (i : ℕ) (v : Times) → get_elem? s.views i ≡ some v → v.rings ≤ r.total + 1 = λ i v e. (let b = r.below i v e in omega arith) in
      (times (r.total + 1), keeps, tt, steps ((n + 1) % 2 ^ 64) (r.total + 1) id s r.wide word below, (r.total + 1, omega arith, refl)))
