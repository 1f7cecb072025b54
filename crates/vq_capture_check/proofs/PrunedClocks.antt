-- Clocks without what isn't asked tell the same.
use Rattle.std.proofs.Common.{zero, suc, ◌≡◌, ◌<◌, ◌≤◌, ◌∙◌, Bool, true, false, ℕ, List, [], ◌∷◌, ◌++◌, cond, refl, sym, ap, subst, arith, length, get_or, set, map}
use Rattle.std.specs.Prelude.{◌==◌, ◌||◌}
use Rattle.vq_ground.specs.Lists.{has}
use Rattle.std.proofs.lemmas.List.{reverse-append}
use Rattle.vq_capture_check.specs.declared.kept_lines.KeptLines.{KeptLines}
use Rattle.vq_capture_check.specs.declared.signals.SignalLine.{SignalLine}
use Rattle.vq_capture_check.specs.Alike.{SignalTelling, telling_of}
use Rattle.vq_capture_check.specs.Clocks.{says, no_clock}
use Rattle.vq_capture_check.specs.Watches.{kept_at, kept_of, signal_clock, signals_of}
use Rattle.vq_capture_clocks.specs.declared.clocks.Block.{Block}

-- Signals

module _ (line lane : ℕ) where
  abbrev told : SignalLine → SignalTelling
  told x = telling_of line lane (signal_clock x)

  abbrev all_told : List SignalLine → List SignalTelling
  all_told xs = map (telling_of line lane) (signals_of xs)

  pub told_set : (xs : List SignalLine) (place : ℕ) (old new : SignalLine) → place < length xs → old ≡ get_or xs place old → told new ≡ told old → all_told (set xs place new) ≡ all_told xs
  told_set [] place old new l g e = absurd (omega arith)
  told_set (x ∷ xs) zero old new l g e =
      ap (λ (t : SignalTelling). t ∷ all_told xs) (e ∙ ap (λ (y : SignalLine). told y) g)
  told_set (x ∷ xs) (suc n) old new l g e =
      ap (λ (ts : List SignalTelling). told x ∷ ts) (told_set xs n old new (omega arith) g e)

-- Lines

kept_last : (xs : List KeptLines) (x : KeptLines) (m : ℕ) → kept_of (xs ++ x ∷ []) m ≡ cond (has x.lines.items m) (says x.clock.items) (kept_of xs m)
kept_last xs x m = ap (λ (ys : List KeptLines). kept_at ys m) (reverse-append xs (x ∷ []))

module _ (R : (ℕ → ℕ) → (ℕ → ℕ) → Type 0) (now before : List KeptLines) (x y : KeptLines) (same : (m : ℕ) → R (kept_of now m) (kept_of before m)) (clock : R (says y.clock.items) (says x.clock.items)) where
  -- lines with what is left of their clock
  pub related_pushed : y.lines.items ≡ x.lines.items → (m : ℕ) → R (kept_of (now ++ y ∷ []) m) (kept_of (before ++ x ∷ []) m)
  related_pushed e m =
      subst (λ (c : ℕ → ℕ). R c (kept_of (before ++ x ∷ []) m)) (sym (kept_last now y m ∙ ap (λ (ls : List ℕ). cond (has ls m) (says y.clock.items) (kept_of now m)) e))
      (subst (λ (c : ℕ → ℕ). R (cond (has x.lines.items m) (says y.clock.items) (kept_of now m)) c) (sym (kept_last before x m))
      (by (has x.lines.items m)))
    where
      by : (b : Bool) → R (cond b (says y.clock.items) (kept_of now m)) (cond b (says x.clock.items) (kept_of before m))
      by true = clock
      by false = same m

  -- lines whose clock says nothing, where none of them is kept
  pub related_dropped : y.clock.items ≡ [] → ((m : ℕ) → has x.lines.items m ≡ true → kept_of now m ≡ no_clock) → (m : ℕ) → R (kept_of now m) (kept_of (before ++ x ∷ []) m)
  related_dropped e f m =
      subst (λ (c : ℕ → ℕ). R (kept_of now m) c) (sym (kept_last before x m))
      (by (has x.lines.items m) refl)
    where
      nothing : says y.clock.items ≡ no_clock
      nothing = ap (λ (zs : List Block). says zs) e

      by : (b : Bool) → has x.lines.items m ≡ b → R (kept_of now m) (cond b (says x.clock.items) (kept_of before m))
      by true q = subst (λ (c : ℕ → ℕ). R c (says x.clock.items)) (nothing ∙ sym (f m q)) clock
      by false q = same m

-- no line above a highest one is kept
pub none_above : (xs : List KeptLines) (x : KeptLines) (high up : ℕ) → ((m : ℕ) → high < m → kept_of xs m ≡ no_clock) → high ≤ up → ((m : ℕ) → up < m → has x.lines.items m ≡ false) → (m : ℕ) → up < m → kept_of (xs ++ x ∷ []) m ≡ no_clock
none_above xs x high up f l k m p =
    kept_last xs x m ∙ (ap (λ (b : Bool). cond b (says x.clock.items) (kept_of xs m)) (k m p) ∙ f m (omega arith))

-- lines that are put behind others with the same clock
pub kept_joined : (xs : List KeptLines) (x y z : KeptLines) → z.lines.items ≡ x.lines.items ++ y.lines.items → z.clock.items ≡ x.clock.items → x.clock.items ≡ y.clock.items → (m : ℕ) → kept_of (xs ++ z ∷ []) m ≡ kept_of ((xs ++ x ∷ []) ++ y ∷ []) m
kept_joined xs x y z l c d m =
    kept_last xs z m
    ∙ ((λ i. cond (has (l i) m) (says (c i)) (kept_of xs m))
    ∙ (ap (λ (b : Bool). cond b (says x.clock.items) (kept_of xs m)) (has_both x.lines.items y.lines.items m)
    ∙ (either (has x.lines.items m) (has y.lines.items m)
    ∙ sym (kept_last (xs ++ x ∷ []) y m ∙ ap (λ (f : ℕ → ℕ). cond (has y.lines.items m) (says y.clock.items) f) (kept_last xs x m)))))
  where
    has_both : (ks ls : List ℕ) (n : ℕ) → has (ks ++ ls) n ≡ (has ks n || has ls n)
    has_both [] ls n = refl
    has_both (k ∷ ks) ls n = by (k == n) (has_both ks ls n)
      where
        by : (t : Bool) → has (ks ++ ls) n ≡ (has ks n || has ls n) → (t || has (ks ++ ls) n) ≡ ((t || has ks n) || has ls n)
        by true e = refl
        by false e = e

    either : (s t : Bool) → cond (s || t) (says x.clock.items) (kept_of xs m) ≡ cond t (says y.clock.items) (cond s (says x.clock.items) (kept_of xs m))
    either true true = ap (λ (zs : List Block). says zs) d
    either true false = refl
    either false true = ap (λ (zs : List Block). says zs) d
    either false false = refl
