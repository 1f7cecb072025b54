-- Lines in lists, and lists from behind.
use Rattle.std.proofs.Common.{◌≡◌, ◌<◌, ◌≤◌, ◌-◌, ◌∙◌, Bool, true, false, ℕ, suc, List, [], ◌∷◌, ◌++◌, cond, refl, ap, subst, arith, take, reverse, length, get_or, Some, None}
use Rattle.std.specs.Prelude.{◌==◌, ◌||◌}
use Rattle.vq_ground.specs.Lists.{has}
use Rattle.std.proofs.lemmas.List.{reverse-append}
use Rattle.std.proofs.Math.Seq.{take-suc}
use Rattle.vq_capture.specs.declared.capture.Step.{Step}
use Rattle.vq_capture_check.specs.declared.kept_lines.KeptLines.{KeptLines}
use Rattle.vq_capture_touched.specs.declared.touch.Touch.{Touch}
use Rattle.vq_capture_check.specs.Clocks.{says, with_line}
use Rattle.vq_capture_check.specs.Watching.{Clocking, is_loose, last_loose, first_loose}
use Rattle.vq_capture_check.specs.Watches.{kept_at, kept_of}

-- Lists from behind

last_first : {X : Type 0} (xs : List X) (i : ℕ) (d : X) → i < length xs → reverse (take (suc i) xs) ≡ get_or xs i d ∷ reverse (take i xs)
last_first {X} xs i d l =
    ap (λ (ys : List X). reverse ys) (take-suc xs i d l) ∙ reverse-append (take i xs) (get_or xs i d ∷ [])

from_last : {X : Type 0} (xs : List X) (n : ℕ) (d : X) → 0 < n → n ≤ length xs → reverse (take n xs) ≡ get_or xs (n - 1) d ∷ reverse (take (n - 1) xs)
from_last {X} xs n d p l =
    let e : suc (n - 1) ≡ n = omega arith in
    subst (λ (m : ℕ). reverse (take m xs) ≡ get_or xs (n - 1) d ∷ reverse (take (n - 1) xs)) e (last_first xs (n - 1) d (omega arith))

pub up_to_last : {X : Type 0} (xs : List X) (n : ℕ) (d : X) → 0 < n → n ≤ length xs → take n xs ≡ take (n - 1) xs ++ get_or xs (n - 1) d ∷ []
up_to_last {X} xs n d p l =
    let e : suc (n - 1) ≡ n = omega arith in
    subst (λ (m : ℕ). take m xs ≡ take (n - 1) xs ++ get_or xs (n - 1) d ∷ []) e (take-suc xs (n - 1) d (omega arith))

-- Lines that are kept

pub kept_more : (xs : List KeptLines) (x : KeptLines) (line : ℕ) → x.lines.items ≡ line ∷ [] → kept_of (xs ++ x ∷ []) ≡ with_line (kept_of xs) line (says x.clock.items)
kept_more xs x line e =
    (λ i m. kept_at (reverse-append xs (x ∷ []) i) m) ∙ (λ i m. cond (only m i) (says x.clock.items) (kept_of xs m))
  where
    or_nothing : (b : Bool) → (b || false) ≡ b
    or_nothing true = refl
    or_nothing false = refl

    only : (m : ℕ) → has x.lines.items m ≡ (line == m)
    only m = ap (λ (ls : List ℕ). has ls m) e ∙ or_nothing (line == m)

module _ (xs : List KeptLines) (n : ℕ) (d : KeptLines) (p : 0 < n) (l : n ≤ length xs) (line : ℕ) where
  abbrev x : KeptLines
  x = get_or xs (n - 1) d

  here : (t : Bool) → has x.lines.items line ≡ t → kept_at (reverse (take n xs)) line ≡ cond t (says x.clock.items) (kept_at (reverse (take (n - 1) xs)) line)
  here t e =
      ap (λ (ys : List KeptLines). kept_at ys line) (from_last xs n d p l)
      ∙ ap (λ (u : Bool). cond u (says x.clock.items) (kept_at (reverse (take (n - 1) xs)) line)) e

  pub kept_here : has x.lines.items line ≡ true → kept_at (reverse (take n xs)) line ≡ says x.clock.items
  kept_here e = here true e

  pub kept_above : has x.lines.items line ≡ false → kept_at (reverse (take n xs)) line ≡ kept_at (reverse (take (n - 1) xs)) line
  kept_above e = here false e

-- The last that is loose

module _ (cut : ℕ) (ys : List Clocking) (b : Step) (xs : List Touch) (n : ℕ) (d : Touch) (p : 0 < n) (l : n ≤ length xs) where
  abbrev a : Touch
  a = get_or xs (n - 1) d

  abbrev rest : List Touch
  rest = take (n - 1) xs

  found : (t : Bool) → is_loose cut ys b a ≡ t →
      last_loose cut ys b (take n xs) ≡ cond t (Some a.step.line) (last_loose cut ys b rest)
  found t e =
      ap (λ (zs : List Touch). first_loose cut ys b zs) (from_last xs n d p l)
      ∙ (λ i. cond (e i) (Some a.step.line) (last_loose cut ys b rest))

  pub loose_here : is_loose cut ys b a ≡ true → last_loose cut ys b (take n xs) ≡ Some a.step.line
  loose_here e = found true e

  pub loose_above : is_loose cut ys b a ≡ false → last_loose cut ys b (take n xs) ≡ last_loose cut ys b rest
  loose_above e = found false e

-- Two lists, of which one stands above the other

module _ (cut : ℕ) (ys : List Clocking) (b : Step) where
  first_in_front : (xs zs : List Touch) (n : ℕ) → first_loose cut ys b xs ≡ Some n → first_loose cut ys b (xs ++ zs) ≡ Some n
  first_in_front [] zs n e = absurd (none e)
    where
      none : None ≡ Some n → ⊥
      none q = cc
  first_in_front (x ∷ xs) zs n e = case (is_loose cut ys b x) (first_in_front xs zs n) e
    where
      case : (t : Bool) → (first_loose cut ys b xs ≡ Some n → first_loose cut ys b (xs ++ zs) ≡ Some n) →
          cond t (Some x.step.line) (first_loose cut ys b xs) ≡ Some n →
          cond t (Some x.step.line) (first_loose cut ys b (xs ++ zs)) ≡ Some n
      case true f q = q
      case false f q = f q

  first_behind : (xs zs : List Touch) → first_loose cut ys b xs ≡ None → first_loose cut ys b (xs ++ zs) ≡ first_loose cut ys b zs
  first_behind [] zs e = refl
  first_behind (x ∷ xs) zs e = case (is_loose cut ys b x) (first_behind xs zs) e
    where
      some : Some x.step.line ≡ None → ⊥
      some q = cc

      case : (t : Bool) → (first_loose cut ys b xs ≡ None → first_loose cut ys b (xs ++ zs) ≡ first_loose cut ys b zs) →
          cond t (Some x.step.line) (first_loose cut ys b xs) ≡ None →
          cond t (Some x.step.line) (first_loose cut ys b (xs ++ zs)) ≡ first_loose cut ys b zs
      case true f q = absurd (some q)
      case false f q = f q

  pub loose_newest : (older newest : List Touch) (n : ℕ) → last_loose cut ys b newest ≡ Some n → last_loose cut ys b (older ++ newest) ≡ Some n
  loose_newest older newest n e =
      ap (λ (zs : List Touch). first_loose cut ys b zs) (reverse-append older newest)
      ∙ first_in_front (reverse newest) (reverse older) n e

  pub loose_older : (older newest : List Touch) → last_loose cut ys b newest ≡ None → last_loose cut ys b (older ++ newest) ≡ last_loose cut ys b older
  loose_older older newest e =
      ap (λ (zs : List Touch). first_loose cut ys b zs) (reverse-append older newest)
      ∙ first_behind (reverse newest) (reverse older) e
