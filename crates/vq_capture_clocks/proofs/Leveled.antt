-- Lines that are brought down to those that are asked tell the same.
use Rattle.std.proofs.Common.{zero, suc, ◌≡◌, ◌⊎◌, ◌<◌, ◌≤◌, ◌+◌, ◌-◌, ◌∙◌, Bool, true, false, ℕ, List, [], ◌∷◌, cond, refl, sym, ap, subst, arith, length, get_or, set, inl, inr}
use Rattle.std.specs.Prelude.{nat_lt, nat_le, ◌/◌, ◌%◌, ◌==◌, ◌||◌, ◌&&◌}
use Rattle.std.proofs.lemmas.List.{get_or-set_same, get_or-set_other, get_or_default}
use Rattle.std.proofs.lemmas.Bool.{or_cases, and_from, and_parts, leb-true, eqb-true, eq-eqb}
use lib.Pointwise.{pointwise, bytes_decides}
use Rattle.std.specs.Bool.{Decides}
use Rattle.vq_ground.specs.Lists.{has}
use Rattle.vq_ground.proofs.Bools.{never}
use Rattle.vq_ground.proofs.Tests.{below_test, below_of_test, not_below_test, at_least_of_test}
use Rattle.vq_ground.proofs.Lists.{has_cases}
use Rattle.vq_ground.proofs.Gets.{has_at}
use Rattle.vq_capture_clocks.specs.declared.clocks.Block.{Block}
use Rattle.vq_capture_clocks.specs.Blocks.{block_says, line_at, says}
use Rattle.vq_capture_clocks.specs.Clocks.{join}
use Rattle.vq_capture_clocks.specs.Levels.{AreInOrder, TellsOf, is_listed}
use Rattle.vq_capture_clocks.proofs.Joined.{same_of_test, other_of_test, tells_later}

-- The first of some lines, which are in order, that isn't above one

module _ (xs : List ℕ) (line : ℕ) (order : AreInOrder xs) (middle : ℕ) (inside : middle < length xs) where
  pub low_half : get_or xs middle 0 < line → (k d : ℕ) → k < middle + 1 → get_or xs k d < line
  low_half l k d m =
      let f = order k middle d (omega arith) inside in
      let e : get_or xs middle 0 ≡ get_or xs middle d = get_or_default xs middle 0 d inside in
      omega arith

  pub high_half : line ≤ get_or xs middle 0 → (k d : ℕ) → middle ≤ k → k < length xs → line ≤ get_or xs k d
  high_half l k d m n =
      let f = order middle k d m n in
      let e : get_or xs middle 0 ≡ get_or xs middle d = get_or_default xs middle 0 d inside in
      omega arith

-- a line that is among some stands at a place
pub place_of : (xs : List ℕ) (l : ℕ) → has xs l ≡ true → (i : ℕ) × (i < length xs) × (get_or xs i 0 ≡ l)
place_of [] l h = never h
place_of (x ∷ xs) l h = elim (has_cases x xs l h) [
  | inl e ↦ (0, omega arith, e)
  | inr m ↦ (let r = place_of xs l m in (suc r.0, (let k = r.1 in omega arith), r.2))
]

module _ (xs : List ℕ) (line count : ℕ) (within : count ≤ length xs)
    (above : (k d : ℕ) → k < count → get_or xs k d < line)
    (behind : (k d : ℕ) → count ≤ k → k < length xs → line ≤ get_or xs k d) where
  -- it is among them where the first that isn't above it is the line
  pub among_at : count < length xs → get_or xs count 0 ≡ line → has xs line ≡ true
  among_at l e = subst (λ (x : ℕ). has xs x ≡ true) e (has_at xs count l)

  pub not_among : (order : AreInOrder xs) → ((l : count < length xs) → get_or xs count 0 ≡ line → ⊥) → has xs line ≡ false
  not_among order f = by (has xs line) refl
    where
      by : (b : Bool) → has xs line ≡ b → has xs line ≡ false
      by false e = e
      by true e = absurd (at (place_of xs line e))
        where
          at : (i : ℕ) × (i < length xs) × (get_or xs i 0 ≡ line) → ⊥
          at (i, l, q) = elim (below_or count i) [
            | inl m ↦ (let a = above i 0 m in omega arith)
            | inr m ↦ f (omega arith) (let o = order count i 0 m l in let b = behind count 0 (omega arith) (omega arith) in omega arith)
          ]
            where
              below_or : (n k : ℕ) → (k < n) ⊎ (n ≤ k)
              below_or n k = by_test (nat_lt k n) refl
                where
                  by_test : (t : Bool) → nat_lt k n ≡ t → (k < n) ⊎ (n ≤ k)
                  by_test true g = inl (below_of_test k n g)
                  by_test false g = inr (at_least_of_test k n g)

  module _ (next : ℕ) (low : line ≤ next) where
    same_tests : (l level : ℕ) → ((l < line) → l < level) → ((line ≤ l) → level ≤ l) → nat_lt l level ≡ nat_lt l line
    same_tests l level f g = by (nat_lt l line) refl
      where
        by : (t : Bool) → nat_lt l line ≡ t → nat_lt l level ≡ nat_lt l line
        by true e = below_test l level (f (below_of_test l line e)) ∙ sym e
        by false e = not_below_test l level (g (at_least_of_test l line e)) ∙ sym e

    -- none is above
    pub level_none : count ≡ 0 → (l : ℕ) → is_listed xs next l ≡ true → nat_lt l 0 ≡ nat_lt l line
    level_none e l h = same_tests l 0 (λ m. absurd (none m)) (λ m. omega arith)
      where
        none : l < line → ⊥
        none m = elim (or_cases (nat_le next l) (has xs l) h) [
          | inl n ↦ (let f = low in let g = leb-true next l n in omega arith)
          | inr n ↦ (let r = place_of xs l n in let b = behind r.0 0 (omega arith) r.1 in let q = r.2 in omega arith)
        ]

    -- the last that is above
    pub level_last : (order : AreInOrder xs) → 0 < count → (l : ℕ) → is_listed xs next l ≡ true → nat_lt l (get_or xs (count - 1) 0 + 1) ≡ nat_lt l line
    level_last order some l h = same_tests l (get_or xs (count - 1) 0 + 1) down up
      where
        last : get_or xs (count - 1) 0 < line
        last = above (count - 1) 0 (omega arith)

        up : line ≤ l → get_or xs (count - 1) 0 + 1 ≤ l
        up m = let q = last in omega arith

        down : l < line → l < get_or xs (count - 1) 0 + 1
        down m = elim (or_cases (nat_le next l) (has xs l) h) [
          | inl n ↦ (let f = low in let g = leb-true next l n in absurd (omega arith))
          | inr n ↦ at (place_of xs l n)
        ]
          where
            at : (i : ℕ) × (i < length xs) × (get_or xs i 0 ≡ l) → l < get_or xs (count - 1) 0 + 1
            at (i, b, q) = by_test (nat_lt i count) refl
              where
                by_test : (t : Bool) → nat_lt i count ≡ t → l < get_or xs (count - 1) 0 + 1
                by_test true g =
                    let k = below_of_test i count g in
                    let o = order i (count - 1) 0 (omega arith) (omega arith) in
                    omega arith
                by_test false g =
                    let k = at_least_of_test i count g in
                    let o = behind i 0 k b in
                    absurd (omega arith)

-- Blocks that are found to be the same are
pub block_decides : (a b : Block) → Decides ((a.number == b.number) && pointwise (λ (x y : ℕ). x == y) a.lines b.lines) (a ≡ b)
block_decides a b = (to, from)
  where
    to : ((a.number == b.number) && pointwise (λ (x y : ℕ). x == y) a.lines b.lines) ≡ true → a ≡ b
    to h =
        let n = eqb-true a.number b.number (and_parts (a.number == b.number) (pointwise (λ (x y : ℕ). x == y) a.lines b.lines) h).0 in
        let l = (bytes_decides a.lines b.lines).0 (and_parts (a.number == b.number) (pointwise (λ (x y : ℕ). x == y) a.lines b.lines) h).1 in
        (λ i. record { number = n i; lines = l i })

    from : a ≡ b → ((a.number == b.number) && pointwise (λ (x y : ℕ). x == y) a.lines b.lines) ≡ true
    from e =
        and_from (a.number == b.number) (pointwise (λ (x y : ℕ). x == y) a.lines b.lines)
        (eq-eqb a.number b.number (ap (λ (x : Block). x.number) e))
        ((bytes_decides a.lines b.lines).1 (ap (λ (x : Block). x.lines) e))

-- Clocks that tell the same of some lines

pub tells_of_itself : (xs : List ℕ) (next : ℕ) (c : ℕ → ℕ) → TellsOf xs next c c
tells_of_itself xs next c = λ line lane l. refl

pub tells_of_twice : (xs : List ℕ) (next : ℕ) (c d e : ℕ → ℕ) → TellsOf xs next c d → TellsOf xs next d e → TellsOf xs next c e
tells_of_twice xs next c d e p q = λ line lane l. p line lane l ∙ q line lane l

-- a line that is brought down
pub tells_of_level : (xs : List ℕ) (next : ℕ) (ps : List ℕ) (place level : ℕ) → place < length ps → ((l : ℕ) → is_listed xs next l ≡ true → nat_lt l level ≡ nat_lt l (get_or ps place 0)) → TellsOf xs next (line_at (set ps place level)) (line_at ps)
tells_of_level xs next ps place level l f = λ line k h. by line k h (k == place) refl
  where
    by : (line k : ℕ) → is_listed xs next line ≡ true → (b : Bool) → (k == place) ≡ b → nat_lt line (line_at (set ps place level) k) ≡ nat_lt line (line_at ps k)
    by line k h true q =
        let here : k ≡ place = same_of_test k place q in
        ap (λ (j : ℕ). nat_lt line (line_at (set ps place level) j)) here
        ∙ (ap (λ (j : ℕ). nat_lt line j) (get_or-set_same ps place level 0 l)
        ∙ (f line h ∙ ap (λ (j : ℕ). nat_lt line (line_at ps j)) (sym here)))
    by line k h false q =
        ap (λ (j : ℕ). nat_lt line j) (get_or-set_other ps place k level 0 (other_of_test k place q))

-- the lines of a block
pub tells_of_block : (xs : List ℕ) (next : ℕ) (x y : Block) → y.number ≡ x.number → TellsOf xs next (line_at y.lines) (line_at x.lines) → TellsOf xs next (block_says y) (block_says x)
tells_of_block xs next x y e f = λ line k h.
    ap (λ (n : ℕ). nat_lt line (cond (k / 15 == n) (line_at y.lines (k % 15)) 0)) e ∙ by line k h (k / 15 == x.number)
  where
    by : (line k : ℕ) → is_listed xs next line ≡ true → (b : Bool) → nat_lt line (cond b (line_at y.lines (k % 15)) 0) ≡ nat_lt line (cond b (line_at x.lines (k % 15)) 0)
    by line k h true = f line (k % 15) h
    by line k h false = refl

tells_of_join : (xs : List ℕ) (next : ℕ) (c d e f : ℕ → ℕ) → TellsOf xs next c d → TellsOf xs next e f → TellsOf xs next (join c e) (join d f)
tells_of_join xs next c d e f p q = λ line lane l.
    tells_later line (c lane) (e lane) ∙ ((λ i. p line lane l i || q line lane l i) ∙ sym (tells_later line (d lane) (f lane)))

-- one block of some
pub tells_of_set : (xs : List ℕ) (next : ℕ) (bs : List Block) (i : ℕ) (old new : Block) → i < length bs → old ≡ get_or bs i old → TellsOf xs next (block_says new) (block_says old) → TellsOf xs next (says (set bs i new)) (says bs)
tells_of_set xs next [] i old new l q e = absurd (omega arith)
tells_of_set xs next (b ∷ bs) zero old new l q e =
    tells_of_join xs next (block_says new) (block_says b) (says bs) (says bs)
    (subst (λ (y : Block). TellsOf xs next (block_says new) (block_says y)) q e) (tells_of_itself xs next (says bs))
tells_of_set xs next (b ∷ bs) (suc i) old new l q e =
    tells_of_join xs next (block_says b) (block_says b) (says (set bs i new)) (says bs) (tells_of_itself xs next (block_says b)) (tells_of_set xs next bs i old new (omega arith) q e)
