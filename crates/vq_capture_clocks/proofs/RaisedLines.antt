-- Lines that are raised at the places of a set.
use Rattle.std.proofs.Common.{◌≡◌, ◌≢◌, ◌<◌, ◌≤◌, ◌+◌, ◌∙◌, Bool, true, false, ℕ, List, cond, refl, sym, ap, subst, arith, length, get_or}
use Rattle.std.specs.Prelude.{nat_lt, ◌==◌, ◌&&◌, ◌/◌, ◌%◌}
use Rattle.std.proofs.lemmas.List.{get_or_past, get_or_default}
use Rattle.vq_ground.proofs.Tests.{below_test, not_below_test, below_of_test, at_least_of_test}
use Rattle.vq_capture_clocks.specs.declared.clocks.Block.{Block}
use Rattle.vq_capture_clocks.specs.Blocks.{line_at, block_says, only, raised_in}
use Rattle.vq_capture_clocks.specs.Clocks.{IsBelow, join, raise, later, no_clock}
use Rattle.vq_capture_clocks.specs.LaneSets.{has_lane}
use Rattle.vq_capture_clocks.proofs.Joined.{later_none, same_of_test, other_of_test, nothing_join}

pub raised_none : (f : ℕ → ℕ) (set line : ℕ) → f ≡ raised_in f set line 0
raised_none f set line = λ i k. at k i
  where
    at : (k : ℕ) → f k ≡ raised_in f set line 0 k
    at k = sym (ap (λ (b : Bool). cond (b && has_lane set k) (later (f k) line) (f k)) (not_below_test k 0 (omega arith)))

-- whether a place is below the next one
below_next : (k n : ℕ) → k ≢ n → nat_lt k n ≡ nat_lt k (n + 1)
below_next k n o = by (nat_lt k n) refl
  where
    by : (t : Bool) → nat_lt k n ≡ t → t ≡ nat_lt k (n + 1)
    by true e =
        let l = below_of_test k n e in
        sym (below_test k (n + 1) (omega arith))
    by false e =
        let l = at_least_of_test k n e in
        sym (not_below_test k (n + 1) (above k n l o))
      where
        above : (k n : ℕ) → n ≤ k → k ≢ n → n + 1 ≤ k
        above k n l o = omega arith

module _ (f : ℕ → ℕ) (set line n : ℕ) where
  raised_at : (b : Bool) → has_lane set n ≡ b → raised_in f set line (n + 1) n ≡ cond b (later (f n) line) (f n)
  raised_at b e =
      ap (λ (t : Bool). cond (t && has_lane set n) (later (f n) line) (f n)) (below_test n (n + 1) (omega arith))
      ∙ ap (λ (t : Bool). cond t (later (f n) line) (f n)) e

  same_at : raised_in f set line n n ≡ f n
  same_at = ap (λ (t : Bool). cond (t && has_lane set n) (later (f n) line) (f n)) (not_below_test n n (omega arith))

  same_beside : (k : ℕ) → k ≢ n → raised_in f set line n k ≡ raised_in f set line (n + 1) k
  same_beside k o = ap (λ (t : Bool). cond (t && has_lane set k) (later (f k) line) (f k)) (below_next k n o)

  pub raised_here : has_lane set n ≡ true → raise (raised_in f set line n) n line ≡ raised_in f set line (n + 1)
  raised_here e = λ i k. at k i
    where
      by : (k : ℕ) (b : Bool) → (k == n) ≡ b →
          cond b (later (raised_in f set line n k) line) (raised_in f set line n k) ≡ raised_in f set line (n + 1) k
      by k true q =
          let here : k ≡ n = same_of_test k n q in
          subst (λ (j : ℕ). later (raised_in f set line n j) line ≡ raised_in f set line (n + 1) j) (sym here)
          (ap (λ (m : ℕ). later m line) same_at ∙ sym (raised_at true e))
      by k false q = same_beside k (other_of_test k n q)

      at : (k : ℕ) → raise (raised_in f set line n) n line k ≡ raised_in f set line (n + 1) k
      at k = by k (k == n) refl

  pub raised_not : has_lane set n ≡ false → raised_in f set line n ≡ raised_in f set line (n + 1)
  raised_not e = λ i k. at k i
    where
      by : (k : ℕ) (b : Bool) → (k == n) ≡ b → raised_in f set line n k ≡ raised_in f set line (n + 1) k
      by k true q =
          let here : k ≡ n = same_of_test k n q in
          subst (λ (j : ℕ). raised_in f set line n j ≡ raised_in f set line (n + 1) j) (sym here)
          (same_at ∙ sym (raised_at false e))
      by k false q = same_beside k (other_of_test k n q)

      at : (k : ℕ) → raised_in f set line n k ≡ raised_in f set line (n + 1) k
      at k = by k (k == n) refl

  pub raised_step : (b : Bool) → b ≡ has_lane set n → (g h : ℕ → ℕ) → g ≡ raised_in f set line n → h ≡ cond b (raise g n line) g → h ≡ raised_in f set line (n + 1)
  raised_step true e g h p q = q ∙ (ap (λ (c : ℕ → ℕ). raise c n line) p ∙ raised_here (sym e))
  raised_step false e g h p q = q ∙ (p ∙ raised_not (sym e))

-- A block that is raised

place_below : (k : ℕ) → nat_lt (k % 15) 15 ≡ true
place_below k = below_test (k % 15) 15 (omega arith)

pub block_raised : (x z : Block) (set line : ℕ) → z.number ≡ x.number → line_at z.lines ≡ raised_in (line_at x.lines) set line 15 → block_says z ≡ join (block_says x) (only x.number set line)
block_raised x z set line p e = λ i k. at k i
  where
    within : (k : ℕ) (b : Bool) → cond b (later (line_at x.lines (k % 15)) line) (line_at x.lines (k % 15)) ≡ later (line_at x.lines (k % 15)) (cond b line 0)
    within k true = refl
    within k false = sym (later_none (line_at x.lines (k % 15)))

    by : (k : ℕ) (b : Bool) → cond b (line_at z.lines (k % 15)) 0 ≡ later (cond b (line_at x.lines (k % 15)) 0) (cond (b && has_lane set (k % 15)) line 0)
    by k true =
        ap (λ (f : ℕ → ℕ). f (k % 15)) e
        ∙ (ap (λ (t : Bool). cond (t && has_lane set (k % 15)) (later (line_at x.lines (k % 15)) line) (line_at x.lines (k % 15))) (place_below k)
        ∙ within k (has_lane set (k % 15)))
    by k false = sym (later_none 0)

    at : (k : ℕ) → block_says z k ≡ later (block_says x k) (only x.number set line k)
    at k =
        ap (λ (m : ℕ). cond (k / 15 == m) (line_at z.lines (k % 15)) 0) p
        ∙ by k (k / 15 == x.number)

-- a new block that is raised
pub block_fresh : (x z : Block) (set line : ℕ) → z.number ≡ x.number → ((p : ℕ) → line_at x.lines p ≡ 0) → line_at z.lines ≡ raised_in (line_at x.lines) set line 15 → block_says z ≡ only x.number set line
block_fresh x z set line p none e =
    block_raised x z set line p e ∙ (ap (λ (c : ℕ → ℕ). join c (only x.number set line)) nothing ∙ nothing_adds)
  where
    nothing : block_says x ≡ no_clock
    nothing = λ i k. at k i
      where
        by : (k : ℕ) (b : Bool) → cond b (line_at x.lines (k % 15)) 0 ≡ 0
        by k true = none (k % 15)
        by k false = refl

        at : (k : ℕ) → block_says x k ≡ 0
        at k = by k (k / 15 == x.number)

    nothing_adds : join no_clock (only x.number set line) ≡ only x.number set line
    nothing_adds = nothing_join (only x.number set line)

-- Lines that are within others

module _ (xs ys : List ℕ) where
  abbrev pub AreWithin : ℕ → Type 0
  AreWithin n = (p : ℕ) → p < n → line_at xs p ≤ line_at ys p

  pub within_next : (n d e : ℕ) → AreWithin n → n < length xs → n < length ys → get_or xs n d ≤ get_or ys n e → AreWithin (n + 1)
  within_next n d e f l m h p q = by (p == n) refl
    where
      by : (b : Bool) → (p == n) ≡ b → line_at xs p ≤ line_at ys p
      by true g =
          let here : p ≡ n = same_of_test p n g in
          subst (λ (k : ℕ). line_at xs k ≤ line_at ys k) (sym here)
          (subst (λ (k : ℕ × ℕ). k.0 ≤ k.1) (λ i. (get_or_default xs n d 0 l i, get_or_default ys n e 0 m i)) h)
      by false g =
          let o = other_of_test p n g in
          f p (below p n q o)
        where
          below : (p n : ℕ) → p < n + 1 → p ≢ n → p < n
          below p n l o = omega arith

  pub within_all : (n : ℕ) → length xs ≤ n → AreWithin n → IsBelow (line_at xs) (line_at ys)
  within_all n l f p = by (nat_lt p n) refl
    where
      by : (b : Bool) → nat_lt p n ≡ b → line_at xs p ≤ line_at ys p
      by true g = f p (below_of_test p n g)
      by false g =
          let m = at_least_of_test p n g in
          let none : line_at xs p ≡ 0 = get_or_past xs p 0 (omega arith) in
          omega arith

-- the same of blocks and clocks

pub block_below : (x y : Block) → x.number ≡ y.number → IsBelow (line_at x.lines) (line_at y.lines) → IsBelow (block_says x) (block_says y)
block_below x y e f k =
    subst (λ (n : ℕ). block_says x k ≤ cond (k / 15 == n) (line_at y.lines (k % 15)) 0) e (by (k / 15 == x.number))
  where
    by : (b : Bool) → cond b (line_at x.lines (k % 15)) 0 ≤ cond b (line_at y.lines (k % 15)) 0
    by true = f (k % 15)
    by false = omega arith
