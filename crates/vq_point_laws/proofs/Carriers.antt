-- The last carriers of points.
use Rattle.std.proofs.Common.{◌≡◌, ℕ, suc, ◌+◌, cond, List, [], ◌∷◌, ◌++◌, length, Option, Some, ◌∙◌, ap, arith, ◌≤◌, Bool, true, false, take, map, ◌<◌, sym, subst, zero}
use Rattle.std.specs.Prelude.{◌==◌}
use Rattle.std.proofs.lemmas.Bool.{or_parts}
use Rattle.vq_point_laws.specs.Timeline.{carries, last_from, Timeline, last_carrier, KeepsLists, IsAbsent}
use Rattle.vq_ground.specs.Lists.{AreRisingFrom}
use Rattle.std.proofs.lemmas.List.{length-take}
use Rattle.std.specs.List.{list_any, range_with_len}
use Rattle.vq_point_laws.proofs.TimelineLists.{other_way}

-- The last carriers of points

pub carrier_push : (n found w p : ℕ) (xs : List (Option ℕ)) → last_from n found w (xs ++ Some p ∷ []) ≡ cond (p == w) (n + length xs + 1) (last_from n found w xs)
carrier_push n found w p [] =
    let e : n + 1 ≡ n + 0 + 1 = omega arith in ap (λ (k : ℕ). cond (p == w) k found) e
carrier_push n found w p (x ∷ xs) =
    let e : n + 1 + length xs + 1 ≡ n + suc (length xs) + 1 = omega arith in
    carrier_push (n + 1) (cond (carries x w) (n + 1) found) w p xs
    ∙ ap (λ (k : ℕ). cond (p == w) k (last_from (n + 1) (cond (carries x w) (n + 1) found) w xs)) e

carrier_bound : (n found w : ℕ) (xs : List (Option ℕ)) → found ≤ n → last_from n found w xs ≤ n + length xs
carrier_bound n found w [] l = omega arith
carrier_bound n found w (x ∷ xs) l =
    let here : cond (carries x w) (n + 1) found ≤ n + 1 = one_of (carries x w) in
    let k = carrier_bound (n + 1) (cond (carries x w) (n + 1) found) w xs here in
    omega arith
  where
    one_of : (b : Bool) → cond b (n + 1) found ≤ n + 1
    one_of true = omega arith
    one_of false = omega arith

pub carrier_at_most : (t : Timeline) (w : ℕ) → last_carrier t w ≤ t.completed
carrier_at_most t w =
    let k = carrier_bound 0 0 w (take t.completed t.points) (omega arith) in
    let l = length-take t.completed t.points in
    omega arith

-- no more points wait than operations are completed
rising_count : (f : ℕ → ℕ) (c n : ℕ) (ws : List ℕ) → ((w : ℕ) → f w ≤ c) → n ≤ c → AreRisingFrom n (map f ws) → length ws + n ≤ c
rising_count f c n [] b l h = omega arith
rising_count f c n (w ∷ ws) b l h =
    let k = rising_count f c (f w) ws b (b w) h.1 in
    let m = h.0 in
    omega arith

pub waiting_count : (t : Timeline) → KeepsLists t → length t.waiting ≤ t.completed
waiting_count t k =
    let c = rising_count (last_carrier t) t.completed 0 t.waiting (carrier_at_most t) (omega arith) k.completion in
    omega arith

-- a point that completes last
pub rising_push : (f g : ℕ → ℕ) (p top n : ℕ) (ws : List ℕ) → IsAbsent p ws → ((w : ℕ) → (p == w) ≡ false → g w ≡ f w) → ((w : ℕ) → f w < top) → g p ≡ top → n < top → AreRisingFrom n (map f ws) → AreRisingFrom n (map g (ws ++ p ∷ []))
rising_push f g p top n [] a same below last l h = (subst (λ (k : ℕ). n < k) (sym last) l, tt)
rising_push f g p top n (w ∷ ws) a same below last l h =
    let parts = or_parts (w == p) (list_any (λ y. y == p) ws) a in
    let e = same w (other_way w p parts.0) in (
      subst (λ (k : ℕ). n < k) (sym e) h.0,
      subst (λ (k : ℕ). AreRisingFrom k (map g (ws ++ p ∷ []))) (sym e)
          (rising_push f g p top (f w) ws parts.1 same below last (below w) h.1),
    )

rising_lower : (n x : ℕ) (xs : List ℕ) → n < x → AreRisingFrom x xs → AreRisingFrom n xs
rising_lower n x [] l h = tt
rising_lower n x (y ∷ ys) l h = let k = h.0 in (omega arith, h.1)

pub rising_without : (n x : ℕ) (xs ys : List ℕ) → AreRisingFrom n (xs ++ x ∷ ys) → AreRisingFrom n (xs ++ ys)
rising_without n x [] ys h = rising_lower n x ys h.0 h.1
rising_without n x (y ∷ xs) ys h = (h.0, rising_without y x xs ys h.1)

-- ranges
pub numbers_push : (a n : ℕ) → range_with_len a n ++ (a + n) ∷ [] ≡ range_with_len a (n + 1)
numbers_push a zero = λ i. let e : a + 0 ≡ a = omega arith in e i ∷ []
numbers_push a (suc n) =
    let e : a + suc n ≡ a + 1 + n = omega arith in
    let f : suc n + 1 ≡ suc (n + 1) = omega arith in
    ap (λ (k : ℕ). a ∷ (range_with_len (a + 1) n ++ k ∷ [])) e
    ∙ ap (λ (xs : List ℕ). a ∷ xs) (numbers_push (a + 1) n)
    ∙ ap (range_with_len a) (sym f)
