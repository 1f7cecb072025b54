-- Clocks, lane by lane.
use Rattle.std.proofs.Common.{◌≡◌, ◌≢◌, ◌<◌, ◌≤◌, ◌+◌, ◌∙◌, Bool, true, false, ℕ, List, cond, refl, sym, ap, subst, arith, length, set}
use Rattle.std.specs.Prelude.{nat_lt, ◌==◌, ◌||◌, if◌then◌else◌}
use Rattle.std.proofs.lemmas.List.{get_or_past, get_or-set_same, get_or-set_other}
use Rattle.std.proofs.lemmas.Bool.{eqb-true, eq-eqb}
use Rattle.vq_ground.proofs.Bools.{never}
use Rattle.vq_ground.proofs.Tests.{below_test, not_below_test, below_of_test, at_least_of_test}
use Rattle.vq_capture_clocks.specs.Blocks.{line_at}
use Rattle.vq_capture_clocks.specs.Clocks.{join, raise, later, no_clock}

-- a clock that line_at of the lanes above one what one of two does
abbrev pub joined_to : (ℕ → ℕ) → (ℕ → ℕ) → ℕ → ℕ → ℕ
joined_to c d n = λ k. if nat_lt k n then later (c k) (d k) else c k

pub joined_none : (c d : ℕ → ℕ) → c ≡ joined_to c d 0
joined_none c d = λ i k. at k i
  where
    at : (k : ℕ) → c k ≡ joined_to c d 0 k
    at k = sym (ap (λ (b : Bool). cond b (later (c k) (d k)) (c k)) (not_below_test k 0 (omega arith)))

pub same_of_test : (k n : ℕ) → (k == n) ≡ true → k ≡ n
same_of_test k n e = eqb-true k n e

pub other_of_test : (k n : ℕ) → (k == n) ≡ false → k ≢ n
other_of_test k n e = λ q. never (sym e ∙ (ap (λ (m : ℕ). m == n) q ∙ eq-eqb n n refl))

pub joined_more : (c d : ℕ → ℕ) (n : ℕ) → raise (joined_to c d n) n (d n) ≡ joined_to c d (n + 1)
joined_more c d n = λ i k. at k i
  where
    case : (k : ℕ) (b : Bool) → (k == n) ≡ b →
        cond b (later (joined_to c d n k) (d n)) (joined_to c d n k) ≡ joined_to c d (n + 1) k
    case k true e =
        let q : k ≡ n = same_of_test k n e in
        ap (λ (x : Bool). later (cond x (later (c k) (d k)) (c k)) (d n)) (not_below_test k n (omega arith))
        ∙ (ap (λ (m : ℕ). later (c k) (d m)) (sym q)
        ∙ sym (ap (λ (x : Bool). cond x (later (c k) (d k)) (c k)) (below_test k (n + 1) (omega arith))))
    case k false e = by_test (nat_lt k n) refl
      where
        other : k ≢ n
        other = other_of_test k n e

        by_test : (t : Bool) → nat_lt k n ≡ t → cond t (later (c k) (d k)) (c k) ≡ joined_to c d (n + 1) k
        by_test true f =
            let l = below_of_test k n f in
            sym (ap (λ (x : Bool). cond x (later (c k) (d k)) (c k)) (below_test k (n + 1) (omega arith)))
        by_test false f =
            let l = at_least_of_test k n f in
            let m : n + 1 ≤ k = above k n l other in
            sym (ap (λ (x : Bool). cond x (later (c k) (d k)) (c k)) (not_below_test k (n + 1) m))
          where
            above : (k n : ℕ) → n ≤ k → k ≢ n → n + 1 ≤ k
            above k n l o = omega arith

    at : (k : ℕ) → raise (joined_to c d n) n (d n) k ≡ joined_to c d (n + 1) k
    at k = case k (k == n) refl

pub joined_step : (c : ℕ → ℕ) (xs zs ys : List ℕ) (n line : ℕ) → line_at xs ≡ joined_to c (line_at ys) n → line_at zs ≡ raise (line_at xs) n line → line ≡ line_at ys n → line_at zs ≡ joined_to c (line_at ys) (n + 1)
joined_step c xs zs ys n line e f g =
    f
    ∙ ((λ i. raise (e i) n (g i))
    ∙ joined_more c (line_at ys) n)

pub later_none : (n : ℕ) → later n 0 ≡ n
later_none n = ap (λ (b : Bool). cond b 0 n) (not_below_test n 0 (omega arith))

-- a clock that line_at nothing adds nothing
pub join_nothing : (c : ℕ → ℕ) → join c no_clock ≡ c
join_nothing c = λ i k. later_none (c k) i

-- all lanes of a list are joined
pub joined_all : (c : ℕ → ℕ) (ys : List ℕ) → joined_to c (line_at ys) (length ys) ≡ join c (line_at ys)
joined_all c ys = λ i k. at k i
  where
    at : (k : ℕ) → joined_to c (line_at ys) (length ys) k ≡ join c (line_at ys) k
    at k = by_test (nat_lt k (length ys)) refl
      where
        by_test : (t : Bool) → nat_lt k (length ys) ≡ t →
            cond t (later (c k) (line_at ys k)) (c k) ≡ later (c k) (line_at ys k)
        by_test true e = refl
        by_test false e =
            sym (ap (λ (n : ℕ). later (c k) n) (get_or_past ys k 0 (at_least_of_test k (length ys) e)) ∙ later_none (c k))

pub joined_whole : (c : ℕ → ℕ) (xs ys : List ℕ) (n : ℕ) → n ≤ length ys → length ys ≤ n → line_at xs ≡ joined_to c (line_at ys) n → line_at xs ≡ join c (line_at ys)
joined_whole c xs ys n l m e =
    let q : n ≡ length ys = omega arith in
    e ∙ (ap (λ (k : ℕ). joined_to c (line_at ys) k) q ∙ joined_all c ys)

-- a lane that is set
pub line_set : (xs : List ℕ) (lane line : ℕ) → lane < length xs → nat_lt (line_at xs lane) line ≡ true → line_at (set xs lane line) ≡ raise (line_at xs) lane line
line_set xs lane line l t = λ i k. at k i
  where
    case : (k : ℕ) (b : Bool) → (k == lane) ≡ b → line_at (set xs lane line) k ≡ cond b (later (line_at xs k) line) (line_at xs k)
    case k true e =
        let q : k ≡ lane = same_of_test k lane e in
        subst (λ (m : ℕ). line_at (set xs lane line) m ≡ later (line_at xs m) line) (sym q)
        (get_or-set_same xs lane line 0 l ∙ sym (ap (λ (b : Bool). cond b line (line_at xs lane)) t))
    case k false e = get_or-set_other xs lane k line 0 (other_of_test k lane e)

    at : (k : ℕ) → line_at (set xs lane line) k ≡ raise (line_at xs) lane line k
    at k = case k (k == lane) refl

-- a lane that stays
pub line_kept : (xs : List ℕ) (lane line : ℕ) → nat_lt (line_at xs lane) line ≡ false → line_at xs ≡ raise (line_at xs) lane line
line_kept xs lane line t = λ i k. at k i
  where
    case : (k : ℕ) (b : Bool) → (k == lane) ≡ b → line_at xs k ≡ cond b (later (line_at xs k) line) (line_at xs k)
    case k true e =
        let q : k ≡ lane = same_of_test k lane e in
        subst (λ (m : ℕ). line_at xs m ≡ later (line_at xs m) line) (sym q)
        (sym (ap (λ (b : Bool). cond b line (line_at xs lane)) t))
    case k false e = refl

    at : (k : ℕ) → line_at xs k ≡ raise (line_at xs) lane line k
    at k = case k (k == lane) refl

-- Later lines, in any order

pub tells_later : (l a b : ℕ) → nat_lt l (later a b) ≡ (nat_lt l a || nat_lt l b)
tells_later l a b = by (nat_lt a b) refl
  where
    second : nat_lt a b ≡ true → (s : Bool) → nat_lt l a ≡ s → nat_lt l b ≡ (s || nat_lt l b)
    second e true f =
        let p = below_of_test a b e in
        let q = below_of_test l a f in
        below_test l b (omega arith)
    second e false f = refl

    first : nat_lt a b ≡ false → (s : Bool) → nat_lt l a ≡ s → s ≡ (s || nat_lt l b)
    first e true f = refl
    first e false f =
        let p = at_least_of_test a b e in
        let q = at_least_of_test l a f in
        sym (not_below_test l b (omega arith))

    by : (t : Bool) → nat_lt a b ≡ t → nat_lt l (cond t b a) ≡ (nat_lt l a || nat_lt l b)
    by true e = second e (nat_lt l a) refl
    by false e = first e (nat_lt l a) refl

-- lines that are above the same lines are the same
pub same_lines : (a b : ℕ) → ((l : ℕ) → nat_lt l a ≡ nat_lt l b) → a ≡ b
same_lines a b f = by (nat_lt a b) (nat_lt b a) refl refl
  where
    by : (s t : Bool) → nat_lt a b ≡ s → nat_lt b a ≡ t → a ≡ b
    by true t e g = never (sym (not_below_test a a (omega arith)) ∙ (f a ∙ e))
    by false true e g = never (sym (not_below_test b b (omega arith)) ∙ (sym (f b) ∙ g))
    by false false e g =
        let p = at_least_of_test a b e in
        let q = at_least_of_test b a g in
        omega arith

pub later_nothing : (n : ℕ) → later 0 n ≡ n
later_nothing n = same_lines (later 0 n) n (λ l. tells_later l 0 n ∙ ap (λ (b : Bool). b || nat_lt l n) (not_below_test l 0 (omega arith)))

pub later_turned : (a b : ℕ) → later a b ≡ later b a
later_turned a b = same_lines (later a b) (later b a) (λ l. tells_later l a b ∙ (either (nat_lt l a) (nat_lt l b) ∙ sym (tells_later l b a)))
  where
    either : (s t : Bool) → (s || t) ≡ (t || s)
    either true true = refl
    either true false = refl
    either false true = refl
    either false false = refl

pub later_more : (a b c : ℕ) → later (later a b) c ≡ later a (later b c)
later_more a b c =
    same_lines (later (later a b) c) (later a (later b c))
    (λ l. tells_later l (later a b) c ∙ (ap (λ (t : Bool). t || nat_lt l c) (tells_later l a b)
    ∙ (either (nat_lt l a) (nat_lt l b) (nat_lt l c)
    ∙ sym (tells_later l a (later b c) ∙ ap (λ (t : Bool). nat_lt l a || t) (tells_later l b c)))))
  where
    either : (r s t : Bool) → ((r || s) || t) ≡ (r || (s || t))
    either true s t = refl
    either false s t = refl

pub later_again : (a b : ℕ) → later (later a b) b ≡ later a b
later_again a b =
    same_lines (later (later a b) b) (later a b)
    (λ l. tells_later l (later a b) b ∙ (ap (λ (t : Bool). t || nat_lt l b) (tells_later l a b)
    ∙ (either (nat_lt l a) (nat_lt l b) ∙ sym (tells_later l a b))))
  where
    either : (s t : Bool) → ((s || t) || t) ≡ (s || t)
    either true t = refl
    either false true = refl
    either false false = refl

-- Clocks likewise

pub nothing_join : (c : ℕ → ℕ) → join no_clock c ≡ c
nothing_join c = λ i k. later_nothing (c k) i

pub join_turned : (c d : ℕ → ℕ) → join c d ≡ join d c
join_turned c d = λ i k. later_turned (c k) (d k) i

pub join_more : (c d e : ℕ → ℕ) → join (join c d) e ≡ join c (join d e)
join_more c d e = λ i k. later_more (c k) (d k) (e k) i

pub join_again : (c d : ℕ → ℕ) → join (join c d) d ≡ join c d
join_again c d = λ i k. later_again (c k) (d k) i
