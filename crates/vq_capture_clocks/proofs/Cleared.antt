-- Clocks that tell the same without what isn't asked.
use Rattle.std.proofs.Common.{zero, suc, ◌≡◌, ◌≢◌, ◌<◌, ◌≤◌, ◌+◌, ◌∙◌, Bool, true, false, ℕ, List, [], ◌∷◌, cond, filter, refl, sym, ap, subst, arith, length, get_or, set, take}
use Rattle.std.specs.Prelude.{nat_lt, ◌==◌, ◌&&◌, ◌||◌, not, ◌/◌, ◌%◌}
use Rattle.std.specs.List.{list_all}
use Rattle.std.proofs.lemmas.List.{get_or-set_same, get_or-set_other}
use Rattle.std.proofs.lemmas.Bool.{eqb-true, eq-eqb}
use Rattle.vq_ground.proofs.Bools.{never}
use Rattle.vq_ground.proofs.Tests.{not_below_test}
use Rattle.vq_capture_clocks.specs.declared.clocks.Block.{Block}
use Rattle.vq_capture_clocks.specs.declared.groups.Group.{Group}
use Rattle.vq_capture_clocks.specs.Blocks.{block_says, is_nothing, line_at, says}
use Rattle.vq_capture_clocks.specs.Cells.{cell_in}
use Rattle.vq_capture_clocks.specs.Clocks.{TellsAs, join, no_clock}
use Rattle.vq_capture_clocks.specs.LaneSets.{has_lane}
use Rattle.vq_capture_clocks.proofs.Joined.{nothing_join, same_of_test, other_of_test, tells_later}

pub tells_itself : (least c : ℕ → ℕ) → TellsAs least c c
tells_itself least c = λ line lane l. refl

pub tells_twice : (least c d e : ℕ → ℕ) → TellsAs least c d → TellsAs least d e → TellsAs least c e
tells_twice least c d e p q = λ line lane l. p line lane l ∙ q line lane l

pub tells_same : (least c d : ℕ → ℕ) → c ≡ d → TellsAs least c d
tells_same least c d e = λ line lane l. ap (λ (f : ℕ → ℕ). nat_lt line (f lane)) e

tells_join : (least c d e f : ℕ → ℕ) → TellsAs least c d → TellsAs least e f → TellsAs least (join c e) (join d f)
tells_join least c d e f p q = λ line lane l.
    tells_later line (c lane) (e lane) ∙ ((λ i. p line lane l i || q line lane l i) ∙ sym (tells_later line (d lane) (f lane)))

-- a line that may go
pub tells_cleared : (xs : List ℕ) (place line : ℕ) → place < length xs → get_or xs place 0 ≤ line → (least : ℕ → ℕ) → line ≡ least place → TellsAs least (line_at (set xs place 0)) (line_at xs)
tells_cleared xs place line l m least e = λ n k p. by n k p (k == place) refl
  where
    by : (n k : ℕ) → least k ≤ n → (b : Bool) → (k == place) ≡ b → nat_lt n (line_at (set xs place 0) k) ≡ nat_lt n (line_at xs k)
    by n k p true q =
        let here : k ≡ place = same_of_test k place q in
        let low : line_at xs k ≤ n =
        (let at : line_at xs place ≤ line = m in
        let is : line_at xs k ≡ line_at xs place = ap (λ (j : ℕ). line_at xs j) here in
        let floor : least k ≡ least place = ap (λ (j : ℕ). least j) here in
        omega arith) in
        let none : line_at (set xs place 0) k ≡ 0 =
        ap (λ (j : ℕ). line_at (set xs place 0) j) here ∙ get_or-set_same xs place 0 0 l in
        ap (λ (j : ℕ). nat_lt n j) none
        ∙ (not_below_test n 0 (omega arith)
        ∙ sym (not_below_test n (line_at xs k) low))
    by n k p false q = ap (λ (j : ℕ). nat_lt n j) (get_or-set_other xs place k 0 0 (other_of_test k place q))

-- lines, and a block of them
pub tells_block : (least : ℕ → ℕ) (x y : Block) (f : ℕ → ℕ) → y.number ≡ x.number → ((k : ℕ) → (k / 15 == x.number) ≡ true → f (k % 15) ≡ least k) → TellsAs f (line_at y.lines) (line_at x.lines) → TellsAs least (block_says y) (block_says x)
tells_block least x y f e g h = λ line k l.
    ap (λ (n : ℕ). nat_lt line (cond (k / 15 == n) (line_at y.lines (k % 15)) 0)) e ∙ by line k l (k / 15 == x.number) refl
  where
    by : (line k : ℕ) → least k ≤ line → (b : Bool) → (k / 15 == x.number) ≡ b → nat_lt line (cond b (line_at y.lines (k % 15)) 0) ≡ nat_lt line (cond b (line_at x.lines (k % 15)) 0)
    by line k l true q = h line (k % 15) (subst (λ (n : ℕ). n ≤ line) (sym (g k q)) l)
    by line k l false q = refl

-- one block of some
pub tells_set : (least : ℕ → ℕ) (xs : List Block) (i : ℕ) (old new : Block) → i < length xs → old ≡ get_or xs i old → TellsAs least (block_says new) (block_says old) → TellsAs least (says (set xs i new)) (says xs)
tells_set least [] i old new l q e = absurd (omega arith)
tells_set least (x ∷ xs) zero old new l q e =
    tells_join least (block_says new) (block_says x) (says xs) (says xs)
    (subst (λ (y : Block). TellsAs least (block_says new) (block_says y)) q e) (tells_itself least (says xs))
tells_set least (x ∷ xs) (suc i) old new l q e =
    tells_join least (block_says x) (block_says x) (says (set xs i new)) (says xs) (tells_itself least (block_says x)) (tells_set least xs i old new (omega arith) q e)

-- one group of some
pub tells_group : (least : ℕ → ℕ) (xs : List Group) (i : ℕ) (old new : Group) → i < length xs → old ≡ get_or xs i old → new.lanes ≡ old.lanes → TellsAs least (says new.clock.items) (says old.clock.items) → (p : ℕ) → TellsAs least (cell_in (set xs i new) p) (cell_in xs p)
tells_group least [] i old new l q f e p = absurd (omega arith)
tells_group least (x ∷ xs) zero old new l q f e p =
    subst (λ (n : ℕ). TellsAs least (cond (has_lane n p) (says new.clock.items) (cell_in xs p)) (cell_in (x ∷ xs) p)) (sym (f ∙ ap (λ (y : Group). y.lanes) q))
    (by (has_lane x.lanes p))
  where
    by : (b : Bool) → TellsAs least (cond b (says new.clock.items) (cell_in xs p)) (cond b (says x.clock.items) (cell_in xs p))
    by true = subst (λ (y : Group). TellsAs least (says new.clock.items) (says y.clock.items)) q e
    by false = tells_itself least (cell_in xs p)
tells_group least (x ∷ xs) (suc i) old new l q f e p = by (has_lane x.lanes p) (tells_group least xs i old new (omega arith) q f e p)
  where
    by : (b : Bool) → TellsAs least (cell_in (set xs i new) p) (cell_in xs p) → TellsAs least (cond b (says x.clock.items) (cell_in (set xs i new) p)) (cond b (says x.clock.items) (cell_in xs p))
    by true g = tells_itself least (says x.clock.items)
    by false g = g

-- Blocks that say nothing

none_at : (xs : List ℕ) → list_all (λ line. line == 0) xs ≡ true → (p : ℕ) → line_at xs p ≡ 0
none_at [] e zero = refl
none_at [] e (suc p) = refl
none_at (x ∷ xs) e zero = eqb-true x 0 (first (x == 0) (list_all (λ line. line == 0) xs) e)
  where
    first : (s t : Bool) → (s && t) ≡ true → s ≡ true
    first true t f = refl
    first false t f = never f
none_at (x ∷ xs) e (suc p) = none_at xs (second (x == 0) (list_all (λ line. line == 0) xs) e) p
  where
    second : (s t : Bool) → (s && t) ≡ true → t ≡ true
    second true t f = f
    second false t f = never f

nothing_said : (x : Block) → is_nothing x ≡ true → block_says x ≡ no_clock
nothing_said x e = λ i k. at k i
  where
    by : (k : ℕ) (b : Bool) → cond b (line_at x.lines (k % 15)) 0 ≡ 0
    by k true = none_at x.lines e (k % 15)
    by k false = refl

    at : (k : ℕ) → block_says x k ≡ 0
    at k = by k (k / 15 == x.number)

pub says_left : (xs : List Block) → says (filter (λ x. not (is_nothing x)) xs) ≡ says xs
says_left [] = refl
says_left (x ∷ xs) = by (is_nothing x) refl (says_left xs)
  where
    by : (b : Bool) → is_nothing x ≡ b → says (filter (λ x. not (is_nothing x)) xs) ≡ says xs →
        says (cond (not b) (x ∷ filter (λ x. not (is_nothing x)) xs) (filter (λ x. not (is_nothing x)) xs)) ≡ join (block_says x) (says xs)
    by true e f = f ∙ (sym (nothing_join (says xs)) ∙ ap (λ (c : ℕ → ℕ). join c (says xs)) (sym (nothing_said x e)))
    by false e f = ap (λ (c : ℕ → ℕ). join (block_says x) c) f

-- some lines more of which all are nothing
pub all_next : (xs : List ℕ) (i d : ℕ) → i < length xs → list_all (λ line. line == 0) (take i xs) ≡ true → get_or xs i d ≡ 0 → list_all (λ line. line == 0) (take (i + 1) xs) ≡ true
all_next xs i d l e f =
    let n : i + 1 ≡ suc i = omega arith in
    ap (λ (k : ℕ). list_all (λ line. line == 0) (take k xs)) n ∙ at xs i l e f
  where
    at : (xs : List ℕ) (i : ℕ) → i < length xs → list_all (λ line. line == 0) (take i xs) ≡ true → get_or xs i d ≡ 0 → list_all (λ line. line == 0) (take (suc i) xs) ≡ true
    at [] i l e f = absurd (omega arith)
    at (x ∷ xs) zero l e f = (λ i. eq-eqb x 0 f i && true)
    at (x ∷ xs) (suc i) l e f = by (x == 0) e (λ g. at xs i (omega arith) g f)
      where
        by : (b : Bool) → (b && list_all (λ line. line == 0) (take i xs)) ≡ true → (list_all (λ line. line == 0) (take i xs) ≡ true → list_all (λ line. line == 0) (take (suc i) xs) ≡ true) →
            (b && list_all (λ line. line == 0) (take (suc i) xs)) ≡ true
        by true e g = g e
        by false e g = e

pub not_all : (xs : List ℕ) (i d : ℕ) → i < length xs → get_or xs i d ≢ 0 → list_all (λ line. line == 0) xs ≡ false
not_all [] i d l f = absurd (omega arith)
not_all (x ∷ xs) zero d l f = by (x == 0) refl
  where
    by : (b : Bool) → (x == 0) ≡ b → (b && list_all (λ line. line == 0) xs) ≡ false
    by true e = absurd (f (eqb-true x 0 e))
    by false e = refl
not_all (x ∷ xs) (suc i) d l f = by (x == 0) (not_all xs i d (omega arith) f)
  where
    by : (b : Bool) → list_all (λ line. line == 0) xs ≡ false → (b && list_all (λ line. line == 0) xs) ≡ false
    by true e = e
    by false e = refl

-- groups that say nothing
pub none_more : (xs : List Group) (i : ℕ) (d : Group) → i < length xs → ((p : ℕ) → cell_in (take i xs) p ≡ no_clock) → says (get_or xs i d).clock.items ≡ no_clock → (p : ℕ) → cell_in (take (i + 1) xs) p ≡ no_clock
none_more xs i d l f e p =
    let n : i + 1 ≡ suc i = omega arith in
    ap (λ (k : ℕ). cell_in (take k xs) p) n ∙ at xs i l (f p) e
  where
    at : (xs : List Group) (i : ℕ) → i < length xs → cell_in (take i xs) p ≡ no_clock → says (get_or xs i d).clock.items ≡ no_clock → cell_in (take (suc i) xs) p ≡ no_clock
    at [] i l f e = absurd (omega arith)
    at (x ∷ xs) zero l f e = by (has_lane x.lanes p)
      where
        by : (b : Bool) → cond b (says x.clock.items) no_clock ≡ no_clock
        by true = e
        by false = refl
    at (x ∷ xs) (suc i) l f e = by (has_lane x.lanes p) f (λ g. at xs i (omega arith) g e)
      where
        by : (b : Bool) → cond b (says x.clock.items) (cell_in (take i xs) p) ≡ no_clock → (cell_in (take i xs) p ≡ no_clock → cell_in (take (suc i) xs) p ≡ no_clock) →
            cond b (says x.clock.items) (cell_in (take (suc i) xs) p) ≡ no_clock
        by true f g = f
        by false f g = g f

pub says_empty : (xs : List Block) → length xs ≡ 0 → says xs ≡ no_clock
says_empty [] e = refl
says_empty (x ∷ xs) e = absurd (omega arith)

pub none_more_at : (xs : List Group) (i : ℕ) (x : Group) → i < length xs → x ≡ get_or xs i x → ((p : ℕ) → cell_in (take i xs) p ≡ no_clock) → says x.clock.items ≡ no_clock → (p : ℕ) → cell_in (take (i + 1) xs) p ≡ no_clock
none_more_at xs i x l q f e = none_more xs i x l f (ap (λ (y : Group). says y.clock.items) (sym q) ∙ e)
