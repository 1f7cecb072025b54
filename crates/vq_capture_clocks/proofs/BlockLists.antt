-- What lists of blocks say.
use Rattle.std.proofs.Common.{zero, suc, ◌≡◌, ◌<◌, ◌≤◌, ◌+◌, ◌∙◌, Bool, true, false, ℕ, List, [], ◌∷◌, ◌++◌, cond, refl, sym, ap, subst, arith, length, get_or, set, take, drop}
use Rattle.std.specs.Prelude.{nat_lt, ◌==◌, ◌/◌, ◌%◌}
use Rattle.vq_ground.proofs.Tests.{below_of_test, at_least_of_test}
use Rattle.std.proofs.Math.Seq.{take-suc}
use Rattle.std.proofs.Common.{take_all}
use Rattle.vq_capture_clocks.specs.declared.clocks.Block.{Block}
use Rattle.vq_capture_clocks.specs.Blocks.{line_at, block_says, says}
use Rattle.vq_capture_clocks.specs.Clocks.{IsBelow, join, later}
use Rattle.vq_capture_clocks.proofs.Joined.{join_nothing, nothing_join, join_turned, join_more}

-- two lists of blocks
pub says_both : (xs ys : List Block) → says (xs ++ ys) ≡ join (says xs) (says ys)
says_both [] ys = sym (nothing_join (says ys))
says_both (x ∷ xs) ys =
    ap (λ (c : ℕ → ℕ). join (block_says x) c) (says_both xs ys) ∙ sym (join_more (block_says x) (says xs) (says ys))

pub says_one : (x : Block) → says (x ∷ []) ≡ block_says x
says_one x = join_nothing (block_says x)

pub says_pushed : (xs : List Block) (x : Block) → says (xs ++ x ∷ []) ≡ join (says xs) (block_says x)
says_pushed xs x = says_both xs (x ∷ []) ∙ ap (λ (c : ℕ → ℕ). join (says xs) c) (says_one x)

swapped : (b c d : ℕ → ℕ) → join b (join c d) ≡ join (join b d) c
swapped b c d = ap (λ (e : ℕ → ℕ). join b e) (join_turned c d) ∙ sym (join_more b d c)

-- a block that is put in
pub says_put : (xs : List Block) (i : ℕ) (x : Block) → says (take i xs ++ x ∷ drop i xs) ≡ join (says xs) (block_says x)
says_put xs zero x = join_turned (block_says x) (says xs)
says_put [] (suc i) x = says_one x ∙ sym (nothing_join (block_says x))
says_put (y ∷ ys) (suc i) x =
    ap (λ (c : ℕ → ℕ). join (block_says y) c) (says_put ys i x) ∙ sym (join_more (block_says y) (says ys) (block_says x))

-- a block that says more
pub says_grown : (xs : List Block) (i : ℕ) (d x : Block) (c : ℕ → ℕ) → i < length xs → block_says x ≡ join (block_says (get_or xs i d)) c → says (set xs i x) ≡ join (says xs) c
says_grown [] i d x c l e = absurd (omega arith)
says_grown (y ∷ ys) zero d x c l e =
    ap (λ (f : ℕ → ℕ). join f (says ys)) e
    ∙ (join_more (block_says y) c (says ys) ∙ swapped (block_says y) c (says ys))
says_grown (y ∷ ys) (suc i) d x c l e =
    ap (λ (f : ℕ → ℕ). join (block_says y) f) (says_grown ys i d x c (omega arith) e)
    ∙ sym (join_more (block_says y) (says ys) c)

pub says_grown_at : (xs : List Block) (i : ℕ) (old x : Block) (c : ℕ → ℕ) → i < length xs → old ≡ get_or xs i old → block_says x ≡ join (block_says old) c → says (set xs i x) ≡ join (says xs) c
says_grown_at xs i old x c l g e = says_grown xs i old x c l (e ∙ ap (λ (y : Block). join (block_says y) c) g)

-- two blocks of one number
pub block_joined : (x y z : Block) → z.number ≡ x.number → y.number ≡ x.number → line_at z.lines ≡ join (line_at x.lines) (line_at y.lines) → block_says z ≡ join (block_says x) (block_says y)
block_joined x y z p q e = λ i k. at k i
  where
    by : (k : ℕ) (b : Bool) → cond b (line_at z.lines (k % 15)) 0 ≡ later (cond b (line_at x.lines (k % 15)) 0) (cond b (line_at y.lines (k % 15)) 0)
    by k true = ap (λ (f : ℕ → ℕ). f (k % 15)) e
    by k false = refl

    at : (k : ℕ) → block_says z k ≡ later (block_says x k) (block_says y k)
    at k =
        subst (λ (m : ℕ × ℕ). cond (k / 15 == m.0) (line_at z.lines (k % 15)) 0 ≡ later (block_says x k) (cond (k / 15 == m.1) (line_at y.lines (k % 15)) 0))
        (λ i. (sym p i, sym q i)) (by k (k / 15 == x.number))

-- one block more
pub says_next : (xs : List Block) (i : ℕ) (d : Block) → i < length xs → says (take (suc i) xs) ≡ join (says (take i xs)) (block_says (get_or xs i d))
says_next xs i d l =
    ap (λ (ys : List Block). says ys) (take-suc xs i d l) ∙ says_pushed (take i xs) (get_or xs i d)

-- what is left of others to be joined
pub joined_next : (c d : ℕ → ℕ) (now : ℕ → ℕ) (xs : List Block) (i : ℕ) (e : Block) → i < length xs → now ≡ join c (says (take i xs)) → d ≡ join now (block_says (get_or xs i e)) → d ≡ join c (says (take (i + 1) xs))
joined_next c d now xs i e l p q =
    let n : suc i ≡ i + 1 = omega arith in
    q
    ∙ (ap (λ (b : ℕ → ℕ). join b (block_says (get_or xs i e))) p
    ∙ (join_more c (says (take i xs)) (block_says (get_or xs i e))
    ∙ ap (λ (b : ℕ → ℕ). join c b) (sym (says_next xs i e l) ∙ ap (λ (k : ℕ). says (take k xs)) n)))

pub said_next : (lane now : ℕ) (xs : List Block) (i : ℕ) (e : Block) → i < length xs → now ≡ says (take i xs) lane → later now (block_says (get_or xs i e) lane) ≡ says (take (i + 1) xs) lane
said_next lane now xs i e l p =
    let n : suc i ≡ i + 1 = omega arith in
    ap (λ (m : ℕ). later m (block_says (get_or xs i e) lane)) p
    ∙ (ap (λ (c : ℕ → ℕ). c lane) (sym (says_next xs i e l)) ∙ ap (λ (k : ℕ). says (take k xs) lane) n)

pub joined_to_end : (c now : ℕ → ℕ) (xs : List Block) (i : ℕ) → length xs ≤ i → now ≡ join c (says (take i xs)) → now ≡ join c (says xs)
joined_to_end c now xs i l e = e ∙ ap (λ (ys : List Block). join c (says ys)) (take_all i xs l)

-- Clocks that say at most what another one does

pub later_most : (a b m : ℕ) → a ≤ m → b ≤ m → later a b ≤ m
later_most a b m p q = by (nat_lt a b)
  where
    by : (t : Bool) → cond t b a ≤ m
    by true = q
    by false = p

pub first_later : (a b : ℕ) → a ≤ later a b
first_later a b = by (nat_lt a b) refl
  where
    by : (t : Bool) → nat_lt a b ≡ t → a ≤ cond t b a
    by true e = let l = below_of_test a b e in omega arith
    by false e = omega arith

pub second_later : (a b : ℕ) → b ≤ later a b
second_later a b = by (nat_lt a b) refl
  where
    by : (t : Bool) → nat_lt a b ≡ t → b ≤ cond t b a
    by true e = omega arith
    by false e = at_least_of_test a b e

pub below_both : (c d e : ℕ → ℕ) → IsBelow c e → IsBelow d e → IsBelow (join c d) e
below_both c d e p q k = later_most (c k) (d k) (e k) (p k) (q k)

pub below_first : (c d : ℕ → ℕ) → IsBelow c (join c d)
below_first c d k = first_later (c k) (d k)

pub below_second : (c d : ℕ → ℕ) → IsBelow d (join c d)
below_second c d k = second_later (c k) (d k)

pub below_same : (c d : ℕ → ℕ) → c ≡ d → IsBelow c d
below_same c d e k = let q : c k ≡ d k = ap (λ (f : ℕ → ℕ). f k) e in omega arith

pub below_on : (c d e : ℕ → ℕ) → IsBelow c d → IsBelow d e → IsBelow c e
below_on c d e p q k = let l = p k in let m = q k in omega arith

pub same_below : (c d : ℕ → ℕ) → IsBelow c d → IsBelow d c → c ≡ d
same_below c d p q = λ i k. at k i
  where
    at : (k : ℕ) → c k ≡ d k
    at k = let l = p k in let m = q k in omega arith

-- what is below adds nothing
pub join_below : (c d : ℕ → ℕ) → IsBelow c d → join c d ≡ d
join_below c d p = same_below (join c d) d (below_both c d d p (below_same d d refl)) (below_second c d)

pub below_at : (xs : List Block) (i : ℕ) (d : Block) → i < length xs → IsBelow (block_says (get_or xs i d)) (says xs)
below_at [] i d l = absurd (omega arith)
below_at (y ∷ ys) zero d l = below_first (block_says y) (says ys)
below_at (y ∷ ys) (suc i) d l =
    below_on (block_says (get_or ys i d)) (says ys) (says (y ∷ ys)) (below_at ys i d (omega arith)) (below_second (block_says y) (says ys))

pub below_next : (xs : List Block) (i : ℕ) (d : Block) (c : ℕ → ℕ) → i < length xs → IsBelow (says (take i xs)) c → IsBelow (block_says (get_or xs i d)) c → IsBelow (says (take (i + 1) xs)) c
below_next xs i d c l p q =
    let n : suc i ≡ i + 1 = omega arith in
    subst (λ (k : ℕ). IsBelow (says (take k xs)) c) n
    (subst (λ (f : ℕ → ℕ). IsBelow f c) (sym (says_next xs i d l)) (below_both (says (take i xs)) (block_says (get_or xs i d)) c p q))

pub said_on : (lane number place now line : ℕ) (xs : List Block) (i : ℕ) (e : Block) → lane / 15 ≡ number → lane % 15 ≡ place → line ≡ cond (number == (get_or xs i e).number) (line_at (get_or xs i e).lines place) 0 → i < length xs → now ≡ says (take i xs) lane → later now line ≡ says (take (i + 1) xs) lane
said_on lane number place now line xs i e n p f l g =
    ap (λ (m : ℕ). later now m) (f ∙ (λ j. cond (sym n j == (get_or xs i e).number) (line_at (get_or xs i e).lines (sym p j)) 0))
    ∙ said_next lane now xs i e l g
