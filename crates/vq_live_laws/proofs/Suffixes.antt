-- The operations of a chain's rest, with the values and the points of that rest.
use Rattle.std.proofs.Common.{◌≡◌, ℕ, zero, suc, ◌+◌, ◌<◌, ◌≤◌, Bool, false, List, [], ◌∷◌, length, get_or, set, take, drop, map, Option, Some, None, refl, ◌∙◌, ap, arith}
use Rattle.std.specs.Prelude.{◌==◌, ◌||◌, nat_lt, if◌then◌else◌}
use Rattle.std.specs.List.{list_any, slice_get}
use Rattle.std.proofs.lemmas.Bool.Decides.{nat_tests}
use Rattle.std.proofs.lemmas.List.{drop_more}
use Rattle.std.proofs.lemmas.Bool.{ne_eqb}
use Rattle.vq_ground.proofs.Tests.{below_test}
use Rattle.vq_point_laws.specs.Timeline.{entries_from}
use Rattle.vq_ground.specs.Lists.{AreRisingFrom}
use Rattle.vq_live.specs.declared.answers.Given.{Given}
use Rattle.vq_live.specs.Live.{last_value}
use Rattle.vq_live.specs.Calls.{placed}
use Rattle.vq_live_laws.specs.Feeds.{given_of}

abbrev pub zipped : List ℕ → List (Option ℕ) → List Given
zipped [] ps = []
zipped (v ∷ vs) [] = []
zipped (v ∷ vs) (None ∷ ps) = zipped vs ps
zipped (v ∷ vs) (Some p ∷ ps) = record { value = v; point = p } ∷ zipped vs ps

-- the first ones have points
abbrev pub HaveFirst : ℕ → List (Option ℕ) → Type 0
HaveFirst zero ps = Unit {0}
HaveFirst (suc n) [] = ⊥
HaveFirst (suc n) (None ∷ ps) = ⊥
HaveFirst (suc n) (Some p ∷ ps) = HaveFirst n ps

pub have_first : (n : ℕ) (ps : List (Option ℕ)) → ((j : ℕ) → j < n → ¬ (get_or ps j None ≡ None)) → HaveFirst n ps
have_first zero ps h = tt
have_first (suc n) [] h = h 0 (omega arith) refl
have_first (suc n) (None ∷ ps) h = h 0 (omega arith) refl
have_first (suc n) (Some p ∷ ps) h = have_first n ps (λ j l. h (suc j) (omega arith))

not_less : (a b : ℕ) → b < a → nat_lt a b ≡ false
not_less a b l = grind (arith, nat_tests)

-- values that rise
pub rising_at : (n : ℕ) (vs : List ℕ) (k : ℕ) → AreRisingFrom n vs → k < length vs → n < get_or vs k 0
rising_at n [] k h l = absurd (omega arith)
rising_at n (v ∷ vs) zero h l = h.0
rising_at n (v ∷ vs) (suc k) h l = let first = h.0 in let more = rising_at v vs k h.1 (omega arith) in omega arith

pub rising_drop : (n : ℕ) (vs : List ℕ) (c : ℕ) → AreRisingFrom n vs → c ≤ length vs → AreRisingFrom (get_or (n ∷ vs) c 0) (drop c vs)
rising_drop n vs zero h l = h
rising_drop n [] (suc c) h l = absurd (omega arith)
rising_drop n (v ∷ vs) (suc c) h l = rising_drop v vs c h.1 (omega arith)

-- an operation that is given its point
front : (y : Given) (n : ℕ) (vs : List ℕ) (ps : List (Option ℕ)) → y.value ≤ n → AreRisingFrom n vs → placed y (zipped vs ps) ≡ y ∷ zipped vs ps
front y n [] ps l h = refl
front y n (v ∷ vs) [] l h = refl
front y n (v ∷ vs) (None ∷ ps) l h = let first = h.0 in front y v vs ps (omega arith) h.1
front y n (v ∷ vs) (Some p ∷ ps) l h =
    let first = h.0 in
    let x : Given = record { value = v; point = p } in
    ap (λ (b : Bool). if b then x ∷ placed y (zipped vs ps) else y ∷ x ∷ zipped vs ps) (not_less v y.value (omega arith))

pub put_in : (n : ℕ) (vs : List ℕ) (ps : List (Option ℕ)) (k p : ℕ) → AreRisingFrom n vs → k < length vs → k < length ps → get_or ps k None ≡ None → placed (record { value = get_or vs k 0; point = p }) (zipped vs ps) ≡ zipped vs (set ps k (Some p))
put_in n [] ps k p h l m e = absurd (omega arith)
put_in n (v ∷ vs) [] k p h l m e = absurd (omega arith)
put_in n (v ∷ vs) (None ∷ ps) zero p h l m e = front (record { value = v; point = p }) v vs ps (omega arith) h.1
put_in n (v ∷ vs) (Some q ∷ ps) zero p h l m e = absurd (cc)
put_in n (v ∷ vs) (None ∷ ps) (suc k) p h l m e = put_in v vs ps k p h.1 (omega arith) (omega arith) e
put_in n (v ∷ vs) (Some q ∷ ps) (suc k) p h l m e =
    let more = rising_at v vs k h.1 (omega arith) in
    let x : Given = record { value = v; point = q } in
    let y : Given = record { value = get_or vs k 0; point = p } in
    ap (λ (b : Bool). if b then x ∷ placed y (zipped vs ps) else y ∷ x ∷ zipped vs ps) (below_test v (get_or vs k 0) more)
    ∙ ap (λ (xs : List Given). x ∷ xs) (put_in v vs ps k p h.1 (omega arith) (omega arith) e)

-- its value isn't there before
above_all : (w n : ℕ) (vs : List ℕ) (ps : List (Option ℕ)) → w ≤ n → AreRisingFrom n vs → list_any (λ x. x.value == w) (zipped vs ps) ≡ false
above_all w n [] ps l h = refl
above_all w n (v ∷ vs) [] l h = refl
above_all w n (v ∷ vs) (None ∷ ps) l h = let first = h.0 in above_all w v vs ps (omega arith) h.1
above_all w n (v ∷ vs) (Some p ∷ ps) l h =
    let first = h.0 in
    ap (λ (b : Bool). b || list_any (λ x. x.value == w) (zipped vs ps)) (ne_eqb v w (λ e. absurd (omega arith)))
    ∙ above_all w v vs ps (omega arith) h.1

pub value_new : (n : ℕ) (vs : List ℕ) (ps : List (Option ℕ)) (k : ℕ) → AreRisingFrom n vs → k < length vs → get_or ps k None ≡ None → list_any (λ x. x.value == get_or vs k 0) (zipped vs ps) ≡ false
value_new n [] ps k h l e = refl
value_new n (v ∷ vs) [] k h l e = refl
value_new n (v ∷ vs) (None ∷ ps) zero h l e = above_all v v vs ps (omega arith) h.1
value_new n (v ∷ vs) (Some q ∷ ps) zero h l e = absurd (cc)
value_new n (v ∷ vs) (None ∷ ps) (suc k) h l e = value_new v vs ps k h.1 (omega arith) e
value_new n (v ∷ vs) (Some q ∷ ps) (suc k) h l e =
    let more = rising_at v vs k h.1 (omega arith) in
    ap (λ (b : Bool). b || list_any (λ x. x.value == get_or vs k 0) (zipped vs ps)) (ne_eqb v (get_or vs k 0) (λ d. absurd (omega arith)))
    ∙ value_new v vs ps k h.1 (omega arith) e

-- the first ones are below it
pub first_below : (n : ℕ) (vs : List ℕ) (ps : List (Option ℕ)) (m k : ℕ) → AreRisingFrom n vs → HaveFirst m ps → m ≤ k → k < length vs → last_value n (take m (zipped vs ps)) < get_or vs k 0
first_below n vs ps zero k h f l s = rising_at n vs k h s
first_below n [] ps (suc m) k h f l s = absurd (omega arith)
first_below n (v ∷ vs) [] (suc m) k h f l s = absurd f
first_below n (v ∷ vs) (None ∷ ps) (suc m) k h f l s = absurd f
first_below n (v ∷ vs) (Some p ∷ ps) (suc m) zero h f l s = absurd (omega arith)
first_below n (v ∷ vs) (Some p ∷ ps) (suc m) (suc k) h f l s = first_below v vs ps m k h.1 f (omega arith) (omega arith)

-- the one after the first ones
pub next_at : (vs : List ℕ) (ps : List (Option ℕ)) (m p : ℕ) → HaveFirst m ps → m < length vs → get_or ps m None ≡ Some p → slice_get (zipped vs ps) m ≡ Some (record { value = get_or vs m 0; point = p })
next_at [] ps m p f l e = absurd (omega arith)
next_at (v ∷ vs) [] m p f l e = absurd (cc)
next_at (v ∷ vs) (None ∷ ps) zero p f l e = absurd (cc)
next_at (v ∷ vs) (Some q ∷ ps) zero p f l e =
    let same : q ≡ p = cc in ap (λ (r : ℕ). Some (record { value = v; point = r })) same
next_at (v ∷ vs) (None ∷ ps) (suc m) p f l e = absurd f
next_at (v ∷ vs) (Some q ∷ ps) (suc m) p f l e = next_at vs ps m p f (omega arith) e

-- the first ones are the entries of that part
pub first_entries : (values vs : List ℕ) (n m : ℕ) (ps : List (Option ℕ)) → vs ≡ drop n values → HaveFirst m ps → n + m ≤ length values → take m (zipped vs ps) ≡ map (given_of values) (entries_from n (take m ps))
first_entries values vs n zero ps e f l = refl
first_entries values vs n (suc m) [] e f l = absurd f
first_entries values vs n (suc m) (None ∷ ps) e f l = absurd f
first_entries values vs n (suc m) (Some p ∷ ps) e f l =
    let cut = e ∙ drop_more values n 0 (omega arith) in
    ap (λ (ws : List ℕ). take (suc m) (zipped ws (Some p ∷ ps))) cut
    ∙ ap (λ (xs : List Given). record { value = get_or values n 0; point = p } ∷ xs)
    (first_entries values (drop (n + 1) values) (n + 1) m ps refl f (omega arith))
