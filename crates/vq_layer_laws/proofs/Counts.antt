-- How often an operation is taken on a timeline, after each of its calls.
use Rattle.std.proofs.Common.{◌≡◌, ◌⊎◌, ℕ, zero, suc, ◌+◌, ◌-◌, ◌<◌, ◌≤◌, Bool, true, false, List, [], ◌∷◌, length, take, drop, Option, None, Some, inl, inr, refl, sym, ◌∙◌, ap, subst, arith}
use Rattle.std.specs.Prelude.{nat_lt, nat_le, ◌==◌, ◌&&◌, ◌||◌, if◌then◌else◌}
use Rattle.std.specs.List.{slice_get, list_any}
use Rattle.std.proofs.lemmas.Bool.Decides.{nat_tests}
use Rattle.std.proofs.lemmas.Bool.{and_parts}
use Rattle.vq_ground.proofs.Tests.{above_of_test, above_test, below_test}
use Rattle.vq_live.specs.declared.answers.Given.{Given}
use Rattle.vq_live.specs.declared.answers.InstallFault.TheVariants as install_as
use Rattle.vq_live.specs.declared.answers.CancelFault.TheVariants as cancel_as
use Rattle.vq_live.specs.declared.answers.TakeFault.TheVariants as take_as
use Rattle.vq_live.specs.Live.{Live, KeepsLive, RisesFrom, opened, taken, last_value, pending_value, one_if}
use Rattle.vq_live.specs.Calls.{is_same, take_fault, given_to, after_take, placed, next_fault, install_fault, after_install, cancel_fault, after_cancel, without, first_of, first_pending, complete_from}
use Rattle.vq_live.specs.Runs.{Event, IsRun, after, after_all}
use Rattle.vq_live.proofs.Cited.{event_keeps, opened_keeps, run_keeps, same_given, given_same, last_above}
use Rattle.vq_layer.proofs.Cited.{same_number, equal_true, equal_false}
use Rattle.vq_layer.specs.Installs.{is_first}
use Rattle.vq_layer_laws.specs.Lived.{HasLived}
use Rattle.vq_layer_laws.specs.Tied.{count_in}

-- a timeline that lived keeps the law of live timelines
pub lived_keeps : (t : Live) → HasLived t → KeepsLive t
lived_keeps t h = subst KeepsLive h.leads (run_keeps (opened h.initial) h.events (opened_keeps h.initial) h.run)

-- a take puts its operation among those only taken
placed_drop : (y : Given) (p n : ℕ) (ops : List Given) → RisesFrom p ops → n ≤ length ops → last_value p (take n ops) < y.value → drop n (placed y ops) ≡ placed y (drop n ops)
placed_drop y p zero ops h k l = refl
placed_drop y p (suc n) [] h k l = absurd (omega arith)
placed_drop y p (suc n) (x ∷ xs) h k l =
    let low = last_above x.value n xs h.1 in
    let less : nat_lt x.value y.value ≡ true = below_test x.value y.value (omega arith) in
    ap (λ (b : Bool). drop (suc n) (if b then x ∷ placed y xs else y ∷ x ∷ xs)) less
    ∙ placed_drop y x.value n xs h.1 (omega arith) l

count_placed : (x y : Given) (ops : List Given) → count_in x (placed y ops) ≡ one_if (is_same y x) + count_in x ops
count_placed x y [] = refl
count_placed x y (z ∷ zs) = by_test (nat_lt z.value y.value) (count_placed x y zs)
  where
    by_test : (b : Bool) → count_in x (placed y zs) ≡ one_if (is_same y x) + count_in x zs → count_in x (if b then z ∷ placed y zs else y ∷ z ∷ zs) ≡ one_if (is_same y x) + (one_if (is_same z x) + count_in x zs)
    by_test true h = omega arith
    by_test false h = refl

take_above : (t : Live) (v : ℕ) → take_fault t v ≡ None → pending_value t < v
take_above t v h = by_test (nat_le v (pending_value t)) refl h
  where
    by_test : (b : Bool) → nat_le v (pending_value t) ≡ b → (if b then Some (take_as.NotAbove (pending_value t)) else if list_any (λ x. x.value == v) t.ops then Some take_as.Twice else None) ≡ None → pending_value t < v
    by_test true e k = absurd (cc)
    by_test false e k = above_of_test v (pending_value t) e

pub count_take : (t : Live) (v : ℕ) (x : Given) → KeepsLive t → take_fault t v ≡ None → count_in x (taken (after_take t v)) ≡ one_if (is_same (given_to t v) x) + count_in x (taken t)
count_take t v x k h =
    ap (count_in x) (placed_drop (given_to t v) t.payload t.installed t.ops k.rising k.within (take_above t v h))
    ∙ count_placed x (given_to t v) (drop t.installed t.ops)

-- an install takes the next one from them
next_drop : (n : ℕ) (ops : List Given) (y : Given) → slice_get ops n ≡ Some y → drop n ops ≡ y ∷ drop (n + 1) ops
next_drop zero [] y e = absurd (cc)
next_drop zero (z ∷ zs) y e = let same : z ≡ y = cc in ap (λ (w : Given). w ∷ zs) same
next_drop (suc n) [] y e = absurd (cc)
next_drop (suc n) (z ∷ zs) y e =
    let more : suc n + 1 ≡ suc (n + 1) = omega arith in
    next_drop n zs y e ∙ ap (λ (k : ℕ). y ∷ drop k (z ∷ zs)) (sym more)

next_above : (p n : ℕ) (ops : List Given) (y : Given) → RisesFrom p ops → slice_get ops n ≡ Some y → last_value p (take n ops) < y.value
next_above p zero [] y h e = absurd (cc)
next_above p zero (z ∷ zs) y h e = let same : z ≡ y = cc in subst (λ (w : Given). p < w.value) same h.0
next_above p (suc n) [] y h e = absurd (cc)
next_above p (suc n) (z ∷ zs) y h e = next_above z.value n zs y h.1 e

-- what is first is there
pub record IsNext (t : Live) (x : Given) : Type 0 where
  pub next : slice_get t.ops t.installed ≡ Some x

pub first_is : (t : Live) (x : Given) → is_first (slice_get t.ops t.installed) x ≡ true → IsNext t x
first_is t x h = by_next (slice_get t.ops t.installed) refl h
  where
    by_next : (o : Option Given) → slice_get t.ops t.installed ≡ o → is_first o x ≡ true → IsNext t x
    by_next None e k = absurd (cc)
    by_next (Some y) e k = record { next = e ∙ ap (λ (z : Given). Some z) (same_given y x k) }

pub install_may : (t : Live) (x : Given) → KeepsLive t → IsNext t x → install_fault t x ≡ None
install_may t x k n =
    ap (λ (b : Bool). if b then Some install_as.Already else next_fault (slice_get t.ops t.installed) x) (above_test x.value (pending_value t) (next_above t.payload t.installed t.ops x k.rising n.next))
    ∙ ap (λ (o : Option Given). next_fault o x) n.next
    ∙ ap (λ (b : Bool). if b then None else Some (install_as.NotNext x)) (given_same x)

pub count_install : (t : Live) (x y : Given) → IsNext t y → one_if (is_same y x) + count_in x (taken (after_install t)) ≡ count_in x (taken t)
count_install t x y n = sym (ap (count_in x) (next_drop t.installed t.ops y n.next))

-- a completion leaves them
complete_drop : (n : ℕ) (ops : List Given) (y : Given) → first_of (take n ops) ≡ Some y → drop (n - 1) (drop 1 ops) ≡ drop n ops
complete_drop zero ops y e = absurd (cc)
complete_drop (suc n) [] y e = absurd (cc)
complete_drop (suc n) (z ∷ zs) y e = let same : suc n - 1 ≡ n = omega arith in ap (λ (k : ℕ). drop k zs) same

pub taken_complete : (t : Live) (o : Option Given) → first_pending t ≡ o → taken (complete_from t o) ≡ taken t
taken_complete t None e = refl
taken_complete t (Some y) e = complete_drop t.installed t.ops y e

-- a cancel takes one from them
abbrev pub IsIn : Given → List Given → Type 0
IsIn x [] = ⊥
IsIn x (y ∷ ys) = (y ≡ x) ⊎ IsIn x ys

pub some_in : (x : Given) (ys : List Given) → 0 < count_in x ys → IsIn x ys
some_in x [] h = absurd (omega arith)
some_in x (y ∷ ys) h = by_test (is_same y x) refl h (some_in x ys)
  where
    by_test : (b : Bool) → is_same y x ≡ b → 0 < one_if b + count_in x ys → (0 < count_in x ys → IsIn x ys) → IsIn x (y ∷ ys)
    by_test true e k rest = inl (same_given y x e)
    by_test false e k rest = inr (rest (omega arith))

pub in_some : (x : Given) (ys : List Given) → IsIn x ys → 0 < count_in x ys
in_some x [] h = absurd h
in_some x (y ∷ ys) (inl e) =
    let one : one_if (is_same y x) ≡ 1 = ap (λ (z : Given). one_if (is_same z x)) e ∙ ap one_if (given_same x) in omega arith
in_some x (y ∷ ys) (inr i) = let rest = in_some x ys i in omega arith

pub rises_in : (p : ℕ) (ops : List Given) (y : Given) → RisesFrom p ops → IsIn y ops → p < y.value
rises_in p [] y h i = absurd i
rises_in p (x ∷ xs) y h (inl e) = subst (λ (z : Given). p < z.value) e h.0
rises_in p (x ∷ xs) y h (inr i) = let rest = rises_in x.value xs y h.1 i in let low = h.0 in omega arith

pub rises_drop : (p n : ℕ) (ops : List Given) → RisesFrom p ops → RisesFrom (last_value p (take n ops)) (drop n ops)
rises_drop p zero ops h = h
rises_drop p (suc n) [] h = tt
rises_drop p (suc n) (x ∷ xs) h = rises_drop x.value n xs h.1

without_drop : (y : Given) (p n : ℕ) (ops : List Given) → RisesFrom p ops → n ≤ length ops → last_value p (take n ops) < y.value → drop n (without y ops) ≡ without y (drop n ops)
without_drop y p zero ops h k l = refl
without_drop y p (suc n) [] h k l = absurd (omega arith)
without_drop y p (suc n) (x ∷ xs) h k l =
    let low = last_above x.value n xs h.1 in
    let other : (x.value == y.value) ≡ false = equal_false x.value y.value (λ e. absurd (omega arith)) in
    ap (λ (b : Bool). drop (suc n) (if b then xs else x ∷ without y xs)) other
    ∙ without_drop y x.value n xs h.1 (omega arith) l

count_without : (x y : Given) (p : ℕ) (ops : List Given) → RisesFrom p ops → IsIn y ops → one_if (is_same y x) + count_in x (without y ops) ≡ count_in x ops
count_without x y p [] h i = absurd i
count_without x y p (z ∷ zs) h (inl e) =
    ap (λ (b : Bool). one_if (is_same y x) + count_in x (if b then zs else z ∷ without y zs)) (equal_true z.value y.value (ap (λ (w : Given). w.value) e))
    ∙ ap (λ (w : Given). one_if (is_same w x) + count_in x zs) (sym e)
count_without x y p (z ∷ zs) h (inr i) =
    let low = rises_in z.value zs y h.1 i in
    let other : (z.value == y.value) ≡ false = equal_false z.value y.value (λ e. absurd (omega arith)) in
    let rest = count_without x y z.value zs h.1 i in
    ap (λ (b : Bool). one_if (is_same y x) + count_in x (if b then zs else z ∷ without y zs)) other ∙ omega arith

in_any : (y : Given) (ops : List Given) → IsIn y ops → list_any (λ x. is_same x y) ops ≡ true
in_any y [] i = absurd i
in_any y (x ∷ xs) (inl e) = ap (λ (b : Bool). b || list_any (λ z. is_same z y) xs) (ap (λ (z : Given). is_same z y) e ∙ given_same y)
in_any y (x ∷ xs) (inr i) = by_test (is_same x y) (in_any y xs i)
  where
    by_test : (b : Bool) → list_any (λ z. is_same z y) xs ≡ true → (b || list_any (λ z. is_same z y) xs) ≡ true
    by_test true e = refl
    by_test false e = e

in_drop : (y : Given) (n : ℕ) (ops : List Given) → IsIn y (drop n ops) → IsIn y ops
in_drop y zero ops i = i
in_drop y (suc n) [] i = i
in_drop y (suc n) (x ∷ xs) i = inr (in_drop y n xs i)

pub cancel_may : (t : Live) (y : Given) → KeepsLive t → IsIn y (taken t) → cancel_fault t y ≡ None
cancel_may t y k i =
    let high = rises_in (pending_value t) (taken t) y (rises_drop t.payload t.installed t.ops k.rising) i in
    ap (λ (b : Bool). if b then Some cancel_as.Already else if list_any (λ x. is_same x y) t.ops then None else Some cancel_as.NotTaken) (above_test y.value (pending_value t) high)
    ∙ ap (λ (b : Bool). if b then None else Some cancel_as.NotTaken) (in_any y t.ops (in_drop y t.installed t.ops i))

pub count_cancel : (t : Live) (x y : Given) → KeepsLive t → IsIn y (taken t) → one_if (is_same y x) + count_in x (taken (after_cancel t y)) ≡ count_in x (taken t)
count_cancel t x y k i =
    let rises = rises_drop t.payload t.installed t.ops k.rising in
    let high = rises_in (pending_value t) (taken t) y rises i in
    ap (λ (xs : List Given). one_if (is_same y x) + count_in x xs) (without_drop y t.payload t.installed t.ops k.rising k.within high)
    ∙ count_without x y (pending_value t) (taken t) rises i
