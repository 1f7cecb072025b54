-- What a cancel keeps.
use Rattle.std.proofs.Common.{◌≡◌, ℕ, zero, suc, ◌<◌, ◌≤◌, Bool, true, false, List, [], ◌∷◌, length, get_or, take, Some, None, refl, sym, ◌∙◌, ap, arith, subst}
use Rattle.std.specs.Prelude.{◌==◌, ◌&&◌, ◌||◌, nat_le, if◌then◌else◌}
use Rattle.std.specs.List.{list_any, remove, slice_get}
use Rattle.std.specs.List.Sorted.{IsPartitionPoint}
use Rattle.std.proofs.lemmas.Bool.Decides.{nat_tests}
use Rattle.std.proofs.lemmas.List.Edits.{length-remove}
use Rattle.std.proofs.lemmas.Option.{slice_get_within, slice_get_read}
use Rattle.std.proofs.lemmas.List.{get_or_read}
use Rattle.std.proofs.lemmas.Bool.{ne_eqb, eq-eqb}
use Rattle.vq_ground.proofs.Tests.{above_of_test}
use Rattle.vq_live.specs.declared.answers.Given.{Given}
use Rattle.vq_live.specs.declared.answers.Slot.{Slot}
use Rattle.vq_live.specs.declared.answers.CancelFault.TheVariants as cancel_as
use Rattle.vq_live.specs.Live.{Live, KeepsLive, RisesFrom, AreOut, IsUnused, CarryOnce, slot_at, pending_value, last_value}
use Rattle.vq_live.specs.Calls.{cancel_fault, is_same, without, put_slot, done_slot}
use Rattle.vq_live.specs.Places.{IsTakenAt}
use Rattle.vq_live.proofs.Slots.{out_busy, out_unused, put_free}
use Rattle.vq_live.proofs.Values.{last_above}
use Rattle.vq_live.proofs.Completing.{done_count}

-- the operation at a place
at_unused : (p k : ℕ) (xs : List Given) (y : Given) → IsUnused p xs → slice_get xs k ≡ Some y → ¬ (y.point ≡ p)
at_unused p k [] y u g = absurd (cc)
at_unused p zero (x ∷ xs) y u g = let same : x ≡ y = cc in λ e. u.0 (ap (λ (z : Given). z.point) same ∙ e)
at_unused p (suc k) (x ∷ xs) y u g = at_unused p k xs y u.1 g

pub at_out : (slots : List Slot) (k : ℕ) (xs : List Given) (y : Given) → AreOut slots xs → slice_get xs k ≡ Some y → (y.point < length slots) × ((slot_at slots y.point).out ≡ true)
at_out slots k [] y h g = absurd (cc)
at_out slots zero (x ∷ xs) y h g =
    let same : x ≡ y = cc in
    subst (λ (z : Given). (z.point < length slots) × ((slot_at slots z.point).out ≡ true)) same (h.0, h.1.0)
at_out slots (suc k) (x ∷ xs) y h g = at_out slots k xs y h.1.1 g

at_rises : (n k : ℕ) (xs : List Given) (y : Given) → RisesFrom n xs → slice_get xs k ≡ Some y → n < y.value
at_rises n k [] y h g = absurd (cc)
at_rises n zero (x ∷ xs) y h g = let same : x ≡ y = cc in subst (λ (z : Given). n < z.value) same h.0
at_rises n (suc k) (x ∷ xs) y h g = let first = h.0 in let more = at_rises x.value k xs y h.1 g in omega arith

-- what removing it keeps
remove_unused : (p k : ℕ) (xs : List Given) → IsUnused p xs → IsUnused p (remove xs k)
remove_unused p zero [] u = tt
remove_unused p zero (x ∷ xs) u = u.1
remove_unused p (suc k) [] u = tt
remove_unused p (suc k) (x ∷ xs) u = (u.0, remove_unused p k xs u.1)

remove_once : (k : ℕ) (xs : List Given) → CarryOnce xs → CarryOnce (remove xs k)
remove_once zero [] c = tt
remove_once zero (x ∷ xs) c = c.1
remove_once (suc k) [] c = tt
remove_once (suc k) (x ∷ xs) c = (remove_unused x.point k xs c.0, remove_once k xs c.1)

remove_out : (slots : List Slot) (k : ℕ) (xs : List Given) → AreOut slots xs → AreOut slots (remove xs k)
remove_out slots zero [] h = tt
remove_out slots zero (x ∷ xs) h = h.1.1
remove_out slots (suc k) [] h = tt
remove_out slots (suc k) (x ∷ xs) h = (h.0, (h.1.0, remove_out slots k xs h.1.1))

lower : (m n : ℕ) (xs : List Given) → m ≤ n → RisesFrom n xs → RisesFrom m xs
lower m n [] l h = tt
lower m n (x ∷ xs) l h = let first = h.0 in (omega arith, h.1)

remove_rises : (n k : ℕ) (xs : List Given) → RisesFrom n xs → RisesFrom n (remove xs k)
remove_rises n zero [] h = tt
remove_rises n zero (x ∷ xs) h = let first = h.0 in lower n x.value xs (omega arith) h.1
remove_rises n (suc k) [] h = tt
remove_rises n (suc k) (x ∷ xs) h = (h.0, remove_rises x.value k xs h.1)

removed_unused : (k : ℕ) (xs : List Given) (y : Given) → CarryOnce xs → slice_get xs k ≡ Some y → IsUnused y.point (remove xs k)
removed_unused k [] y c g = absurd (cc)
removed_unused zero (x ∷ xs) y c g = let same : x ≡ y = cc in subst (λ (z : Given). IsUnused z.point xs) same c.0
removed_unused (suc k) (x ∷ xs) y c g = (
  λ e. at_unused x.point k xs y c.0 g (sym e),
  removed_unused k xs y c.1 g,
)

pub remove_front : (n k : ℕ) (xs : List Given) → n ≤ k → take n (remove xs k) ≡ take n xs
remove_front zero k xs l = refl
remove_front (suc n) zero xs l = absurd (omega arith)
remove_front (suc n) (suc k) [] l = refl
remove_front (suc n) (suc k) (x ∷ xs) l = ap (λ (zs : List Given). x ∷ zs) (remove_front n k xs (omega arith))

-- it is the one with its value
removed_is : (n k : ℕ) (xs : List Given) (y : Given) → RisesFrom n xs → slice_get xs k ≡ Some y → remove xs k ≡ without y xs
removed_is n k [] y h g = absurd (cc)
removed_is n zero (x ∷ xs) y h g =
    let same : x ≡ y = cc in
    sym (ap (λ (b : Bool). if b then xs else x ∷ without y xs) (eq-eqb x.value y.value (ap (λ (z : Given). z.value) same)))
removed_is n (suc k) (x ∷ xs) y h g =
    let more = at_rises x.value k xs y h.1 g in
    ap (λ (zs : List Given). x ∷ zs) (removed_is x.value k xs y h.1 g)
    ∙ sym (ap (λ (b : Bool). if b then xs else x ∷ without y xs) (ne_eqb x.value y.value (λ e. absurd (omega arith))))

-- what is pending stands in front of it
front_left : (m n k : ℕ) (xs : List Given) (y : Given) → RisesFrom m xs → last_value m (take n xs) < y.value → slice_get xs k ≡ Some y → n ≤ k
front_left m zero k xs y h l g = omega arith
front_left m (suc n) k [] y h l g = absurd (cc)
front_left m (suc n) zero (x ∷ xs) y h l g =
    let same : x ≡ y = cc in
    let value = ap (λ (z : Given). z.value) same in
    let low = last_above x.value n xs h.1 in
    absurd (omega arith)
front_left m (suc n) (suc k) (x ∷ xs) y h l g = let rest = front_left x.value n k xs y h.1 l g in omega arith

-- which operation is the same
pub given_same : (x : Given) → is_same x x ≡ true
given_same x = ap (λ (b : Bool). b && (x.point == x.point)) (eq-eqb x.value x.value refl) ∙ eq-eqb x.point x.point refl

pub same_given : (x y : Given) → is_same x y ≡ true → x ≡ y
same_given x y e = by_value (x.value == y.value) refl e
  where
    equal : (a b : ℕ) → (a == b) ≡ true → a ≡ b
    equal a b q = grind (arith, nat_tests)

    by_value : (b : Bool) → (x.value == y.value) ≡ b → (b && (x.point == y.point)) ≡ true → x ≡ y
    by_value true v p = λ i. record { value = equal x.value y.value v i; point = equal x.point y.point p i }
    by_value false v p = absurd (cc)

any_at : (k : ℕ) (xs : List Given) (y : Given) → slice_get xs k ≡ Some y → list_any (λ x. is_same x y) xs ≡ true
any_at k [] y g = absurd (cc)
any_at zero (x ∷ xs) y g =
    let same : x ≡ y = cc in
    ap (λ (b : Bool). b || list_any (λ x. is_same x y) xs) (ap (λ (z : Given). is_same x z) (sym same) ∙ given_same x)
any_at (suc k) (x ∷ xs) y g = ap (λ (b : Bool). is_same x y || b) (any_at k xs y g) ∙ either_way (is_same x y)
  where
    either_way : (b : Bool) → (b || true) ≡ true
    either_way true = refl
    either_way false = refl

pub any_place : (xs : List Given) (y : Given) → list_any (λ x. is_same x y) xs ≡ true → (k : ℕ) × (slice_get xs k ≡ Some y)
any_place [] y h = absurd (cc)
any_place (x ∷ xs) y h = by_test (is_same x y) refl h (any_place xs y)
  where
    by_test : (b : Bool) → is_same x y ≡ b → (b || list_any (λ z. is_same z y) xs) ≡ true → (list_any (λ z. is_same z y) xs ≡ true → (k : ℕ) × (slice_get xs k ≡ Some y)) → (k : ℕ) × (slice_get (x ∷ xs) k ≡ Some y)
    by_test true e q r = (zero, ap (λ (z : Given). Some z) (same_given x y e))
    by_test false e q r = let rest = r q in (suc rest.0, rest.1)

other_value : (x y : Given) → ((x.value ≡ y.value) → ⊥) → is_same x y ≡ false
other_value x y n = ap (λ (b : Bool). b && (x.point == y.point)) (ne_eqb x.value y.value n)

above_none : (y : Given) (n : ℕ) (xs : List Given) → y.value ≤ n → RisesFrom n xs → list_any (λ x. is_same x y) xs ≡ false
above_none y n [] l h = refl
above_none y n (x ∷ xs) l h =
    let first = h.0 in
    ap (λ (b : Bool). b || list_any (λ z. is_same z y) xs) (other_value x y (λ e. absurd (omega arith)))
    ∙ above_none y x.value xs (omega arith) h.1

none_same : (y : Given) (n k : ℕ) (xs : List Given) → RisesFrom n xs → ((j : ℕ) (d : Given) → 0 ≤ j → j < k → (get_or xs j d).value < y.value) → ((j : ℕ) (d : Given) → k ≤ j → j < length xs → y.value ≤ (get_or xs j d).value) → (k < length xs → (d : Given) → is_same (get_or xs k d) y ≡ false) → list_any (λ x. is_same x y) xs ≡ false
none_same y n k [] h p q r = refl
none_same y n zero (x ∷ xs) h p q r =
    let least = q 0 x (omega arith) (omega arith) in
    ap (λ (b : Bool). b || list_any (λ z. is_same z y) xs) (r (omega arith) x)
    ∙ above_none y x.value xs least h.1
none_same y n (suc k) (x ∷ xs) h p q r =
    let below = p 0 x (omega arith) (omega arith) in
    ap (λ (b : Bool). b || list_any (λ z. is_same z y) xs) (other_value x y (λ e. absurd (omega arith)))
    ∙ none_same y x.value k xs h.1 (λ j d z l. p (suc j) d (omega arith) (omega arith)) (λ j d l m. q (suc j) d (omega arith) (omega arith)) (λ l d. r (omega arith) d)

-- an operation that was read at a place
pub other_value_at : (xs : List Given) (k : ℕ) (x y d : Given) → k < length xs → x ≡ get_or xs k x → ((x.value ≡ y.value) → ⊥) → is_same (get_or xs k d) y ≡ false
other_value_at xs k x y d l e n = ap (λ (z : Given). is_same z y) (sym (get_or_read xs k x l e d)) ∙ other_value x y n

pub other_point_at : (xs : List Given) (k : ℕ) (x y d : Given) → k < length xs → x ≡ get_or xs k x → ((x.point ≡ y.point) → ⊥) → is_same (get_or xs k d) y ≡ false
other_point_at xs k x y d l e n =
    ap (λ (z : Given). is_same z y) (sym (get_or_read xs k x l e d))
    ∙ ap (λ (b : Bool). (x.value == y.value) && b) (ne_eqb x.point y.point n)
    ∙ and_false (x.value == y.value)
  where
    and_false : (b : Bool) → (b && false) ≡ false
    and_false true = refl
    and_false false = refl

pub read_at : (xs : List Given) (k : ℕ) (x y : Given) → k < length xs → x ≡ get_or xs k x → x.value ≡ y.value → x.point ≡ y.point → slice_get xs k ≡ Some y
read_at xs k x y l e v p =
    slice_get_read xs (length xs) k x refl l e
    ∙ ap (λ (z : Given). Some z) (λ i. record { value = v i; point = p i })

-- the place of a taken operation
not_early : (t : Live) (y : Given) → pending_value t < y.value → cancel_fault t y ≡ (if list_any (λ x. is_same x y) t.ops then None else Some cancel_as.NotTaken)
not_early t y l = ap (λ (b : Bool). if b then Some cancel_as.Already else (if list_any (λ x. is_same x y) t.ops then None else Some cancel_as.NotTaken)) (not_le y.value (pending_value t) l)
  where
    not_le : (a b : ℕ) → b < a → nat_le a b ≡ false
    not_le a b q = grind (arith, nat_tests)

pub taken_at : (t : Live) (y : Given) (k : ℕ) → KeepsLive t → pending_value t < y.value → slice_get t.ops k ≡ Some y → IsTakenAt t y k
taken_at t y k kept l g =
    record {
      fine = not_early t y l ∙ ap (λ (b : Bool). if b then None else Some cancel_as.NotTaken) (any_at k t.ops y g);
      beyond = front_left t.payload t.installed k t.ops y kept.rising l g;
      bound = slice_get_within t.ops k y g;
      there = g;
      removed = removed_is t.payload k t.ops y kept.rising g;
    }

pub not_taken : (t : Live) (y : Given) (k : ℕ) → KeepsLive t → pending_value t < y.value → IsPartitionPoint (λ x. x.value < y.value) (λ x. y.value ≤ x.value) t.ops k → (k < length t.ops → (d : Given) → is_same (get_or t.ops k d) y ≡ false) → cancel_fault t y ≡ Some cancel_as.NotTaken
not_taken t y k kept l p other =
    not_early t y l
    ∙ ap (λ (b : Bool). if b then None else Some cancel_as.NotTaken) (none_same y t.payload k t.ops kept.rising p.0 p.1 other)

-- what is taken may be cancelled, and only that
cancel_none : (early taken : Bool) → (if early then Some cancel_as.Already else if taken then None else Some cancel_as.NotTaken) ≡ None → (early ≡ false) × (taken ≡ true)
cancel_none true taken h = absurd (cc)
cancel_none false true h = (refl, refl)
cancel_none false false h = absurd (cc)

pub may_cancel : (t : Live) (y : Given) → KeepsLive t → cancel_fault t y ≡ None → (k : ℕ) × IsTakenAt t y k
may_cancel t y kept h =
    let both = cancel_none (nat_le y.value (pending_value t)) (list_any (λ x. is_same x y) t.ops) h in
    let at = any_place t.ops y both.1 in
    (at.0, taken_at t y at.0 kept (above_of_test y.value (pending_value t) both.0) at.1)

pub cancel_keeps : (t : Live) (y : Given) (k : ℕ) → KeepsLive t → IsTakenAt t y k → KeepsLive (put_slot (record t { ops = remove t.ops k }) y.point (done_slot t y.point))
cancel_keeps t y k kept at =
    let out = at_out t.slots k t.ops y kept.out at.there in
    let less = done_count t.slots y.point out.0 out.1 in
    let size = length-remove t.ops k at.bound in
    let beyond = at.beyond in
    let bound = at.bound in
    let each = kept.each_out in
    record {
      rising = remove_rises t.payload k t.ops kept.rising;
      within = omega arith;
      out = out_unused t.slots (remove t.ops k) y.point (done_slot t y.point) (remove_out t.slots k t.ops kept.out) (removed_unused k t.ops y kept.once at.there);
      once = remove_once k t.ops kept.once;
      each_out = omega arith;
      points = put_free t.slots t.free y.point (done_slot t y.point) kept.points out.0 (out_busy (slot_at t.slots y.point) out.1);
    }
