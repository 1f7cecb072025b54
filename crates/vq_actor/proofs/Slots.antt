-- References by the need for which they are held.
use Rattle.std.proofs.Common.{◌≡◌, ℕ, zero, suc, ◌+◌, ◌<◌, ◌≤◌, ◌==◌, nat_lt, Bool, true, false, if◌then◌else◌, List, [], ◌∷◌}
use Rattle.std.proofs.Common.{length, map, set, get_or, Option, Some, None, refl, sym, ap, subst, ◌∙◌, arith, inl}
use Rattle.std.proofs.Common.{inr}
use Rattle.std.specs.List.{slice_get, range_with_len}
use Rattle.std.specs.Option.{option_map}
use Rattle.std.proofs.lemmas.Option.{slice_get-get_or}
use Rattle.std.proofs.lemmas.Bool.{eq-eqb, ne_eqb, lt-ltb, le-ltb, cases_lt}
use Rattle.vq_turns.specs.declared.look.Holding.{Holding}
use Rattle.vq_turns.specs.Turns.{held_for, with_holding}
use Rattle.vq_actor.specs.declared.held.Held.{Held}
use Rattle.vq_actor.specs.Positions.{holding_of, holding_from, IsFirstHeld}

abbrev Slots : Type 0
Slots = List (Option Held)

abbrev found : Option Held → Option (Option Held)
found o = Some o

other_number : (a b : ℕ) → (a ≡ b → ⊥) → (a == b) ≡ false
other_number a b h = ne_eqb a b h

-- what is held for later needs
held_below : (xs : Slots) (a k : ℕ) → k < a → held_for k (holding_from a xs) ≡ None
held_below [] a k h = refl
held_below (None ∷ xs) a k h = held_below xs (a + 1) k (omega arith)
held_below (Some x ∷ xs) a k h =
    let isnt : (a == k) ≡ false = other_number a k (omega arith) in
    ap (λ b. if b then Some (holding_of a x) else held_for k (holding_from (a + 1) xs)) isnt
    ∙ held_below xs (a + 1) k (omega arith)

held_at : (xs : Slots) (a i : ℕ) (h : Held) → slice_get xs i ≡ Some (Some h) →
    held_for (a + i) (holding_from a xs) ≡ Some (holding_of (a + i) h)
held_at [] a i h e = absurd (cc)
held_at (None ∷ xs) a zero h e = absurd (cc)
held_at (Some x ∷ xs) a zero h e =
    let same : x ≡ h = cc in
    let at : a + 0 ≡ a = omega arith in
    let is : (a == a + 0) ≡ true = eq-eqb a (a + 0) (omega arith) in
    ap (λ b. if b then Some (holding_of a x) else held_for (a + 0) (holding_from (a + 1) xs)) is
    ∙ (ap (λ (y : Held). Some (holding_of a y)) same ∙ ap (λ (k : ℕ). Some (holding_of k h)) (sym at))
held_at (None ∷ xs) a (suc i) h e =
    let at : (a + 1) + i ≡ a + suc i = omega arith in
    subst (λ (k : ℕ). held_for k (holding_from (a + 1) xs) ≡ Some (holding_of k h)) at (held_at xs (a + 1) i h e)
held_at (Some x ∷ xs) a (suc i) h e =
    let at : (a + 1) + i ≡ a + suc i = omega arith in
    let isnt : (a == a + suc i) ≡ false = other_number a (a + suc i) (omega arith) in
    ap (λ b. if b then Some (holding_of a x) else held_for (a + suc i) (holding_from (a + 1) xs)) isnt
    ∙ subst (λ (k : ℕ). held_for k (holding_from (a + 1) xs) ≡ Some (holding_of k h)) at (held_at xs (a + 1) i h e)

held_none : (xs : Slots) (a i : ℕ) → slice_get xs i ≡ found None → held_for (a + i) (holding_from a xs) ≡ None
held_none [] a i e = absurd (cc)
held_none (None ∷ xs) a zero e = held_below xs (a + 1) (a + 0) (omega arith)
held_none (Some x ∷ xs) a zero e = absurd (cc)
held_none (None ∷ xs) a (suc i) e =
    let at : (a + 1) + i ≡ a + suc i = omega arith in
    subst (λ (k : ℕ). held_for k (holding_from (a + 1) xs) ≡ None) at (held_none xs (a + 1) i e)
held_none (Some x ∷ xs) a (suc i) e =
    let at : (a + 1) + i ≡ a + suc i = omega arith in
    let isnt : (a == a + suc i) ≡ false = other_number a (a + suc i) (omega arith) in
    ap (λ b. if b then Some (holding_of a x) else held_for (a + suc i) (holding_from (a + 1) xs)) isnt
    ∙ subst (λ (k : ℕ). held_for k (holding_from (a + 1) xs) ≡ None) at (held_none xs (a + 1) i e)

-- one reference more
put_below : (xs : Slots) (a k : ℕ) (h : Held) → k < a →
    with_holding (holding_of k h) (holding_from a xs) ≡ holding_of k h ∷ holding_from a xs
put_below [] a k h l = refl
put_below (None ∷ xs) a k h l = put_below xs (a + 1) k h (omega arith)
put_below (Some x ∷ xs) a k h l =
    let is : nat_lt k a ≡ true = lt-ltb k a l in
    ap (λ b. if b then holding_of k h ∷ holding_of a x ∷ holding_from (a + 1) xs
    else holding_of a x ∷ with_holding (holding_of k h) (holding_from (a + 1) xs)) is

put_at : (xs : Slots) (a i : ℕ) (h : Held) → slice_get xs i ≡ found None →
    holding_from a (set xs i (Some h)) ≡ with_holding (holding_of (a + i) h) (holding_from a xs)
put_at [] a i h e = absurd (cc)
put_at (None ∷ xs) a zero h e =
    let at : a + 0 ≡ a = omega arith in
    sym (put_below xs (a + 1) a h (omega arith))
    ∙ ap (λ (k : ℕ). with_holding (holding_of k h) (holding_from (a + 1) xs)) (sym at)
put_at (Some x ∷ xs) a zero h e = absurd (cc)
put_at (None ∷ xs) a (suc i) h e =
    let at : (a + 1) + i ≡ a + suc i = omega arith in
    subst (λ (k : ℕ). holding_from (a + 1) (set xs i (Some h)) ≡ with_holding (holding_of k h) (holding_from
    (a + 1) xs))
    at (put_at xs (a + 1) i h e)
put_at (Some x ∷ xs) a (suc i) h e =
    let at : (a + 1) + i ≡ a + suc i = omega arith in
    let isnt : nat_lt (a + suc i) a ≡ false = le-ltb (a + suc i) a (omega arith) in
    ap (λ ys. holding_of a x ∷ ys)
    (subst (λ (k : ℕ). holding_from (a + 1) (set xs i (Some h)) ≡ with_holding (holding_of k h) (holding_from
    (a + 1) xs))
    at (put_at xs (a + 1) i h e))
    ∙ sym (ap (λ b. if b then holding_of (a + suc i) h ∷ holding_of a x ∷ holding_from (a + 1) xs
    else holding_of a x ∷ with_holding (holding_of (a + suc i) h) (holding_from (a + 1) xs)) isnt)

-- what is held for needs beyond the last slot
held_past : (xs : Slots) (a k : ℕ) → a + length xs ≤ k → held_for k (holding_from a xs) ≡ None
held_past [] a k h = refl
held_past (None ∷ xs) a k h = held_past xs (a + 1) k (omega arith)
held_past (Some x ∷ xs) a k h =
    let isnt : (a == k) ≡ false = other_number a k (omega arith) in
    ap (λ b. if b then Some (holding_of a x) else held_for k (holding_from (a + 1) xs)) isnt
    ∙ held_past xs (a + 1) k (omega arith)

-- Of all needs

pub held_beyond : (xs : Slots) (k : ℕ) → length xs ≤ k → held_for k (holding_from 0 xs) ≡ None
held_beyond xs k h = held_past xs 0 k (omega arith)

pub held_is : (xs : Slots) (i : ℕ) (h : Held) → slice_get xs i ≡ Some (Some h) →
    held_for i (holding_from 0 xs) ≡ Some (holding_of i h)
held_is xs i h e =
    let at : 0 + i ≡ i = omega arith in
    subst (λ (k : ℕ). held_for k (holding_from 0 xs) ≡ Some (holding_of k h)) at (held_at xs 0 i h e)

pub held_isnt : (xs : Slots) (i : ℕ) → slice_get xs i ≡ found None → held_for i (holding_from 0 xs) ≡ None
held_isnt xs i e =
    let at : 0 + i ≡ i = omega arith in
    subst (λ (k : ℕ). held_for k (holding_from 0 xs) ≡ None) at (held_none xs 0 i e)

pub put_is : (xs : Slots) (i : ℕ) (h : Held) → slice_get xs i ≡ found None →
    holding_from 0 (set xs i (Some h)) ≡ with_holding (holding_of i h) (holding_from 0 xs)
put_is xs i h e =
    let at : 0 + i ≡ i = omega arith in
    subst (λ (k : ℕ). holding_from 0 (set xs i (Some h)) ≡ with_holding (holding_of k h) (holding_from 0 xs)) at
    (put_at xs 0 i h e)

-- The first of them

abbrev pub AreNone : ℕ → Slots → Type 0
AreNone k xs = (i : ℕ) → i < k → slice_get xs i ≡ found None

first_at : (xs : Slots) (a k : ℕ) (h : Held) → AreNone k xs → slice_get xs k ≡ Some (Some h) →
    holding_from a xs ≡ holding_of (a + k) h ∷ holding_from a (set xs k None)
first_at [] a k h n e = absurd (cc)
first_at (None ∷ xs) a zero h n e = absurd (cc)
first_at (Some x ∷ xs) a zero h n e =
    let same : x ≡ h = cc in
    let at : a ≡ a + 0 = omega arith in
    ap (λ (y : Held). holding_of a y ∷ holding_from (a + 1) xs) same
    ∙ ap (λ (i : ℕ). holding_of i h ∷ holding_from (a + 1) xs) at
first_at (None ∷ xs) a (suc k) h n e =
    let at : (a + 1) + k ≡ a + suc k = omega arith in
    subst (λ (i : ℕ). holding_from (a + 1) xs ≡ holding_of i h ∷ holding_from (a + 1) (set xs k None)) at
    (first_at xs (a + 1) k h (λ i l. n (suc i) (omega arith)) e)
first_at (Some x ∷ xs) a (suc k) h n e = let m = n zero (omega arith) in absurd (cc)

pub first_is : (xs : Slots) (k : ℕ) (h : Held) → AreNone k xs → slice_get xs k ≡ Some (Some h) → IsFirstHeld xs k h
first_is xs k h n e =
    let at : 0 + k ≡ k = omega arith in
    record {
      at = e;
      first = subst (λ (i : ℕ). holding_from 0 xs ≡ holding_of i h ∷ holding_from 0 (set xs k None)) at
          (first_at xs 0 k h n e);
    }

none_held : (xs : Slots) (a : ℕ) → AreNone (length xs) xs → holding_from a xs ≡ []
none_held [] a n = refl
none_held (None ∷ xs) a n = none_held xs (a + 1) (λ i l. n (suc i) (omega arith))
none_held (Some x ∷ xs) a n = let m = n zero (omega arith) in absurd (cc)

pub nothing_held : (xs : Slots) → AreNone (length xs) xs → holding_from 0 xs ≡ []
nothing_held xs n = none_held xs 0 n

-- Slots as the code reads them

pub slot_at : (xs : Slots) (k : ℕ) (o : Option Held) → k < length xs → get_or xs k None ≡ o → slice_get xs k ≡ found o
slot_at xs k o l e = slice_get-get_or xs k None l ∙ ap found e

pub one_none_more : (xs : Slots) (k : ℕ) → AreNone k xs → slice_get xs k ≡ found None → AreNone (k + 1) xs
one_none_more xs k n e i l =
    elim (cases_lt i k) [
      | inl h ↦ n i h
      | inr h ↦ let same : k ≡ i = omega arith in subst (λ (j : ℕ). slice_get xs j ≡ found None) same e
    ]

pub none_yet : (n a : ℕ) → holding_from a (map (λ k. None) (range_with_len 0 n)) ≡ []
none_yet n a = of_list (range_with_len 0 n) a
  where
    of_list : (ks : List ℕ) (b : ℕ) → holding_from b (map (λ k. None) ks) ≡ []
    of_list [] b = refl
    of_list (k ∷ ks) b = of_list ks (b + 1)

-- where nothing is held for a need, its slot is empty
pub slot_free : (xs : Slots) (k : ℕ) → k < length xs → held_for k (holding_from 0 xs) ≡ None →
    slice_get xs k ≡ found None
slot_free xs k l free = by_slot (get_or xs k None) refl
  where
    some_none : (h : Holding) → Some h ≡ None → ⊥
    some_none h e = cc

    by_slot : (o : Option Held) → get_or xs k None ≡ o → slice_get xs k ≡ found None
    by_slot None e = slot_at xs k None l e
    by_slot (Some h) e =
        absurd (some_none (holding_of k h) (sym (held_is xs k h (slot_at xs k (Some h) l e)) ∙ free))

-- a slot, as what is held for its need
pub held_as : (xs : Slots) (k : ℕ) (o : Option Held) → slice_get xs k ≡ found o →
    held_for k (holding_from 0 xs) ≡ option_map (holding_of k) o
held_as xs k None e = held_isnt xs k e
held_as xs k (Some h) e = held_is xs k h e

pub none_held_for : (k : ℕ) (o : Option Held) → option_map (holding_of k) o ≡ None → o ≡ None
none_held_for k None e = refl
none_held_for k (Some h) e = absurd (cc)

-- where a reference was put, something is held
with_some : (h : Holding) (xs : List Holding) → with_holding h xs ≡ [] → ⊥
with_some h [] e = cc
with_some h (x ∷ xs) e = by_test (nat_lt h.need x.need) e
  where
    by_test : (b : Bool) → (if b then h ∷ x ∷ xs else x ∷ with_holding h xs) ≡ [] → ⊥
    by_test true e = cc
    by_test false e = cc

pub holds_put : (xs : Slots) (k : ℕ) (h : Held) → slice_get xs k ≡ found None →
    holding_from 0 (set xs k (Some h)) ≡ [] → ⊥
holds_put xs k h free e = with_some (holding_of k h) (holding_from 0 xs) (sym (put_is xs k h free) ∙ e)
