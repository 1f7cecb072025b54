-- Where a value stands among rising values.
use Rattle.std.proofs.Common.{◌≡◌, ℕ, zero, suc, ◌+◌, ◌-◌, ◌<◌, ◌≤◌, Bool, true, false, cond, List, [], ◌∷◌, length, find, get_or, Option, Some, None, refl, sym, ◌∙◌, ap, arith, subst, ◌⊎◌, inl, inr, ◌↔◌}
use Rattle.std.specs.Prelude.{nat_lt, nat_le, slice_range}
use Rattle.std.specs.List.Sorted.{IsPartitionPoint}
use Rattle.std.proofs.lemmas.Bool.{cases_lt}
use Rattle.vq_ground.proofs.Rising.{rising_from_at}
use Rattle.vq_ground.proofs.Tests.{at_least_of_test, at_most_test, below_of_test, above_test}
use Rattle.vq_point_laws.specs.Timeline.{Entry, Timeline, KeepsLists, entries_from, point_at, value_before, past_value, pending_value, first_at_least}
use Rattle.vq_timeline_core.specs.declared.answers.Found.{Found}
use Rattle.vq_timeline_core.specs.declared.answers.Found.TheVariants as found_as
use Rattle.vq_timeline_core.specs.Answers.{found, pending_answer}
use Rattle.vq_timeline_core.proofs.Points.{part_count, part_at, pending_point}

-- what a search by the test says
pub searched : (values : List ℕ) (value index : ℕ) → IsPartitionPoint (λ y. nat_lt y value ≡ true) (λ y. nat_lt y value ≡ false) values index → IsPartitionPoint (λ y. y < value) (λ y. value ≤ y) values index
searched values value index p = (
  λ k d l m. below_of_test (get_or values k d) value (p.0 k d l m),
  λ k d l m. at_least_of_test (get_or values k d) value (p.1 k d l m),
)

-- the search in the pending list
module _ (values : List ℕ) (value : ℕ) where
  find_none : (n : ℕ) (xs : List (Option ℕ)) → ((k : ℕ) → k < n + length xs → get_or values k 0 < value) → find (λ x. nat_le value (get_or values x.index 0)) (entries_from n xs) ≡ None
  find_none n [] h = refl
  find_none n (None ∷ xs) h = find_none (n + 1) xs (λ k l. h k (omega arith))
  find_none n (Some p ∷ xs) h =
      ap (λ (b : Bool). cond b (Some (record { index = n; point = p })) (find (λ x. nat_le value (get_or values x.index 0)) (entries_from (n + 1) xs)))
      (above_test value (get_or values n 0) (h n (omega arith)))
      ∙ find_none (n + 1) xs (λ k l. h k (omega arith))

  find_at : (n : ℕ) (xs : List (Option ℕ)) (k index p : ℕ) → n + k ≡ index → get_or xs k None ≡ Some p → ((j : ℕ) → j < index → get_or values j 0 < value) → value ≤ get_or values index 0 → find (λ x. nat_le value (get_or values x.index 0)) (entries_from n xs) ≡ Some (record { index = index; point = p })
  find_at n [] k index p i e below here = absurd (cc)
  find_at n (None ∷ xs) zero index p i e below here = absurd (cc)
  find_at n (None ∷ xs) (suc k) index p i e below here = find_at (n + 1) xs k index p (omega arith) e below here
  find_at n (Some q ∷ xs) zero index p i e below here =
      let same : n ≡ index = omega arith in
      let point : q ≡ p = cc in
      ap (λ (b : Bool). cond b (Some (record { index = n; point = q })) (find (λ x. nat_le value (get_or values x.index 0)) (entries_from (n + 1) xs)))
      (at_most_test value (get_or values n 0) (subst (λ (m : ℕ). value ≤ get_or values m 0) (sym same) here))
      ∙ (λ j. Some (record { index = same j; point = point j }))
  find_at n (Some q ∷ xs) (suc k) index p i e below here =
      ap (λ (b : Bool). cond b (Some (record { index = n; point = q })) (find (λ x. nat_le value (get_or values x.index 0)) (entries_from (n + 1) xs)))
      (above_test value (get_or values n 0) (below n (omega arith)))
      ∙ find_at (n + 1) xs k index p (omega arith) e below here

  find_some : (n : ℕ) (xs : List (Option ℕ)) (k p : ℕ) → get_or xs k None ≡ Some p → value ≤ get_or values (n + k) 0 → find (λ x. nat_le value (get_or values x.index 0)) (entries_from n xs) ≡ None → ⊥
  find_some n [] k p e here none = absurd (cc)
  find_some n (None ∷ xs) zero p e here none = absurd (cc)
  find_some n (None ∷ xs) (suc k) p e here none =
      let same : n + suc k ≡ n + 1 + k = omega arith in
      find_some (n + 1) xs k p e (subst (λ (m : ℕ). value ≤ get_or values m 0) same here) none
  find_some n (Some q ∷ xs) zero p e here none =
      let same : n + 0 ≡ n = omega arith in
      let test = at_most_test value (get_or values n 0) (subst (λ (m : ℕ). value ≤ get_or values m 0) same here) in
      let some = ap (λ (b : Bool). cond b (Some (record { index = n; point = q })) (find (λ x. nat_le value (get_or values x.index 0)) (entries_from (n + 1) xs))) test in
      cc
  find_some n (Some q ∷ xs) (suc k) p e here none =
      let same : n + suc k ≡ n + 1 + k = omega arith in
      by_test (nat_le value (get_or values n 0)) none
      (find_some (n + 1) xs k p e (subst (λ (m : ℕ). value ≤ get_or values m 0) same here))
    where
      by_test : (b : Bool) → cond b (Some (record { index = n; point = q })) (find (λ x. nat_le value (get_or values x.index 0)) (entries_from (n + 1) xs)) ≡ None → (find (λ x. nat_le value (get_or values x.index 0)) (entries_from (n + 1) xs) ≡ None → ⊥) → ⊥
      by_test true h more = absurd (cc)
      by_test false h more = more h

-- The answers

not_past : (t : Timeline) (value : ℕ) → past_value t < value → found t value ≡ pending_answer t (first_at_least t value)
not_past t value late =
    ap (λ (b : Bool). cond b (found_as.Past t.completed) (pending_answer t (first_at_least t value))) (above_test value (past_value t) late)

-- a value that isn't past, with the first operation whose value is at least this one
pub record IsLate (t : Timeline) (value index : ℕ) : Type 0 where
  pub late : past_value t < value
  pub below : (k : ℕ) → k < index → get_or t.values k 0 < value
  pub above : (k : ℕ) → index ≤ k → k < length t.values → value ≤ get_or t.values k 0

pub late_cut : (t : Timeline) (value index past : ℕ) → past ≡ past_value t → past < value → IsPartitionPoint (λ y. y < value) (λ y. value ≤ y) t.values index → IsLate t value index
late_cut t value index past e l p =
    record {
      late = subst (λ (n : ℕ). n < value) e l;
      below = λ k m. p.0 k 0 (omega arith) m;
      above = λ k m n. p.1 k 0 m n;
    }

-- completed operations have values below one that isn't past
pub past_below : (t : Timeline) (value index : ℕ) → KeepsLists t → IsLate t value index → t.completed ≤ index
past_below t value index k c = by_completed t.completed refl
  where
    by_completed : (n : ℕ) → t.completed ≡ n → n ≤ index
    by_completed zero e = omega arith
    by_completed (suc n) e = by_order (cases_lt n index)
      where
        by_order : (n < index) ⊎ (index ≤ n) → suc n ≤ index
        by_order (inl l) = omega arith
        by_order (inr l) =
            let before = subst (λ (m : ℕ). value_before t m < value) e c.late in
            let in_order = k.in_order in
            let within = k.within in
            let after = c.above n l (omega arith) in
            absurd (omega arith)

pub found_not_yet : (t : Timeline) (value index : ℕ) → KeepsLists t → IsLate t value index → t.bound ≤ index → found_as.NotYet t.bound ≡ found t value
found_not_yet t value index k c l =
    let count = part_count t k in
    let in_order = k.in_order in
    sym
    (not_past t value c.late
    ∙ ap (pending_answer t) (find_none t.values value t.completed (slice_range t.points t.completed t.bound) (λ j m. c.below j (omega arith))))

pub found_pending : (t : Timeline) (value index point : ℕ) → KeepsLists t → IsLate t value index → index < t.bound → point_at t index ≡ Some point → found_as.Pending index point ≡ found t value
found_pending t value index point k c l e =
    let past = past_below t value index k c in
    let place : t.completed + (index - t.completed) ≡ index = omega arith in
    let within = k.within in
    sym
    (not_past t value c.late
    ∙ ap (pending_answer t)
    (find_at t.values value t.completed (slice_range t.points t.completed t.bound) (index - t.completed) index point place
    (part_at t index past l ∙ e) c.below (c.above index (omega arith) (omega arith))))

-- a value is found in no list exactly where it is above the value of the greatest bound operation
pub not_yet_exact : (t : Timeline) (value : ℕ) → KeepsLists t → (found t value ≡ found_as.NotYet t.bound) ↔ (pending_value t < value)
not_yet_exact t value k = (forth, back)
  where
    order : (i j : ℕ) → i ≤ j → j < suc (length t.values) → value_before t i ≤ value_before t j
    order i j l m = rising_from_at t.initial t.values i j 0 k.rising l m

    hits : past_value t < value → value ≤ pending_value t → first_at_least t value ≡ None → ⊥
    hits late early none = by_bound t.bound refl
      where
        by_bound : (n : ℕ) → t.bound ≡ n → ⊥
        by_bound zero e =
            let in_order = k.in_order in
            let same : t.bound ≡ t.completed = omega arith in
            let equal = ap (value_before t) same in
            omega arith
        by_bound (suc n) e = by_order (cases_lt n t.completed)
          where
            by_order : (n < t.completed) ⊎ (t.completed ≤ n) → ⊥
            by_order (inl l) =
                let in_order = k.in_order in
                let same : t.bound ≡ t.completed = omega arith in
                let equal = ap (value_before t) same in
                omega arith
            by_order (inr l) =
                let p = pending_point t n k l (omega arith) in
                let place : t.completed + (n - t.completed) ≡ n = omega arith in
                let last = subst (λ (m : ℕ). value ≤ value_before t m) e early in
                find_some t.values value t.completed (slice_range t.points t.completed t.bound) (n - t.completed) p.0
                (part_at t n l (omega arith) ∙ p.1) (subst (λ (m : ℕ). value ≤ get_or t.values m 0) (sym place) last) none

    forth : found t value ≡ found_as.NotYet t.bound → pending_value t < value
    forth h = by_orders (cases_lt (pending_value t) value) (cases_lt (past_value t) value)
      where
        by_answer : (o : Option Entry) → first_at_least t value ≡ o → pending_answer t o ≡ found_as.NotYet t.bound → past_value t < value → value ≤ pending_value t → ⊥
        by_answer None e g late early = hits late early e
        by_answer (Some x) e g late early = absurd (cc)

        by_orders : (pending_value t < value) ⊎ (value ≤ pending_value t) → (past_value t < value) ⊎ (value ≤ past_value t) → pending_value t < value
        by_orders (inl l) m = l
        by_orders (inr l) (inl m) =
            absurd (by_answer (first_at_least t value) refl (sym (not_past t value m) ∙ h) m l)
        by_orders (inr l) (inr m) =
            let past = ap (λ (b : Bool). cond b (found_as.Past t.completed) (pending_answer t (first_at_least t value))) (at_most_test value (past_value t) m) in
            absurd (cc)

    back : pending_value t < value → found t value ≡ found_as.NotYet t.bound
    back l =
        let in_order = k.in_order in
        let within = k.within in
        let past = order t.completed t.bound in_order (omega arith) in
        let count = part_count t k in
        not_past t value (omega arith)
        ∙ ap (pending_answer t)
        (find_none t.values value t.completed (slice_range t.points t.completed t.bound)
        (λ j m. let below = order (suc j) t.bound (omega arith) (omega arith) in omega arith))

pub found_past : (t : Timeline) (value : ℕ) → value ≤ past_value t → found_as.Past t.completed ≡ found t value
found_past t value l =
    sym (ap (λ (b : Bool). cond b (found_as.Past t.completed) (pending_answer t (first_at_least t value))) (at_most_test value (past_value t) l))

pub not_yet_is : (t : Timeline) (value : ℕ) (answer : Found) → KeepsLists t → answer ≡ found t value → (answer ≡ found_as.NotYet t.bound) ↔ (pending_value t < value)
not_yet_is t value answer k e =
    subst (λ (a : Found). (a ≡ found_as.NotYet t.bound) ↔ (pending_value t < value)) (sym e) (not_yet_exact t value k)
