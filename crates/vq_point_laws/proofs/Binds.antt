-- A bind keeps the lists of a timeline, and loses no point.
use Rattle.std.proofs.Common.{◌≡◌, ℕ, ◌+◌, ◌<◌, [], ◌∷◌, ◌++◌, length, drop, Some, ◌≤◌, true, get_or, Option, None, ◌∙◌, ap, subst, ◌⊎◌, inl, inr, List, IsPermutation, ◌-◌, arith, sym}
use Rattle.std.specs.Prelude.{slice_range}
use Rattle.vq_point_laws.specs.Timeline.{Timeline, KeepsLists, MayBind, is_next, point_at, all_points, after_bind, indexes, entries_from}
use Rattle.std.proofs.lemmas.Bool.{cases_lt, cases_eq, eqb-true}
use Rattle.std.proofs.lemmas.List.{drop_more, get_or_past}
use Rattle.vq_point_laws.proofs.TimelineLists.{IsMoved, moved}
use Rattle.vq_point_laws.proofs.HeldPoints.{range_push, held, held_append, all_held, entries_push, range_count}
use Rattle.vq_point_laws.proofs.PartedLists.{second_parted, third_pushed, grouped}
use Rattle.std.specs.List.{range_with_len}
use Rattle.std.proofs.lemmas.List.Sorted.{length_permutation}
use Rattle.vq_point_laws.proofs.Carriers.{numbers_push}

-- A bind

-- what is known of an operation that may be bound next
record IsBindable (t : Timeline) (point : ℕ) : Type 0 where
  room : t.bound < length t.points
  rest : drop t.bound t.points ≡ Some point ∷ drop (t.bound + 1) t.points
  more : slice_range t.points t.completed (t.bound + 1) ≡ slice_range t.points t.completed t.bound ++ Some point ∷ []

bindable : (t : Timeline) (index point : ℕ) → KeepsLists t → MayBind t index point → is_next t index ≡ true → IsBindable t point
bindable t index point k can next = by_room (cases_lt t.bound (length t.points))
  where
    slot : get_or t.points t.bound None ≡ Some point
    slot = subst (λ (n : ℕ). get_or t.points n None ≡ Some point) (eqb-true index t.bound next) can.taken

    by_room : (t.bound < length t.points) ⊎ (length t.points ≤ t.bound) → IsBindable t point
    by_room (inl room) =
        record {
          room = room;
          rest = drop_more t.points t.bound None room ∙ ap (λ (x : Option ℕ). x ∷ drop (t.bound + 1) t.points) slot;
          more = range_push t.points t.completed t.bound None (Some point) k.in_order room slot;
        }
    by_room (inr past) = let none = get_or_past t.points t.bound None past in absurd (cc (none, slot))

bind_moves : (t : Timeline) (point : ℕ) → KeepsLists t → IsBindable t point → IsMoved (all_points t) (all_points (after_bind t))
bind_moves t point k b =
    let first = held (drop (t.bound + 1) t.points) in
    let second = held (slice_range t.points t.completed t.bound) in
    moved (all_points t) (all_points (after_bind t))
    t.free (first ++ second ++ t.waiting) (t.free ++ first ++ second) t.waiting point
    (all_held t ∙ ap (λ (xs : List (Option ℕ)). t.free ++ held xs ++ second ++ t.waiting) b.rest ∙ second_parted t.free first second t.waiting point)
    (all_held (after_bind t)
    ∙ ap (λ (xs : List ℕ). t.free ++ first ++ xs ++ t.waiting) (ap held b.more ∙ held_append (slice_range t.points t.completed t.bound) (Some point ∷ []))
    ∙ third_pushed t.free first second t.waiting point)
    (grouped t.free first second t.waiting) k.distinct

pub bind_same : (t : Timeline) (index point : ℕ) → KeepsLists t → MayBind t index point → is_next t index ≡ true → IsPermutation (all_points t) (all_points (after_bind t))
bind_same t index point k can next = (bind_moves t point k (bindable t index point k can next)).same

pub bind_keeps : (t : Timeline) (index point : ℕ) → KeepsLists t → MayBind t index point → is_next t index ≡ true → KeepsLists (after_bind t)
bind_keeps t index point k can next =
    let b = bindable t index point k can next in
    let moves = bind_moves t point k b in
    let room = b.room in
    let in_order = k.in_order in
    let one_each = k.one_each in
    let part = slice_range t.points t.completed t.bound in
    let count = range_count t.points t.completed t.bound in_order (omega arith) in
    let last : t.completed + length part ≡ t.bound = omega arith in
    let many : t.bound - t.completed + 1 ≡ t.bound + 1 - t.completed = omega arith in
    let place : t.bound ≡ t.completed + (t.bound - t.completed) = omega arith in
    record {
      rising = k.rising;
      one_each = k.one_each;
      in_order = omega arith;
      within = omega arith;
      had = λ j l e. at j l e (cases_eq j t.bound);
      between =
          ap (λ (xs : List (Option ℕ)). indexes (entries_from t.completed xs)) b.more
          ∙ entries_push t.completed part point
          ∙ (λ i. k.between i ++ (last ∙ place) i ∷ [])
          ∙ numbers_push t.completed (t.bound - t.completed)
          ∙ ap (range_with_len t.completed) many;
      completion = k.completion;
      distinct = moves.distinct;
      all = length_permutation (all_points t) (all_points (after_bind t)) moves.same ∙ k.all;
      few = k.few;
    }
  where
    at : (j : ℕ) → j < t.bound + 1 → point_at t j ≡ None → (j ≡ t.bound) ⊎ (j ≡ t.bound → ⊥) → ⊥
    at j l none (inl e) =
        let here : j ≡ index = e ∙ sym (eqb-true index t.bound next) in
        let taken = can.taken in
        let same = ap (point_at t) here in
        cc
    at j l none (inr n) = k.had j (omega (arith, n)) none
