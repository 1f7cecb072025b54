-- The points of pending operations.
use Rattle.std.proofs.Common.{◌≡◌, ℕ, zero, suc, ◌+◌, ◌-◌, ◌<◌, ◌≤◌, List, [], ◌∷◌, length, drop, get_or, Option, Some, None, refl, sym, ◌∙◌, ap, arith, subst, ◌⊎◌, inl, inr}
use Rattle.std.specs.Prelude.{IsSome, slice_range}
use Rattle.std.specs.List.{range_with_len}
use Rattle.std.specs.Option.{option_map}
use Rattle.std.proofs.lemmas.List.{length-map, length-take-le, length-drop, get_or-take, get_or-drop, get_or_read}
use Rattle.std.proofs.lemmas.Bool.{cases_lt}
use Rattle.std.proofs.lemmas.List.FromFn.{length-range_with_len}
use Rattle.vq_point_laws.specs.Timeline.{Timeline, KeepsLists, indexes, entries_from, pending, first_pending, point_at}
use Rattle.vq_point_laws.proofs.Cited.{least_pending, entries_count}

pub pending_count : (t : Timeline) → KeepsLists t → t.bound - t.completed ≡ length (pending t)
pending_count t k =
    sym (length-range_with_len t.completed (t.bound - t.completed)) ∙ ap length (sym k.between) ∙ length-map (pending t) (λ x. x.index)

pub first_answer : (t : Timeline) (point : ℕ) → KeepsLists t → t.completed < t.bound → point_at t t.completed ≡ Some point → ◌≡◌ {A = Option (ℕ × ℕ)} (Some (t.completed, point)) (option_map (λ x. (x.index, x.point)) (first_pending t))
first_answer t point k some e =
    let least = least_pending t k some in
    let found = least.1.point in
    let same : point ≡ least.0.point = cc in
    (λ i. Some (sym least.1.index i, same i)) ∙ sym (ap (option_map (λ x. (x.index, x.point))) least.1.first)

-- the part of the chain that is pending
pub part_count : (t : Timeline) → KeepsLists t → length (slice_range t.points t.completed t.bound) ≡ t.bound - t.completed
part_count t k =
    let one_each = k.one_each in
    let within = k.within in
    let in_order = k.in_order in
    let left = length-drop t.completed t.points in
    length-take-le (t.bound - t.completed) (drop t.completed t.points) (omega arith)

pub part_at : (t : Timeline) (index : ℕ) → t.completed ≤ index → index < t.bound → get_or (slice_range t.points t.completed t.bound) (index - t.completed) None ≡ point_at t index
part_at t index l m =
    let place : t.completed + (index - t.completed) ≡ index = omega arith in
    get_or-take (t.bound - t.completed) (drop t.completed t.points) (index - t.completed) None (omega arith)
    ∙ get_or-drop t.completed t.points (index - t.completed) None
    ∙ ap (λ (k : ℕ). get_or t.points k None) place

all_some : (n : ℕ) (xs : List (Option ℕ)) (k : ℕ) → indexes (entries_from n xs) ≡ range_with_len n (length xs) → k < length xs → (p : ℕ) × (get_or xs k None ≡ Some p)
all_some n [] k e l = absurd (omega arith)
all_some n (None ∷ xs) k e l =
    let few = entries_count (n + 1) xs in
    let many = ap length e ∙ length-range_with_len n (suc (length xs)) in
    absurd (omega arith)
all_some n (Some p ∷ xs) zero e l = (p, refl)
all_some n (Some p ∷ xs) (suc k) e l =
    let rest : indexes (entries_from (n + 1) xs) ≡ range_with_len (n + 1) (length xs) = cc in
    all_some (n + 1) xs k rest (omega arith)

-- each pending operation has a point
pub pending_point : (t : Timeline) (index : ℕ) → KeepsLists t → t.completed ≤ index → index < t.bound → (p : ℕ) × (point_at t index ≡ Some p)
pending_point t index k l m =
    let count = part_count t k in
    let at = all_some t.completed (slice_range t.points t.completed t.bound) (index - t.completed) (k.between ∙ ap (range_with_len t.completed) (sym count)) (omega arith) in
    (at.0, sym (part_at t index l m) ∙ at.1)

-- the point read at an operation
pub read_point : (t : Timeline) (index : ℕ) (slot : Option ℕ) → KeepsLists t → index < length t.values → slot ≡ get_or t.points index slot → slot ≡ point_at t index
read_point t index slot k l e =
    let one_each = k.one_each in get_or_read t.points index slot (omega arith) e None

pub pending_is_some : (t : Timeline) (index : ℕ) (slot : Option ℕ) → KeepsLists t → t.completed ≤ index → index < t.bound → slot ≡ get_or t.points index slot → IsSome slot
pending_is_some t index slot k l m e =
    let within = k.within in
    let p = pending_point t index k l m in
    subst (λ (o : Option ℕ). IsSome o) (sym (read_point t index slot k (omega arith) e ∙ p.1)) refl

-- an operation that isn't completed and has no point isn't bound
pub without_unbound : (t : Timeline) (index : ℕ) → KeepsLists t → t.completed ≤ index → point_at t index ≡ None → t.bound ≤ index
without_unbound t index k l e = by_order (cases_lt index t.bound)
  where
    by_order : (index < t.bound) ⊎ (t.bound ≤ index) → t.bound ≤ index
    by_order (inl m) = let p = pending_point t index k l m in let point = p.1 in absurd (cc)
    by_order (inr m) = m
