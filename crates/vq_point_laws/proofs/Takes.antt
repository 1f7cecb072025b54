-- A take keeps the lists of a timeline, and adds no point but a fresh one.
use Rattle.std.proofs.Common.{ℕ, List, set, Some, ◌≡◌, ◌∷◌, ◌++◌, drop, ◌+◌, ◌-◌, get_or, Option, None, ◌∙◌, ap, arith, [], refl, inl, inr, IsPermutation, ◌≤◌, length, map, sym, subst}
use Rattle.std.proofs.lemmas.Bool.{cases_lt}
use Rattle.vq_point_laws.specs.Timeline.{Timeline, all_points, KeepsLists, MayTake, point_at, fresh_points, take_from, after_take, indexes, entries_from, AreDistinct, last_from}
use Rattle.vq_ground.specs.Lists.{AreRisingFrom}
use Rattle.std.specs.Prelude.{slice_range}
use Rattle.vq_point_laws.proofs.HeldPoints.{held, all_held, IsPut, put_at, range_same, drop_set, held_count}
use Rattle.std.proofs.lemmas.List.{get_or-set_other, length-drop, get_or-drop, length-set, take-set-le, length-append, length-take}
use Rattle.vq_point_laws.proofs.PartedLists.{parted, parted_at}
use Rattle.vq_point_laws.proofs.TimelineLists.{IsMoved, moved}
use Rattle.vq_point_laws.proofs.Carriers.{waiting_count}
use Rattle.std.proofs.lemmas.List.Sorted.{length_permutation}

-- A take

abbrev put : Timeline → ℕ → ℕ → List ℕ → ℕ → Timeline
put t index p free made =
    record t { points = set t.points index (Some p); free = free; made = made }

-- the lists of points before and after the operation is given this point, with any free list
record IsGiven (t : Timeline) (index p : ℕ) : Type 0 where
  front : List ℕ
  back : List ℕ
  before : (free : List ℕ) → free ++ held (drop t.bound t.points) ++ held (slice_range t.points t.completed t.bound) ++ t.waiting ≡ (free ++ front) ++ back
  after : (free : List ℕ) (made : ℕ) → all_points (put t index p free made) ≡ (free ++ front) ++ p ∷ back

-- an operation without a point isn't bound
pub unbound : (t : Timeline) (index : ℕ) → KeepsLists t → point_at t index ≡ None → t.bound ≤ index
unbound t index k none = elim (cases_lt index t.bound) [
  | inl l ↦ absurd (k.had index l none)
  | inr l ↦ l
]

given : (t : Timeline) (index fresh p : ℕ) → KeepsLists t → MayTake t index fresh → IsGiven t index p
given t index fresh p k can =
    record {
      front = r.front;
      back = r.back ++ held part ++ t.waiting;
      before = λ free. ap (λ (xs : List ℕ). free ++ xs ++ held part ++ t.waiting) r.before ∙ parted free r.front r.back (held part) t.waiting;
      after = λ free made.
          all_held (put t index p free made)
          ∙ (λ i. free ++ held (drop_set t.points t.bound index (Some p) (unbound t index k can.without) i) ++ held (range_same t.points t.completed t.bound index (Some p) k.in_order (unbound t index k can.without) i) ++ t.waiting)
          ∙ ap (λ (xs : List ℕ). free ++ xs ++ held part ++ t.waiting) r.after
          ∙ parted_at free r.front r.back (held part) t.waiting p;
    }
  where
    part : List (Option ℕ)
    part = slice_range t.points t.completed t.bound

    place : t.bound + (index - t.bound) ≡ index
    place = let l = (unbound t index k can.without) in omega arith

    r : IsPut (drop t.bound t.points) (index - t.bound) p
    r =
        let l = (unbound t index k can.without) in
        let m = can.exists in
        let n = k.one_each in
        let left = length-drop t.bound t.points in
        put_at (drop t.bound t.points) (index - t.bound) p (omega arith)
        (get_or-drop t.bound t.points (index - t.bound) None ∙ ap (λ (j : ℕ). get_or t.points j None) place ∙ can.without)

take_moves : (t : Timeline) (index fresh : ℕ) → KeepsLists t → MayTake t index fresh → IsMoved (fresh_points t.free fresh ++ all_points t) (all_points (after_take t index fresh))
take_moves t index fresh k can = by_free t.free refl
  where
    by_free : (free : List ℕ) → t.free ≡ free → IsMoved (fresh_points free fresh ++ all_points t) (all_points (take_from t index fresh free))
    by_free [] e =
        let g = given t index fresh fresh k can in
        moved (fresh ∷ all_points t) (all_points (take_from t index fresh [])) [] (all_points t) (t.free ++ g.front) g.back fresh
        refl (g.after t.free (t.made + 1)) (all_held t ∙ g.before t.free) (can.unknown, k.distinct)
    by_free (point ∷ free) e =
        let g = given t index fresh point k can in
        moved (all_points t) (all_points (take_from t index fresh (point ∷ free))) []
        (free ++ held (drop t.bound t.points) ++ held (slice_range t.points t.completed t.bound) ++ t.waiting) (free ++ g.front) g.back point
        (all_held t ∙ ap (λ (xs : List ℕ). xs ++ held (drop t.bound t.points) ++ held (slice_range t.points t.completed t.bound) ++ t.waiting) e)
        (g.after free t.made) (g.before free) k.distinct

pub take_same : (t : Timeline) (index fresh : ℕ) → KeepsLists t → MayTake t index fresh → IsPermutation (fresh_points t.free fresh ++ all_points t) (all_points (after_take t index fresh))
take_same t index fresh k can = (take_moves t index fresh k can).same

-- the lists with a point put at an operation that isn't bound
put_keeps : (t : Timeline) (index p made : ℕ) (free : List ℕ) → KeepsLists t → t.bound ≤ index → AreDistinct (all_points (put t index p free made)) → length (all_points (put t index p free made)) ≡ made → made ≤ length t.values → KeepsLists (put t index p free made)
put_keeps t index p made free k l distinct all few =
    let order = k.in_order in
    record {
      rising = k.rising;
      one_each = length-set t.points index (Some p) ∙ k.one_each;
      in_order = k.in_order;
      within = k.within;
      had = λ j d e. k.had j d (sym (get_or-set_other t.points index j (Some p) None (λ (q : j ≡ index). (let m = q in absurd (omega arith)))) ∙ e);
      between = ap (λ (xs : List (Option ℕ)). indexes (entries_from t.completed xs)) (range_same t.points t.completed t.bound index (Some p) k.in_order l) ∙ k.between;
      completion =
          subst (λ (xs : List (Option ℕ)). AreRisingFrom 0 (map (λ w. last_from 0 0 w xs) t.waiting))
          (sym (take-set-le t.completed t.points index (Some p) (omega arith))) k.completion;
      distinct = distinct;
      all = all;
      few = few;
    }

-- with no free point there are at most as many points as operations
put_count : (t : Timeline) (index p made : ℕ) → KeepsLists t → length (all_points (put t index p [] made)) ≤ length t.values
put_count t index p made k =
    let points = set t.points index (Some p) in
    let first = held (drop t.bound points) in
    let second = held (slice_range points t.completed t.bound) in
    let all = ap length (all_held (put t index p [] made)) in
    let sum = length-append (first ++ second) t.waiting in
    let sum_two = length-append first second in
    let first_count = held_count (drop t.bound points) in
    let second_count = held_count (slice_range points t.completed t.bound) in
    let first_part = length-drop t.bound points in
    let second_part = length-take (t.bound - t.completed) (drop t.completed points) in
    let size = length-set t.points index (Some p) in
    let one_each = k.one_each in
    let in_order = k.in_order in
    let within = k.within in
    let waiting = waiting_count t k in
    omega arith

pub take_keeps : (t : Timeline) (index fresh : ℕ) → KeepsLists t → MayTake t index fresh → KeepsLists (after_take t index fresh)
take_keeps t index fresh k can = by_free t.free refl (take_moves t index fresh k can)
  where
    by_free : (free : List ℕ) → t.free ≡ free → IsMoved (fresh_points free fresh ++ all_points t) (all_points (take_from t index fresh free)) → KeepsLists (take_from t index fresh free)
    by_free [] e moves =
        let count : length (all_points (put t index fresh t.free (t.made + 1))) ≡ t.made + 1 =
        let more = length_permutation (fresh ∷ all_points t) (all_points (take_from t index fresh [])) moves.same in
        let all = k.all in
        omega arith in
        let most : length (all_points (put t index fresh t.free (t.made + 1))) ≤ length t.values =
        subst (λ (free : List ℕ). length (all_points (put t index fresh free (t.made + 1))) ≤ length t.values) (sym e) (put_count t index fresh (t.made + 1) k) in
        put_keeps t index fresh (t.made + 1) t.free k (unbound t index k can.without) moves.distinct count (omega arith)
    by_free (point ∷ free) e moves =
        put_keeps t index point t.made free k (unbound t index k can.without) moves.distinct
        (length_permutation (all_points t) (all_points (take_from t index fresh (point ∷ free))) moves.same ∙ k.all) k.few
