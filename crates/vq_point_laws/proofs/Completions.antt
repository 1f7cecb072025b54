-- A completion keeps the lists of a timeline, and loses no point.
use Rattle.std.proofs.Common.{◌≡◌, ◌+◌, ◌∷◌, Some, ℕ, ◌-◌, ◌<◌, ◌≤◌, List, length, Option, None, refl, sym, ◌∙◌, ap, arith, ◌++◌, drop, [], suc, Bool, false, cond, take, subst, ◌⊎◌, inl, inr, IsPermutation}
use Rattle.std.specs.Prelude.{slice_range, ◌==◌}
use Rattle.vq_point_laws.specs.Timeline.{Entry, Timeline, point_at, first_pending, KeepsLists, indexes, entries_from, first_of, all_points, complete_from, IsAbsent, AreDistinct, last_from, last_carrier, after_complete}
use Rattle.std.proofs.lemmas.List.FromFn.{length-range_with_len}
use Rattle.vq_point_laws.proofs.HeldPoints.{entries_count, range_first, range_count, held, all_held}
use Rattle.vq_point_laws.proofs.PartedLists.{third_parted, fourth_pushed, grouped_back}
use Rattle.vq_point_laws.proofs.TimelineLists.{IsMoved, moved, self_test, distinct_out, absent_back}
use Rattle.std.specs.List.{range_with_len}
use Rattle.std.proofs.lemmas.List.{length-take-le, take_more}
use Rattle.std.proofs.lemmas.List.Sorted.{length_permutation, IsPermutation-refl}
use Rattle.vq_point_laws.proofs.Carriers.{carrier_push, carrier_at_most, rising_push}
use Rattle.std.proofs.lemmas.Bool.{cases_lt}

-- A completion

-- the least pending operation
pub record IsLeast (t : Timeline) (x : Entry) : Type 0 where
  pub index : x.index ≡ t.completed
  pub point : point_at t t.completed ≡ Some x.point
  pub rest : slice_range t.points t.completed t.bound ≡ Some x.point ∷ slice_range t.points (t.completed + 1) t.bound
  pub first : first_pending t ≡ Some x

pub least_pending : (t : Timeline) → KeepsLists t → t.completed < t.bound → (x : Entry) × IsLeast t x
least_pending t k some = by_point (point_at t t.completed) refl
  where
    part : List (Option ℕ)
    part = slice_range t.points (t.completed + 1) t.bound

    within : t.bound ≤ length t.points
    within = let within = k.within in let one_each = k.one_each in omega arith

    split : slice_range t.points t.completed t.bound ≡ point_at t t.completed ∷ part
    split = range_first t.points t.completed t.bound None some within

    by_point : (point : Option ℕ) → point_at t t.completed ≡ point → (x : Entry) × IsLeast t x
    by_point None e =
        let cut = split ∙ ap (λ (x : Option ℕ). x ∷ part) e in
        let same = sym (ap (λ (xs : List (Option ℕ)). indexes (entries_from t.completed xs)) cut) ∙ k.between in
        let many = ap length same ∙ length-range_with_len t.completed (t.bound - t.completed) in
        let few = entries_count (t.completed + 1) part in
        let count = range_count t.points (t.completed + 1) t.bound (omega arith) within in
        absurd (omega arith)
    by_point (Some point) e =
        let cut = split ∙ ap (λ (x : Option ℕ). x ∷ part) e in (
          record { index = t.completed; point = point },
          record {
            index = refl;
            point = e;
            rest = cut;
            first = ap (λ (xs : List (Option ℕ)). first_of (entries_from t.completed xs)) cut;
          },
        )

parted_least : (t : Timeline) (x : Entry) → IsLeast t x → all_points t ≡ (t.free ++ held (drop t.bound t.points)) ++ x.point ∷ (held (slice_range t.points (t.completed + 1) t.bound) ++ t.waiting)
parted_least t x least =
    let first = held (drop t.bound t.points) in
    let second = held (slice_range t.points (t.completed + 1) t.bound) in
    all_held t
    ∙ ap (λ (xs : List (Option ℕ)). t.free ++ first ++ held xs ++ t.waiting) least.rest
    ∙ third_parted t.free first second t.waiting x.point

complete_moves : (t : Timeline) (x : Entry) → KeepsLists t → IsLeast t x → IsMoved (all_points t) (all_points (complete_from t (Some x)))
complete_moves t x k least =
    let first = held (drop t.bound t.points) in
    let second = held (slice_range t.points (t.completed + 1) t.bound) in
    moved (all_points t) (all_points (complete_from t (Some x)))
    (t.free ++ first) (second ++ t.waiting) (t.free ++ first ++ second ++ t.waiting) [] x.point
    (parted_least t x least)
    (all_held (complete_from t (Some x)) ∙ fourth_pushed t.free first second t.waiting x.point)
    (grouped_back t.free first second t.waiting) k.distinct

least_keeps : (t : Timeline) (x : Entry) → KeepsLists t → IsLeast t x → t.completed < t.bound → KeepsLists (complete_from t (Some x))
least_keeps t x k least some =
    let moves = complete_moves t x k least in
    let within = k.within in
    let count = range_count t.points t.completed t.bound in
    record {
      rising = k.rising;
      one_each = k.one_each;
      in_order = omega arith;
      within = k.within;
      had = k.had;
      between = between;
      completion = rising_push (last_carrier t) (last_carrier (complete_from t (Some x))) x.point (t.completed + 1) 0 t.waiting absent others below last (omega arith) k.completion;
      distinct = moves.distinct;
      all = length_permutation (all_points t) (all_points (complete_from t (Some x))) moves.same ∙ k.all;
      few = k.few;
    }
  where
    first : List ℕ
    first = held (drop t.bound t.points)

    second : List ℕ
    second = held (slice_range t.points (t.completed + 1) t.bound)

    absent : IsAbsent x.point t.waiting
    absent =
        let out = distinct_out x.point (t.free ++ first) (second ++ t.waiting) (subst AreDistinct (parted_least t x least) k.distinct) in
        absent_back x.point second t.waiting (absent_back x.point (t.free ++ first) (second ++ t.waiting) out.0)

    room : t.completed < length t.points
    room = let within = k.within in let one_each = k.one_each in omega arith

    carrier : (w : ℕ) → last_carrier (complete_from t (Some x)) w ≡ cond (x.point == w) (0 + length (take t.completed t.points) + 1) (last_carrier t w)
    carrier w =
        ap (last_from 0 0 w) (take_more t.points t.completed None room ∙ ap (λ (y : Option ℕ). take t.completed t.points ++ y ∷ []) least.point)
        ∙ carrier_push 0 0 w x.point (take t.completed t.points)

    others : (w : ℕ) → (x.point == w) ≡ false → last_carrier (complete_from t (Some x)) w ≡ last_carrier t w
    others w h = carrier w ∙ ap (λ (b : Bool). cond b (0 + length (take t.completed t.points) + 1) (last_carrier t w)) h

    last : last_carrier (complete_from t (Some x)) x.point ≡ t.completed + 1
    last =
        let size = length-take-le t.completed t.points (omega arith) in
        let number : 0 + length (take t.completed t.points) + 1 ≡ t.completed + 1 = omega arith in
        carrier x.point
        ∙ ap (λ (b : Bool). cond b (0 + length (take t.completed t.points) + 1) (last_carrier t x.point)) (self_test x.point)
        ∙ number

    below : (w : ℕ) → last_carrier t w < t.completed + 1
    below w = let most = carrier_at_most t w in omega arith

    between : indexes (entries_from (t.completed + 1) (slice_range t.points (t.completed + 1) t.bound)) ≡ range_with_len (t.completed + 1) (t.bound - (t.completed + 1))
    between =
        let count : t.bound - t.completed ≡ suc (t.bound - (t.completed + 1)) = omega arith in
        let e = sym (ap (λ (xs : List (Option ℕ)). indexes (entries_from t.completed xs)) least.rest) ∙ k.between ∙ ap (range_with_len t.completed) count in
        cc

by_least : {A : Type 0} (t : Timeline) → KeepsLists t → (t.bound ≤ t.completed → first_pending t ≡ None → A) → ((x : Entry) → t.completed < t.bound → IsLeast t x → A) → A
by_least {A} t k none some = by_order (cases_lt t.completed t.bound)
  where
    by_order : (t.completed < t.bound) ⊎ (t.bound ≤ t.completed) → A
    by_order (inl l) = let least = least_pending t k l in some least.0 l least.1
    by_order (inr l) =
        let count : t.bound - t.completed ≡ 0 = omega arith in
        none l (ap (λ (n : ℕ). first_of (entries_from t.completed (take n (drop t.completed t.points)))) count)

pub complete_keeps : (t : Timeline) → KeepsLists t → KeepsLists (after_complete t)
complete_keeps t k =
    by_least t k
    (λ l e. subst (λ (o : Option Entry). KeepsLists (complete_from t o)) (sym e) k)
    (λ x l least. subst (λ (o : Option Entry). KeepsLists (complete_from t o)) (sym least.first) (least_keeps t x k least l))

pub complete_same : (t : Timeline) → KeepsLists t → IsPermutation (all_points t) (all_points (after_complete t))
complete_same t k =
    by_least t k
    (λ l e. subst (λ (o : Option Entry). IsPermutation (all_points t) (all_points (complete_from t o))) (sym e) (IsPermutation-refl (all_points t)))
    (λ x l least. subst (λ (o : Option Entry). IsPermutation (all_points t) (all_points (complete_from t o))) (sym least.first) (complete_moves t x k least).same)
