-- A freeing keeps the lists of a timeline, and loses no point.
use Rattle.std.proofs.Common.{ℕ, ◌++◌, List, [], ◌∷◌, ◌∙◌, ap, IsPermutation, map, sym, subst}
use Rattle.vq_point_laws.specs.Timeline.{Timeline, KeepsLists, points_of, pending, taken, MayFree, all_points, after_free, last_carrier}
use Rattle.vq_ground.specs.Lists.{AreRisingFrom}
use Rattle.vq_point_laws.proofs.TimelineLists.{IsRemoved, removed, distinct_back, IsMoved, moved}
use Rattle.vq_point_laws.proofs.PartedLists.{fourth_parted, grouped_last}
use Rattle.std.proofs.lemmas.List.{map-append}
use Rattle.std.proofs.lemmas.List.Sorted.{length_permutation}
use Rattle.vq_point_laws.proofs.Carriers.{rising_without}

-- A freeing

waits_once : (t : Timeline) (point : ℕ) → KeepsLists t → MayFree t point → IsRemoved point t.waiting
waits_once t point k can =
    removed point t.waiting (distinct_back (t.free ++ points_of (taken t) ++ points_of (pending t)) t.waiting k.distinct) can

free_moves : (t : Timeline) (point : ℕ) → KeepsLists t → MayFree t point → IsMoved (all_points t) (all_points (after_free t point))
free_moves t point k can =
    let r = waits_once t point k can in
    let first = points_of (taken t) in
    let second = points_of (pending t) in
    moved (all_points t) (all_points (after_free t point))
    (t.free ++ first ++ second ++ r.front) r.back [] (t.free ++ first ++ second ++ (r.front ++ r.back)) point
    (ap (λ (xs : List ℕ). t.free ++ first ++ second ++ xs) r.is ∙ fourth_parted t.free first second r.front r.back point)
    (ap (λ (xs : List ℕ). point ∷ (t.free ++ first ++ second ++ xs)) r.left)
    (grouped_last t.free first second r.front r.back) k.distinct

pub free_same : (t : Timeline) (point : ℕ) → KeepsLists t → MayFree t point → IsPermutation (all_points t) (all_points (after_free t point))
free_same t point k can = (free_moves t point k can).same

pub free_keeps : (t : Timeline) (point : ℕ) → KeepsLists t → MayFree t point → KeepsLists (after_free t point)
free_keeps t point k can =
    let r = waits_once t point k can in
    let moves = free_moves t point k can in
    let f = last_carrier t in
    record {
      rising = k.rising;
      one_each = k.one_each;
      in_order = k.in_order;
      within = k.within;
      had = k.had;
      between = k.between;
      completion =
          subst (AreRisingFrom 0) (sym (ap (map f) r.left ∙ map-append f r.front r.back))
          (rising_without 0 (f point) (map f r.front) (map f r.back)
          (subst (AreRisingFrom 0) (ap (map f) r.is ∙ map-append f r.front (point ∷ r.back)) k.completion));
      distinct = moves.distinct;
      all = length_permutation (all_points t) (all_points (after_free t point)) moves.same ∙ k.all;
      few = k.few;
    }
