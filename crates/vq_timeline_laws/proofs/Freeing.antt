-- A freeing on the lists and on the board: the lists stay those of the pass.
use Rattle.std.proofs.Common.{◌≡◌, ◌≢◌, ℕ, ◌<◌, true, not}
use Rattle.std.proofs.Common.{IsPermutation, length, sym, ap, ◌∙◌, subst, arith, inl, inr, ne_eqb, eq-eqb}
use Rattle.std.specs.Prelude.{◌==◌}
use Rattle.std.proofs.lemmas.Bool.{false≢true}
use Rattle.std.proofs.lemmas.List.Sorted.{IsPermutation-trans}
use Rattle.vq_model.specs.Plan.{Plan, chain}
use Rattle.vq_ground.specs.Lists.{has}
use Rattle.vq_ground.proofs.Filters.{filter-has, filter-has_cases}
use Rattle.vq_ground.proofs.Gets.{get_some}
use Rattle.vq_point_laws.specs.Timeline.{Timeline, all_points, after_free}
use Rattle.vq_board_laws.specs.declared.view.View.{View}
use Rattle.vq_board_laws.specs.MayPoints.{MayRetire}
use Rattle.vq_board_laws.specs.PointSteps.{retires}
use Rattle.vq_timeline_laws.specs.Shelves.{HasPoint, AreListsOf, IsKept}
use Rattle.vq_timeline_laws.proofs.Binding.{among}
use Rattle.vq_timeline_laws.proofs.GivenPoints.{left_there, was_there, Carried, waits_for}
use Rattle.vq_timeline_laws.proofs.Places.{values_count, open_waits_not, held_below}

module _ (p : Plan) (t : ℕ) (c : Timeline) (v : View) (x : IsKept p t c v) (q : ℕ)
    (waits : has c.waiting q ≡ true) where
  abbrev last : Carried c q
  last = waits_for c x.kept q waits

  held : HasPoint c last.index q
  held = (last.point, inr (waits, last.last))

  -- a waiting point exists, and its operation is past
  pub waiting_below : q < length p.ops
  waiting_below = held_below p t c v x last.index q held

  pub may_retire : (e : ℕ) × MayRetire p v q e
  may_retire =
      let low = last.before in
      let order = x.kept.in_order in
      let within = x.kept.within in
      let count = values_count p t c x.lists.their_values in
      let at = get_some (chain p t) last.index (omega arith) in (
        at.0,
        record {
          carries = x.lists.carrying_all q last.index at.0 at.1 held;
          past = among p t c.completed last.index at.0 v.past x.lists.past_are at.1 low;
        },
      )

  other_held : (i r : ℕ) → HasPoint (after_free c q) i r → HasPoint c i r × (r ≢ q)
  other_held i r h = elim h.1 [
    | inl low ↦ (
      (h.0, inl low),
      λ (same : r ≡ q).
          open_waits_not c x.kept i r low h.0 (subst (λ (z : ℕ). has c.waiting z ≡ true) (sym same) waits),
    )
    | inr m ↦
        let there = filter-has_cases (λ z. not (z == q)) c.waiting r m.0 in (
          (h.0, inr (there.0, m.1)),
          λ (same : r ≡ q). false≢true (sym (ap not (eq-eqb r q same)) ∙ there.1),
        )
  ]

  still_held : (i r : ℕ) → HasPoint c i r → r ≢ q → HasPoint (after_free c q) i r
  still_held i r h other = (
    h.0,
    elim h.1 [
      | inl low ↦ inl low
      | inr m ↦ inr (filter-has (λ z. not (z == q)) c.waiting r m.0 (ap not (ne_eqb r q other)), m.1)
    ],
  )

  pub lists_freed : (n : ℕ) → IsPermutation (all_points c) (all_points (after_free c q)) →
      AreListsOf p t (after_free c q) (retires v q n)
  lists_freed n moved = record {
    exists = x.lists.exists;
    role_is = x.lists.role_is;
    first = x.lists.first;
    their_values = x.lists.their_values;
    bound_are = x.lists.bound_are;
    past_are = x.lists.past_are;
    points = IsPermutation-trans v.owned (all_points c) (all_points (after_free c q)) x.lists.points moved;
    below = x.lists.below;
    carrying_only = λ r e h.
        let was = was_there q v.carrying r e h in
        let there = x.lists.carrying_only r e was.0 in
        (there.0, there.1, still_held there.0 r there.2 was.1);
    carrying_all = λ r i e at h.
        let was = other_held i r h in
        left_there q v.carrying r e (x.lists.carrying_all r i e at was.0) was.1;
  }
