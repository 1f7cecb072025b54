-- A shelf that gave a point to an operation.
use Rattle.std.proofs.Common.{◌≡◌, ℕ, ◌<◌, List, [], ◌∷◌, ◌++◌, false, Some, None, IsPermutation, length, sym, ap, ◌∙◌, subst}
use Rattle.std.specs.List.{slice_get}
use Rattle.vq_model.specs.declared.plan.Op.{Op}
use Rattle.vq_model.specs.Plan.{chain_of}
use Rattle.vq_ground.specs.Lists.{has}
use Rattle.vq_point_laws.specs.Timeline.{Timeline, KeepsLists, point_at, all_points, after_take, fresh_points}
use Rattle.vq_timeline_core.specs.Answers.{place_of}
use Rattle.vq_timeline_core.specs.declared.answers.OpPlace.TheVariants.{Without}
use Rattle.vq_timeline_core.specs.declared.answers.Taken.TheVariants.{Reused, Fresh}
use Rattle.vq_board_laws.specs.declared.view.View.{View}
use Rattle.vq_board_laws.specs.MayPoints.{MayAssign}
use Rattle.vq_board_laws.specs.PointSteps.{makes, assigns}
use Rattle.vq_board.specs.declared.parts.Board.{Board}
use Rattle.vq_board.specs.declared.parts.Pass.{Pass}
use Rattle.vq_board.specs.Named.{plan_of, view, Turns}
use Rattle.vq_timeline_laws.specs.Calls.{HasTaken, state, place_in}
use Rattle.vq_timeline_laws.specs.ChainOps.{index_of}
use Rattle.vq_timeline_laws.specs.Shelves.{AreListsOf}
use Rattle.vq_timeline_laws.proofs.Cited.{index_is, lists_new, lists_reused, may_assign_new, reused_same}
use Rattle.vq_timeline.specs.declared.parts.Shelf.{Shelf}
use Rattle.vq_timeline.specs.Named.{IsShelfOf, state_of}
use Rattle.vq_timeline.proofs.Shared.{shelf_with, still_shelf}

module _ (b : Board) (x : Shelf) (s : IsShelfOf b x) (o : Op) (e : ℕ) (is : slice_get (plan_of b).ops e ≡ Some o)
    (of_chain : chain_of (plan_of b) e ≡ Some x.chain) (none : point_at x.core o.index ≡ None)
    (place : place_of x.core o.index ≡ Without) (core : Timeline) (kept : KeepsLists core) (p2 : Pass) where
  without : place_in (plan_of b) (state_of x) e ≡ Without
  without = ap (place_of x.core) (index_is (plan_of b) e o is) ∙ place

  module _ (q n : ℕ) (rest : List ℕ) (first : x.core.free ≡ q ∷ rest)
      (given : Turns x.pass p2 (assigns (view x.pass) q e)) (after : core ≡ after_take x.core o.index n) where
    pub reused_shelf :
        IsPermutation (fresh_points x.core.free n ++ all_points x.core) (all_points (after_take x.core o.index n)) →
        IsShelfOf b (shelf_with x core p2)
    reused_shelf moved =
        still_shelf b x core p2 s given.0 given.1 (ap (λ (v : View). v.plan) given.2)
        (subst (λ (z : Timeline × View). AreListsOf (plan_of b) x.chain z.0 z.1) (λ i. (sym after i, sym given.2 i))
        (lists_reused (plan_of b) x.chain x.core (view x.pass) s.1.kept o e is of_chain none q n rest first moved))
        kept

    pub has_reused : HasTaken (plan_of b) (state_of x) (state_of (shelf_with x core p2)) e (Reused q)
    has_reused =
        let lists : core ≡ after_take x.core (index_of (plan_of b) e) q =
        after ∙ reused_same x.core o.index q n q rest first
        ∙ ap (λ (i : ℕ). after_take x.core i q) (sym (index_is (plan_of b) e o is)) in (
          without,
          ap (λ (qs : List ℕ). slice_get qs 0) first,
          λ i. state (lists i) (given.2 i) (given.3 i),
        )

  module _ (q : ℕ) (empty : x.core.free ≡ []) (new : has (view x.pass).owned q ≡ false) (p1 : Pass)
      (made : Turns x.pass p1 (makes (view x.pass) q)) where
    pub may_give_new : MayAssign (plan_of b) (view p1) q e
    may_give_new =
        subst (λ (v : View). MayAssign (plan_of b) v q e) (sym made.2)
        (may_assign_new (plan_of b) x.chain x.core (view x.pass) s.1.kept o e is of_chain none q new)

    module _ (given : Turns p1 p2 (assigns (view p1) q e)) (after : core ≡ after_take x.core o.index q) where
      view_is : view p2 ≡ assigns (makes (view x.pass) q) q e
      view_is = given.2 ∙ ap (λ (v : View). assigns v q e) made.2

      pub new_shelf : q < length (plan_of b).ops →
          IsPermutation (fresh_points x.core.free q ++ all_points x.core) (all_points (after_take x.core o.index q)) →
          IsShelfOf b (shelf_with x core p2)
      new_shelf low moved =
          still_shelf b x core p2 s (given.0 ∙ made.0) (given.1 ∙ made.1) (ap (λ (v : View). v.plan) view_is)
          (subst (λ (z : Timeline × View). AreListsOf (plan_of b) x.chain z.0 z.1) (λ i. (sym after i, sym view_is i))
          (lists_new (plan_of b) x.chain x.core (view x.pass) s.1.kept o e is of_chain none q empty low moved))
          kept

      pub has_new : HasTaken (plan_of b) (state_of x) (state_of (shelf_with x core p2)) e (Fresh q)
      has_new =
          let lists : core ≡ after_take x.core (index_of (plan_of b) e) q =
          after ∙ ap (λ (i : ℕ). after_take x.core i q) (sym (index_is (plan_of b) e o is)) in
          let counts = given.3 ∙ made.3 in (
            without,
            empty,
            new,
            λ i. state (lists i) (view_is i) (counts i),
          )
