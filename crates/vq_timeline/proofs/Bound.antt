-- A shelf that bound an operation, or read that it may not be bound yet.
use Rattle.std.proofs.Common.{◌≡◌, ℕ, true, Some, IsPermutation, sym, ap, ◌∙◌, subst}
use Rattle.std.specs.List.{slice_get}
use Rattle.std.specs.Option.{option_map_or}
use Rattle.std.proofs.Common.{Option}
use Rattle.vq_model.specs.declared.plan.Op.{Op}
use Rattle.vq_model.specs.Plan.{chain_of}
use Rattle.vq_point_laws.specs.Timeline.{Timeline, KeepsLists, point_at, all_points, after_bind}
use Rattle.vq_timeline_core.specs.Answers.{place_of}
use Rattle.vq_timeline_core.specs.declared.answers.OpPlace.TheVariants.{Taken}
use Rattle.vq_board_laws.specs.declared.view.JobState.{JobState}
use Rattle.vq_board_laws.specs.declared.view.View.{View}
use Rattle.vq_board_laws.specs.MayPoints.{MayBind}
use Rattle.vq_board_laws.specs.PointSteps.{binds}
use Rattle.vq_board_laws.specs.Steps.{looks}
use Rattle.vq_board.specs.declared.parts.Board.{Board}
use Rattle.vq_board.specs.declared.parts.Pass.{Pass}
use Rattle.vq_board.specs.Named.{plan_of, view, counts_of, Turns}
use Rattle.vq_timeline_laws.specs.Calls.{may_bind, HasBound, state, place_in}
use Rattle.vq_timeline_laws.specs.ChainOps.{job_at, of_host}
use Rattle.vq_timeline_laws.specs.Shelves.{AreListsOf}
use Rattle.vq_timeline_laws.proofs.Cited.{index_is, lists_bound, may_bind_op}
use Rattle.vq_timeline.specs.declared.parts.Shelf.{Shelf}
use Rattle.vq_timeline.specs.Named.{IsShelfOf, state_of}
use Rattle.vq_timeline.proofs.Shared.{shelf_with, still_shelf}

module _ (b : Board) (x : Shelf) (s : IsShelfOf b x) (o : Op) (e : ℕ) (is : slice_get (plan_of b).ops e ≡ Some o)
    (of_chain : chain_of (plan_of b) e ≡ Some x.chain) where
  pub job_is : job_at (plan_of b) e ≡ o.job
  job_is = ap (λ (z : Option Op). option_map_or (λ (y : Op). y.job) z 0) is

  pub place_is : place_in (plan_of b) (state_of x) e ≡ place_of x.core o.index
  place_is = ap (place_of x.core) (index_is (plan_of b) e o is)

  module _ (seen : JobState) (p1 : Pass) (looked : Turns x.pass p1 (looks (view x.pass) o.job seen)) where
    pub looked_shelf : IsShelfOf b (shelf_with x x.core p1)
    looked_shelf =
        still_shelf b x x.core p1 s looked.0 looked.1 (ap (λ (v : View). v.plan) looked.2)
        (subst (λ (v : View). AreListsOf (plan_of b) x.chain x.core v) (sym looked.2) s.1.kept.lists) s.1.kept.kept

    pub looked_state : state_of (shelf_with x x.core p1)
        ≡ state x.core (looks (view x.pass) (job_at (plan_of b) e) seen) (counts_of x.pass)
    looked_state =
        let view_is : view p1 ≡ looks (view x.pass) (job_at (plan_of b) e) seen =
        looked.2 ∙ ap (λ (j : ℕ). looks (view x.pass) j seen) (sym job_is) in
        λ i. state x.core (view_is i) (looked.3 i)

    module _ (q : ℕ) (next : x.core.bound ≡ o.index) (point : point_at x.core o.index ≡ Some q)
        (far : may_bind (of_host (plan_of b) e) seen ≡ true) where
      pub may : MayBind (plan_of b) (view p1) e q
      may =
          subst (λ (v : View). MayBind (plan_of b) v e q) (sym looked.2)
          (may_bind_op (plan_of b) x.chain x.core (view x.pass) s.1.kept o e q is of_chain next point seen far)

      module _ (p2 : Pass) (bound : Turns p1 p2 (binds (view p1) e q)) (core : Timeline)
          (after : core ≡ after_bind x.core) where
        view_is : view p2 ≡ binds (looks (view x.pass) o.job seen) e q
        view_is = bound.2 ∙ ap (λ (v : View). binds v e q) looked.2

        pub bound_shelf : KeepsLists core → IsPermutation (all_points x.core) (all_points (after_bind x.core)) →
            IsShelfOf b (shelf_with x core p2)
        bound_shelf kept moved =
            still_shelf b x core p2 s (bound.0 ∙ looked.0) (bound.1 ∙ looked.1) (ap (λ (v : View). v.plan) view_is)
            (subst (λ (z : Timeline × View). AreListsOf (plan_of b) x.chain z.0 z.1) (λ i. (sym after i, sym view_is i))
            (lists_bound (plan_of b) x.chain x.core (view x.pass) s.1.kept o e q is of_chain next point seen moved))
            kept

        pub has_bound : place_of x.core o.index ≡ Taken q →
            HasBound (plan_of b) (state_of x) (state_of (shelf_with x core p2)) e q
        has_bound place = record {
          taken = place_is ∙ place;
          next = next ∙ sym (index_is (plan_of b) e o is);
          seen = seen;
          far = far;
          after =
              let view_of_job : view p2 ≡ binds (looks (view x.pass) (job_at (plan_of b) e) seen) e q =
              view_is ∙ ap (λ (j : ℕ). binds (looks (view x.pass) j seen) e q) (sym job_is) in
              let counts = bound.3 ∙ looked.3 in
              λ i. state (after i) (view_of_job i) (counts i);
        }
