-- A shelf that freed a point, or found none that it could free.
use Rattle.std.proofs.Common.{◌≡◌, ℕ, List, ◌∷◌, true, IsPermutation, sym, ap, ◌∙◌, subst}
use Rattle.vq_ground.specs.Lists.{has}
use Rattle.vq_ground.proofs.Lists.{has-append_right, has_here}
use Rattle.vq_point_laws.specs.Timeline.{Timeline, KeepsLists, all_points, after_free}
use Rattle.vq_board_laws.specs.declared.view.View.{View}
use Rattle.vq_board_laws.specs.PointSteps.{sees}
use Rattle.vq_board.specs.declared.parts.Board.{Board}
use Rattle.vq_board.specs.declared.parts.Pass.{Pass}
use Rattle.vq_board.specs.Named.{plan_of, view, Turns}
use Rattle.vq_timeline_laws.specs.Shelves.{AreListsOf, IsKept}
use Rattle.vq_timeline_laws.specs.Waiting.{FindsAllInUse, FindsFree}
use Rattle.vq_timeline_laws.proofs.Cited.{all_looked, kept_looked, lists_freed}
use Rattle.vq_timeline.specs.declared.parts.Shelf.{Shelf}
use Rattle.vq_timeline.specs.Named.{IsShelfOf}
use Rattle.vq_timeline.proofs.Shared.{shelf_with, still_shelf}

pub waits : (qs : List ℕ) (v w : View) (q : ℕ) → FindsFree qs v w q → has qs q ≡ true
waits qs v w q f =
    ap (λ (rs : List ℕ). has rs q) f.are ∙ has-append_right f.front (q ∷ f.back) q (has_here q f.back)

module _ (b : Board) (x : Shelf) (s : IsShelfOf b x) (p1 : Pass) (turns : Turns x.pass p1 (view p1)) where
  pub freed_shelf : (q : ℕ) (core : Timeline) → FindsFree x.core.waiting (view x.pass) (view p1) q →
      core ≡ after_free x.core q → KeepsLists core →
      IsPermutation (all_points x.core) (all_points (after_free x.core q)) → IsShelfOf b (shelf_with x core p1)
  freed_shelf q core f after kept moved =
      let same = all_looked f.front (view x.pass) f.found f.in_use in
      let k = kept_looked (plan_of b) x.chain x.core (view x.pass) f.found same s.1.kept in
      let again : IsKept (plan_of b) x.chain x.core (sees f.found q f.word) =
      record { plan = k.plan; lawful = k.lawful; lists = k.lists; kept = k.kept } in
      let lists = lists_freed (plan_of b) x.chain x.core (sees f.found q f.word) again q
      (waits x.core.waiting (view x.pass) (view p1) q f) f.word moved in
      still_shelf b x core p1 s turns.0 turns.1
      (ap (λ (v : View). v.plan) f.after ∙ ap (λ (v : View). v.plan) same)
      (subst (λ (z : Timeline × View). AreListsOf (plan_of b) x.chain z.0 z.1) (λ i. (sym after i, sym f.after i)) lists)
      kept

  pub looked_shelf : FindsAllInUse x.core.waiting (view x.pass) (view p1) → IsShelfOf b (shelf_with x x.core p1)
  looked_shelf all =
      let same = all_looked x.core.waiting (view x.pass) (view p1) all in
      let k = kept_looked (plan_of b) x.chain x.core (view x.pass) (view p1) same s.1.kept in
      still_shelf b x x.core p1 s turns.0 turns.1 (ap (λ (v : View). v.plan) same) k.lists k.kept
