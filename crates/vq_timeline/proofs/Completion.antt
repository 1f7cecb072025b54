-- A shelf that completed its least pending operation.
use Rattle.std.proofs.Common.{◌≡◌, ℕ, ◌&&◌, List, Bool, true, Some, IsPermutation, if◌then◌else◌, sym, ap, ◌∙◌, subst}
use Rattle.std.specs.List.{slice_get}
use Rattle.vq_model.specs.declared.plan.Op.{Op}
use Rattle.vq_model.specs.Plan.{chain}
use Rattle.vq_point.specs.declared.PointWord.{PointWord}
use Rattle.vq_point.specs.Word.{bits_of}
use Rattle.vq_point_laws.specs.PointWord.{parts, PointWord as Parts}
use Rattle.vq_point_laws.specs.Timeline.{Timeline, Entry, KeepsLists, first_pending, all_points, after_complete}
use Rattle.vq_board_laws.specs.declared.view.View.{View}
use Rattle.vq_board_laws.specs.MayPoints.{MayComplete}
use Rattle.vq_board_laws.specs.PointSteps.{sees, completes}
use Rattle.vq_board_laws.specs.Words.{Carries}
use Rattle.vq_board.specs.declared.parts.Board.{Board}
use Rattle.vq_board.specs.declared.parts.Pass.{Pass}
use Rattle.vq_board.specs.Firsts.{counted, counted_word}
use Rattle.vq_board.specs.Named.{plan_of, view, counts_of, TurnsWith}
use Rattle.vq_timeline_laws.specs.Calls.{HasCompleted, state}
use Rattle.vq_timeline_laws.specs.Shelves.{AreListsOf}
use Rattle.vq_timeline_laws.proofs.Cited.{lists_completed, may_complete}
use Rattle.vq_timeline.specs.declared.parts.Shelf.{Shelf}
use Rattle.vq_timeline.specs.Named.{IsShelfOf, state_of}
use Rattle.vq_timeline.proofs.Shared.{shelf_with, still_shelf}

abbrev pub parts_are : PointWord → Parts
parts_are w = record { op = w.op; refs = w.refs; signaled = w.signaled; held = w.held }

pub counts_seen : (ops : List Op) (w : PointWord) (e : ℕ) (counts : List ℕ) → w.held ≡ true → w.signaled ≡ true →
    w.op ≡ e → counted_word ops w counts ≡ counted ops e counts
counts_seen ops w e counts held set op =
    ap (λ (b : Bool). if b && w.signaled then counted ops w.op counts else counts) held
    ∙ ap (λ (b : Bool). if b then counted ops w.op counts else counts) set
    ∙ ap (λ (o : ℕ). counted ops o counts) op

module _ (b : Board) (x : Shelf) (s : IsShelfOf b x) (y : Entry) (e : ℕ) (w : PointWord)
    (first : first_pending x.core ≡ Some y) (here : slice_get (chain (plan_of b) x.chain) y.index ≡ Some e)
    (held : (w.held ≡ true) × (w.op ≡ e)) (set : w.signaled ≡ true)
    (are : parts (bits_of w) ≡ parts_are w) (p1 : Pass)
    (looked : TurnsWith x.pass p1 (sees (view x.pass) y.point (bits_of w))
    (counted_word (plan_of b).ops w (counts_of x.pass))) where
  carries : Carries (bits_of w) e
  carries = record {
    held = ap (λ (z : Parts). z.held) are ∙ held.0;
    op = ap (λ (z : Parts). z.op) are ∙ held.1;
  }

  signaled : (parts (bits_of w)).signaled ≡ true
  signaled = ap (λ (z : Parts). z.signaled) are ∙ set

  pub may : MayComplete (plan_of b) (view p1) e
  may =
      subst (λ (v : View). MayComplete (plan_of b) v e) (sym looked.2)
      (may_complete (plan_of b) x.chain x.core (view x.pass) s.1.kept y e first here (bits_of w) carries signaled)

  module _ (p2 : Pass) (core : Timeline)
      (done : TurnsWith p1 p2 (completes (view p1) e) (counted (plan_of b).ops e (counts_of p1)))
      (after : core ≡ after_complete x.core) where
    seen : view p2 ≡ completes (sees (view x.pass) y.point (bits_of w)) e
    seen = done.2 ∙ ap (λ (v : View). completes v e) looked.2

    pub completed_shelf : KeepsLists core → IsPermutation (all_points x.core) (all_points (after_complete x.core)) →
        IsShelfOf b (shelf_with x core p2)
    completed_shelf kept moved =
        still_shelf b x core p2 s (done.0 ∙ looked.0) (done.1 ∙ looked.1) (ap (λ (v : View). v.plan) seen)
        (subst (λ (z : Timeline × View). AreListsOf (plan_of b) x.chain z.0 z.1) (λ i. (sym after i, sym seen i))
        (lists_completed (plan_of b) x.chain x.core (view x.pass) s.1.kept y e first here (bits_of w) moved))
        kept

    pub completed : HasCompleted (plan_of b) x.chain (state_of x) (state_of (shelf_with x core p2)) e
    completed = record {
      entry = y;
      first = first;
      operation = here;
      word = bits_of w;
      carried = carries;
      signaled = signaled;
      after =
          let counts : counts_of p2 ≡ counted (plan_of b).ops e (counted (plan_of b).ops e (counts_of x.pass)) =
          done.3 ∙ ap (counted (plan_of b).ops e)
          (looked.3 ∙ counts_seen (plan_of b).ops w e (counts_of x.pass) held.0 set held.1) in
          λ i. state (after i) (seen i) (counts i);
    }
