-- The commands and signals that an actor at a board makes: that it may, and that the places stay true.
use Rattle.std.proofs.Common.{◌≡◌, ◌<◌, ℕ, [], Some, None, length}
use Rattle.vq_model.specs.Checks.{IsLawful}
use Rattle.vq_model.specs.LoweredPlans.{IsPlan}
use Rattle.vq_model.specs.Memory.{Memory}
use Rattle.vq_turns.specs.declared.task.Task.TheVariants.{Apply, Signal}
use Rattle.vq_turns.specs.Turns.{forward}
use Rattle.vq_board_laws.specs.declared.view.OpState.TheVariants.{Bound as BoundOp}
use Rattle.vq_board_laws.specs.declared.view.View.{View}
use Rattle.vq_board_laws.specs.May.{MayEnter}
use Rattle.vq_board_laws.specs.MayPoints.{MaySignal}
use Rattle.vq_board_laws.specs.PointSteps.{recalls, signals}
use Rattle.vq_board_laws.specs.Steps.{takes_turn, misses_turn, gives_turn, enters}
use Rattle.vq_board.specs.Named.{plan_of}
use Rattle.vq_access_laws.proofs.Cited.{may_take_turn, may_enter, may_signal}
use Rattle.vq_access_laws.proofs.Cited.{learns_turn, true_applied, true_signaled}
use Rattle.vq_access.specs.declared.post.Post.{Post}
use Rattle.vq_access.proofs.Existing.{command_there, signal_there}
use Rattle.vq_access.proofs.Looking.{learned}
use Rattle.vq_access.proofs.Posting.{at, here, seen_by, IsNextTask, AreTrueOf, served, next_there, goes_forward, of_board_plan}

module _ (x : Post) (i : IsPlan x.ordered.now) (l : IsLawful x.ordered.now) where
  enters_so : (j c : ℕ) → IsNextTask x (Apply j c) → (n : ℕ) (bytes : Memory) →
      MayEnter x.ordered.now (takes_turn (seen_by x) n bytes) c
  enters_so j c n filled bytes =
      may_enter x.ordered.now i l x.owner (seen_by x) (at x (here x)) x.places x.actor (served x) j c
      (next_there x (Apply j c) n) filled bytes

  pub enters_may : (j c : ℕ) → IsNextTask x (Apply j c) → (n : ℕ) (bytes : Memory) →
      MayEnter (plan_of x.board.now) (takes_turn (seen_by x) n bytes) c
  enters_may j c n filled bytes =
      of_board_plan x (λ p. MayEnter p (takes_turn (seen_by x) filled bytes) c) (enters_so j c n filled bytes)

  pub enters_there : (j c : ℕ) → IsNextTask x (Apply j c) → c < length (plan_of x.board.now).commands
  enters_there j c n =
      let m = enters_so j c n 0 [] in
      of_board_plan x (λ p. c < length p.commands) (command_there x.ordered.now i l m.job c (seen_by x).entered m.next)

  pub runs_here : (j c : ℕ) → IsNextTask x (Apply j c) → ((seen_by x).runs ≡ Some j) × ((seen_by x).held ≡ None)
  runs_here j c n =
      may_take_turn x.ordered.now i l x.owner (seen_by x) (at x (here x)) x.places x.actor (served x) j c
      (next_there x (Apply j c) n)

  pub enters_truly : (j c : ℕ) → IsNextTask x (Apply j c) → (n m : ℕ) (bytes more : Memory) →
      AreTrueOf x (gives_turn (enters (takes_turn (seen_by x) n bytes) c m more)) (forward (here x))
  enters_truly j c next n m bytes more =
      true_applied x.ordered.now i l x.owner (seen_by x) (at x (here x)) x.places x.actor (served x)
      (at x (forward (here x))) j c n m bytes more (next_there x (Apply j c) next) (goes_forward x)

  pub missed_turn : (w : View) (n : ℕ) → w ≡ misses_turn (seen_by x) n → AreTrueOf x w (here x)
  missed_turn w n e = learned x i l w (misses_turn (seen_by x) n) e (learns_turn (seen_by x) n)

  signals_so : (e : ℕ) → IsNextTask x (Signal e) → MaySignal x.ordered.now (seen_by x) e
  signals_so e n =
      may_signal x.ordered.now i l x.owner (seen_by x) (at x (here x)) x.places x.actor (served x) e
      (next_there x (Signal e) n)

  pub signals_may : (e : ℕ) → IsNextTask x (Signal e) → MaySignal (plan_of x.board.now) (seen_by x) e
  signals_may e n = of_board_plan x (λ p. MaySignal p (seen_by x) e) (signals_so e n)

  pub signals_there : (e : ℕ) → IsNextTask x (Signal e) → e < length (plan_of x.board.now).ops
  signals_there e n =
      let m = signals_so e n in
      of_board_plan x (λ p. e < length p.ops) (signal_there x.ordered.now i l m.job e (seen_by x).signaled m.next)

  pub signals_truly : (e q n : ℕ) → IsNextTask x (Signal e) →
      AreTrueOf x (signals (recalls (seen_by x) e (BoundOp q)) e q n) (forward (here x))
  signals_truly e q n next =
      true_signaled x.ordered.now i l x.owner (seen_by x) (at x (here x)) x.places x.actor (served x)
      (at x (forward (here x))) e q n (BoundOp q) (next_there x (Signal e) next) (goes_forward x)
