-- Looks of an actor at a board: what is looked at is there, and the places stay true.
use Rattle.std.proofs.Common.{◌≡◌, ◌<◌, ◌≤◌, ℕ, length, refl, sym, subst, arith}
use Rattle.vq_board_laws.proofs.Cited.{learns_recall}
use Rattle.vq_model.specs.Checks.{IsLawful}
use Rattle.vq_model.specs.LoweredPlans.{IsPlan}
use Rattle.vq_turns.specs.declared.task.Task.TheVariants.{AwaitSubmitted, AwaitReleased, AwaitFinished, AwaitBound}
use Rattle.vq_turns.specs.Turns.{forward}
use Rattle.vq_board_laws.specs.declared.view.JobState.{JobState}
use Rattle.vq_board_laws.specs.declared.view.JobState.TheVariants.{Waiting, Submitted, Released, Started, Finished}
use Rattle.vq_board_laws.specs.declared.view.OpState.{OpState}
use Rattle.vq_board_laws.specs.declared.view.OpState.TheVariants.{Unbound as UnboundOp}
use Rattle.vq_board_laws.specs.declared.view.View.{View}
use Rattle.vq_board_laws.specs.Knowledge.{state_number}
use Rattle.vq_board_laws.specs.PointSteps.{recalls}
use Rattle.vq_board_laws.specs.Steps.{looks}
use Rattle.vq_board.specs.Named.{plan_of}
use Rattle.vq_board_laws.specs.Learning.{Learns}
use Rattle.vq_access_laws.proofs.Cited.{learns_job, true_learned}
use Rattle.vq_access_laws.proofs.Cited.{true_seen_submitted, true_seen_released, true_seen_finished, true_seen_bound}
use Rattle.vq_access.specs.declared.post.Post.{Post}
use Rattle.vq_access.proofs.Existing.{submitted_exists, released_exists, finished_exists, bound_exists}
use Rattle.vq_access.proofs.Posting.{at, here, seen_by, IsNextTask, AreTrueOf, served, next_there, goes_forward, of_board_plan}

-- how far a job is that is no less far

pub not_waiting : (s : JobState) → (s ≡ Waiting → ⊥) → 1 ≤ state_number s
not_waiting Waiting h = absurd (h refl)
not_waiting Submitted h = omega arith
not_waiting Released h = omega arith
not_waiting Started h = omega arith
not_waiting Finished h = omega arith

pub not_held_back : (s : JobState) → (s ≡ Waiting → ⊥) → (s ≡ Submitted → ⊥) → 2 ≤ state_number s
not_held_back Waiting h g = absurd (h refl)
not_held_back Submitted h g = absurd (g refl)
not_held_back Released h g = omega arith
not_held_back Started h g = omega arith
not_held_back Finished h g = omega arith

pub all_done : (s : JobState) → s ≡ Finished → 4 ≤ state_number s
all_done s e = subst (λ (r : JobState). 4 ≤ state_number r) (sym e) (omega arith)

module _ (x : Post) (i : IsPlan x.ordered.now) (l : IsLawful x.ordered.now) where
  pub submitted_is_there : (j : ℕ) → IsNextTask x (AwaitSubmitted j) → j < length (plan_of x.board.now).jobs
  submitted_is_there j n =
      of_board_plan x (λ p. j < length p.jobs) (submitted_exists x.ordered.now i l x.actor x.seat.now.place.done j n)

  pub released_is_there : (j : ℕ) → IsNextTask x (AwaitReleased j) → j < length (plan_of x.board.now).jobs
  released_is_there j n =
      of_board_plan x (λ p. j < length p.jobs) (released_exists x.ordered.now i l x.actor x.seat.now.place.done j n)

  pub finished_is_there : (j : ℕ) → IsNextTask x (AwaitFinished j) → j < length (plan_of x.board.now).jobs
  finished_is_there j n =
      of_board_plan x (λ p. j < length p.jobs) (finished_exists x.ordered.now i l x.actor x.seat.now.place.done j n)

  pub bound_is_there : (e : ℕ) → IsNextTask x (AwaitBound e) → e < length (plan_of x.board.now).ops
  bound_is_there e n =
      of_board_plan x (λ p. e < length p.ops) (bound_exists x.ordered.now i l x.actor x.seat.now.place.done e n)

  -- what was learned changes no place
  pub learned : (w u : View) → w ≡ u → Learns (seen_by x) u → AreTrueOf x w (here x)
  learned w u e h =
      subst (λ (z : View). AreTrueOf x z (here x)) (sym e)
      (true_learned x.ordered.now i l x.owner (seen_by x) (at x (here x)) x.places u h)

  pub looked_at_job : (w : View) (j : ℕ) (s : JobState) → w ≡ looks (seen_by x) j s → AreTrueOf x w (here x)
  looked_at_job w j s e = learned w (looks (seen_by x) j s) e (learns_job (seen_by x) j s)

  pub looked_at_op : (w : View) (f : ℕ) (s : OpState) → w ≡ recalls (seen_by x) f s → AreTrueOf x w (here x)
  looked_at_op w f s e = learned w (recalls (seen_by x) f s) e (learns_recall (seen_by x) f s)

  pub saw_submitted : (j : ℕ) (s : JobState) → IsNextTask x (AwaitSubmitted j) → 1 ≤ state_number s →
      AreTrueOf x (looks (seen_by x) j s) (forward (here x))
  saw_submitted j s n far =
      true_seen_submitted x.ordered.now i l x.owner (seen_by x) (at x (here x)) x.places x.actor (served x)
      (at x (forward (here x))) (goes_forward x) j s (next_there x (AwaitSubmitted j) n) far

  pub saw_released : (j : ℕ) (s : JobState) → IsNextTask x (AwaitReleased j) → 2 ≤ state_number s →
      AreTrueOf x (looks (seen_by x) j s) (forward (here x))
  saw_released j s n far =
      true_seen_released x.ordered.now i l x.owner (seen_by x) (at x (here x)) x.places x.actor (served x)
      (at x (forward (here x))) (goes_forward x) j s (next_there x (AwaitReleased j) n) far

  pub saw_finished : (j : ℕ) (s : JobState) → IsNextTask x (AwaitFinished j) → 4 ≤ state_number s →
      AreTrueOf x (looks (seen_by x) j s) (forward (here x))
  saw_finished j s n far =
      true_seen_finished x.ordered.now i l x.owner (seen_by x) (at x (here x)) x.places x.actor (served x)
      (at x (forward (here x))) (goes_forward x) j s (next_there x (AwaitFinished j) n) far

  pub saw_bound : (f : ℕ) (s : OpState) → IsNextTask x (AwaitBound f) → (s ≡ UnboundOp → ⊥) →
      AreTrueOf x (recalls (seen_by x) f s) (forward (here x))
  saw_bound f s n bound =
      true_seen_bound x.ordered.now i l x.owner (seen_by x) (at x (here x)) x.places x.actor (served x)
      (at x (forward (here x))) (goes_forward x) f s (next_there x (AwaitBound f) n) bound
