-- The events of jobs that an actor at a board makes: that it may, and that the places stay true.
use Rattle.std.proofs.Common.{◌≡◌, ◌<◌, ℕ, true, length}
use Rattle.std.specs.List.{list_all}
use Rattle.vq_model.specs.Checks.{IsLawful}
use Rattle.vq_model.specs.LoweredPlans.{IsPlan}
use Rattle.vq_model.specs.Plan.{signals_of}
use Rattle.vq_ground.specs.Lists.{has}
use Rattle.vq_turns.specs.declared.task.Task.TheVariants.{Submit, Release, Start, Finish}
use Rattle.vq_turns.specs.Turns.{forward}
use Rattle.vq_board_laws.specs.declared.view.View.{View}
use Rattle.vq_board_laws.specs.May.{MaySubmit, MayRelease, MayStart, MayFinish}
use Rattle.vq_board_laws.specs.Steps.{submits, releases, starts, finishes}
use Rattle.vq_board.specs.Named.{plan_of}
use Rattle.vq_board_laws.specs.Learning.{Learns}
use Rattle.vq_access_laws.specs.Tests.{knows_taken}
use Rattle.vq_access_laws.proofs.Cited.{may_submit, may_release, may_start, may_finish}
use Rattle.vq_access_laws.proofs.Cited.{true_learned, true_submitted, true_released, true_started, true_finished}
use Rattle.vq_access.specs.declared.post.Post.{Post}
use Rattle.vq_access.proofs.Existing.{release_exists, signal_exists}
use Rattle.vq_access.proofs.Posting.{at, here, seen_by, IsNextTask, AreTrueOf, served, next_there, goes_forward, of_board_plan}

module _ (x : Post) (i : IsPlan x.ordered.now) (l : IsLawful x.ordered.now) where
  pub submits_may : (j : ℕ) → IsNextTask x (Submit j) → MaySubmit (plan_of x.board.now) (seen_by x) j
  submits_may j n =
      of_board_plan x (λ p. MaySubmit p (seen_by x) j)
      (may_submit x.ordered.now i l x.owner (seen_by x) (at x (here x)) x.places x.actor (served x) j
      (next_there x (Submit j) n))

  pub submits_truly : (j : ℕ) → IsNextTask x (Submit j) → AreTrueOf x (submits (seen_by x) j) (forward (here x))
  submits_truly j n =
      true_submitted x.ordered.now i l x.owner (seen_by x) (at x (here x)) x.places x.actor (served x) j
      (next_there x (Submit j) n) (at x (forward (here x))) (goes_forward x)

  -- after looks at the points of its signals
  module _ (v : View) (learned : Learns (seen_by x) v) where
    pub releases_may : (j : ℕ) → IsNextTask x (Release j) →
        list_all (knows_taken v.known) (signals_of x.ordered.now j) ≡ true → MayRelease (plan_of x.board.now) v j
    releases_may j n known =
        of_board_plan x (λ p. MayRelease p v j)
        (may_release x.ordered.now i l x.owner v (at x (here x))
        (true_learned x.ordered.now i l x.owner (seen_by x) (at x (here x)) x.places v learned) x.actor (served x) j
        (next_there x (Release j) n) known)

    pub releases_truly : (j : ℕ) → IsNextTask x (Release j) → AreTrueOf x (releases v j) (forward (here x))
    releases_truly j n =
        true_released x.ordered.now i l x.owner v (at x (here x))
        (true_learned x.ordered.now i l x.owner (seen_by x) (at x (here x)) x.places v learned) x.actor (served x) j
        (next_there x (Release j) n) (at x (forward (here x))) (goes_forward x)

  pub starts_may : (j : ℕ) → IsNextTask x (Start j) → MayStart (plan_of x.board.now) (seen_by x) j
  starts_may j n =
      of_board_plan x (λ p. MayStart p (seen_by x) j)
      (may_start x.ordered.now i l x.owner (seen_by x) (at x (here x)) x.places x.actor (served x) j
      (next_there x (Start j) n))

  pub finishes_may : (j : ℕ) → IsNextTask x (Finish j) → MayFinish (plan_of x.board.now) (seen_by x) j
  finishes_may j n =
      of_board_plan x (λ p. MayFinish p (seen_by x) j)
      (may_finish x.ordered.now i l x.owner (seen_by x) (at x (here x)) x.places x.actor (served x) j
      (next_there x (Finish j) n)).0

  pub finishes_there : (j : ℕ) → IsNextTask x (Finish j) → j < length (plan_of x.board.now).jobs
  finishes_there j n =
      of_board_plan x (λ p. j < length p.jobs)
      (may_finish x.ordered.now i l x.owner (seen_by x) (at x (here x)) x.places x.actor (served x) j
      (next_there x (Finish j) n)).1

  pub starts_truly : (j : ℕ) → IsNextTask x (Start j) → AreTrueOf x (starts (seen_by x) j) (forward (here x))
  starts_truly j n =
      true_started x.ordered.now i l x.owner (seen_by x) (at x (here x)) x.places x.actor (served x)
      (at x (forward (here x))) j (next_there x (Start j) n) (goes_forward x)

  pub finishes_truly : (j : ℕ) → IsNextTask x (Finish j) → AreTrueOf x (finishes (seen_by x) j) (forward (here x))
  finishes_truly j n =
      true_finished x.ordered.now i l x.owner (seen_by x) (at x (here x)) x.places x.actor (served x)
      (at x (forward (here x))) j (next_there x (Finish j) n) (goes_forward x)

  -- the batch and its signals are there
  pub releases_there : (j : ℕ) → IsNextTask x (Release j) → j < length x.ordered.now.jobs
  releases_there j n = release_exists x.ordered.now i l x.actor x.seat.now.place.done j n

  pub signals_there : (j e : ℕ) → has (signals_of x.ordered.now j) e ≡ true → e < length x.ordered.now.ops
  signals_there j e m = signal_exists x.ordered.now i l j e m
