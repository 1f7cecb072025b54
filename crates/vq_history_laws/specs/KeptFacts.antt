-- What each world of a history keeps of its points, its jobs and its references. This project's own.
use Rattle.std.specs.Prelude.{ℕ, ◌≡◌, ◌<◌, ◌≤◌, Bool, true, false, List, length, Option, Some}
use Rattle.std.specs.Prelude.{is_some}
use Rattle.vq_model.specs.declared.plan.Answer.{Answer}
use Rattle.vq_model.specs.Plan.{Plan, chain_of, is_batch, is_silent, question}
use Rattle.vq_ground.specs.Lists.{has}
use Rattle.vq_point_laws.specs.Points.{PointState, Reference, smaller_ops, needs_resolved, count_of}
use Rattle.vq_history_laws.specs.Measure.{sum_to}

-- What carries an operation is its point; bound operations were taken, and bound behind the smaller ones of
-- their chain.
pub record KeepsOps (p : Plan) (point_of carried : ℕ → Option ℕ) (bound past : ℕ → Bool) : Type 0 where
  pub carried_of : (q e : ℕ) → carried q ≡ Some e → point_of e ≡ Some q
  pub exists : (e : ℕ) → is_some (point_of e) ≡ true → e < length p.ops
  pub past_bound : (e : ℕ) → past e ≡ true → bound e ≡ true
  pub bound_taken : (e : ℕ) → bound e ≡ true → is_some (point_of e) ≡ true
  pub below : (e t f : ℕ) → bound e ≡ true → chain_of p e ≡ Some t → has (smaller_ops p t e) f ≡ true →
      bound f ≡ true

-- Batches are submitted and released, jobs that exist start, questions are answered.
pub record KeepsJobs (p : Plan) (submitted released started : ℕ → Bool) (answer : ℕ → Option Answer) : Type 0 where
  pub of_submitted : (j : ℕ) → submitted j ≡ true → is_batch p j ≡ true
  pub of_released : (j : ℕ) → released j ≡ true → is_batch p j ≡ true
  pub of_started : (j : ℕ) → started j ≡ true → j < length p.jobs
  pub of_answered : (j : ℕ) → is_some (answer j) ≡ true → is_silent (question p j) ≡ false

-- There is at most one reference for each need, and at most one look for each; what is held was referred to.
pub record KeepsReferences (p : Plan) (referred looked : ℕ → List ℕ) (held : List Reference) : Type 0 where
  pub few : (j e : ℕ) → count_of (referred j) e ≤ needs_resolved p j e
  pub looks : (j e : ℕ) → count_of (looked j) e ≤ count_of (referred j) e
  pub holds_few : length held ≤ sum_to (λ j. length (referred j)) (length p.jobs)

pub record KeepsFacts (p : Plan) (w : PointState) : Type 0 where
  pub ops : KeepsOps p w.point_of w.carried w.bound w.past
  pub jobs : KeepsJobs p w.submitted w.released w.machine.progress.started w.machine.answer
  pub references : KeepsReferences p w.referred w.looked w.held
