-- When the shelves of the tests may bind an operation: its batch is known released, or its host step
-- started.
use Rattle.std.proofs.Common.{◌≡◌, ℕ, true, false, Some, sym, ap, subst, ◌∙◌, arith}
use Rattle.std.proofs.lemmas.Bool.{false≢true}
use Rattle.std.proofs.lemmas.Option.{same_Some}
use Rattle.vq_model.specs.Plan.{Plan, job_of, is_host_step}
use Rattle.vq_ground.specs.Lists.{has}
use Rattle.vq_board_laws.specs.declared.view.Fact.TheVariants.{Job}
use Rattle.vq_board_laws.specs.declared.view.JobState.TheVariants.{Released, Started}
use Rattle.vq_board_laws.specs.declared.view.View.{View}
use Rattle.vq_board_laws.specs.Knowledge.{Knows, KnowsSoFar}
use Rattle.vq_board_laws.specs.MayPoints.{IsSmaller, MayBind}
use Rattle.vq_board_laws.specs.Points.{reference, Lists}

module _ (p : Plan) (v : View) (e q j : ℕ) (of_job : job_of p e ≡ Some j) (lists : Lists v.carrying (reference q e)) (new : has v.bound e ≡ false)
    (earlier : (f : ℕ) → IsSmaller p f e → has v.bound f ≡ true) where
  its_job : (i : ℕ) → job_of p e ≡ Some i → j ≡ i
  its_job i is = same_Some j i (sym of_job ∙ is)

  pub may_bind_released : is_host_step p j ≡ false → Knows v.known (Job j Released) → MayBind p v e q
  may_bind_released batch known = record {
    carries = lists;
    unbound = new;
    smaller = earlier;
    released = λ i is _. subst (λ (k : ℕ). KnowsSoFar v.known k Released) (its_job i is) (Released, omega arith, known);
    started = λ i is step. absurd (false≢true (sym batch ∙ (ap (is_host_step p) (its_job i is) ∙ step)));
  }

  pub may_bind_started : is_host_step p j ≡ true → Knows v.known (Job j Started) → MayBind p v e q
  may_bind_started step known = record {
    carries = lists;
    unbound = new;
    smaller = earlier;
    released = λ i is batch. absurd (false≢true (sym batch ∙ (sym (ap (is_host_step p) (its_job i is)) ∙ step)));
    started = λ i is _. subst (λ (k : ℕ). KnowsSoFar v.known k Started) (its_job i is) (Started, omega arith, known);
  }
