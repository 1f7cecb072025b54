-- What the steps of a compiled plan are among several hosts.
use Rattle.std.proofs.Common.{◌≡◌, ℕ, ◌+◌, ◌-◌, ◌<◌, cond, List, length, Some, None, refl, ap, ◌∙◌, arith}
use Rattle.std.specs.List.{slice_get}
use Rattle.std.proofs.lemmas.Bool.{le-ltb, lt-ltb}
use Rattle.std.proofs.lemmas.Option.{slice_get_past}
use Rattle.vq_model.specs.declared.plan.Answer.{Answer}
use Rattle.vq_model.specs.declared.script.Pair.{Pair}
use Rattle.vq_model.specs.Machine.{Step, StartStep, ApplyStep, SignalStep, FinishStep, AnswerStep}
use Rattle.vq_blocks.specs.declared.block.ThreadStep.TheVariants.{Wait, Signal}
use Rattle.vq_blocks.specs.Blocks.{Told}
use Rattle.vq_blocks.specs.HostsMachine.{OfRest, OfThread}
use Rattle.vq_blocks.specs.HostsRuns.{steps_in_order, signals_in_order, among_hosts, of_start, of_signal}
use Rattle.vq_hosts_laws.proofs.StepSignals.{Steps, signal_place, thread_stands}
use Rattle.vq_hosts_laws.proofs.RestSteps.{step_of_rest}

module _ (told : Told) where
  abbrev steps : Steps
  steps = steps_in_order told.threads

  abbrev batches : ℕ
  batches = length (steps_in_order told.threads)

  abbrev signals : ℕ
  signals = length (signals_in_order told.threads)

  -- What a step is among several hosts

  -- a step of the rest
  pub among_rest : (x : Step) → among_hosts told.threads (step_of_rest batches signals x) ≡ Some (OfRest x)
  among_rest (StartStep k) =
      let z : (batches + k) - batches ≡ k = omega arith in
      ap (of_start ((batches + k) - batches)) (slice_get_past steps (batches + k) (omega arith))
      ∙ ap (λ n. Some (OfRest (StartStep n))) z
  among_rest (ApplyStep c) = refl
  among_rest (SignalStep e) =
      let z : (signals + e) - signals ≡ e = omega arith in
      ap (λ o. Some (of_signal ((signals + e) - signals) o))
      (slice_get_past (signals_in_order told.threads) (signals + e) (omega arith))
      ∙ ap (λ n. Some (OfRest (SignalStep n))) z
  among_rest (FinishStep k) =
      let z : (batches + k) - batches ≡ k = omega arith in
      ap (λ b. cond b None (Some (OfRest (FinishStep ((batches + k) - batches)))))
      (le-ltb (batches + k) batches (omega arith)) ∙ ap (λ n. Some (OfRest (FinishStep n))) z
  among_rest (AnswerStep k a) =
      let z : (batches + k) - batches ≡ k = omega arith in
      ap (λ b. cond b None (Some (OfRest (AnswerStep ((batches + k) - batches) a))))
      (le-ltb (batches + k) batches (omega arith)) ∙ ap (λ n. Some (OfRest (AnswerStep n a))) z

  -- steps of threads' batches
  pub among_wait : (j t : ℕ) (pairs : List Pair) → slice_get steps j ≡ Some (t, Wait pairs) →
      among_hosts told.threads (StartStep j) ≡ Some (OfThread t)
  among_wait j t pairs e = ap (of_start (j - batches)) e

  pub among_start : (j t : ℕ) (pair : Pair) → slice_get steps j ≡ Some (t, Signal pair) →
      among_hosts told.threads (StartStep j) ≡ None
  among_start j t pair e = ap (of_start (j - batches)) e

  pub among_signal : (j t : ℕ) (pair : Pair) → slice_get steps j ≡ Some (t, Signal pair) →
      among_hosts told.threads (SignalStep (signal_place steps j)) ≡ Some (OfThread t)
  among_signal j t pair e = ap (λ o. Some (of_signal (signal_place steps j - signals) o))
      (thread_stands steps j t pair e)

  pub among_finish : (j : ℕ) → j < batches → among_hosts told.threads (FinishStep j) ≡ None
  among_finish j l = ap (λ b. cond b None (Some (OfRest (FinishStep (j - batches))))) (lt-ltb j batches l)

  pub among_answer : (j : ℕ) (a : Answer) → j < batches → among_hosts told.threads (AnswerStep j a) ≡ None
  among_answer j a l = ap (λ b. cond b None (Some (OfRest (AnswerStep (j - batches) a)))) (lt-ltb j batches l)
