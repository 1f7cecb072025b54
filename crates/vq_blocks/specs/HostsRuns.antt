-- How a run of a compiled plan is one of several host threads. This project's own.
use Rattle.std.specs.Prelude.{ℕ, ◌≡◌, ◌-◌, List, length, map, nat_lt, if◌then◌else◌}
use Rattle.std.specs.Prelude.{Option, Some, None}
use Rattle.std.specs.List.{enumerate_from, filter_map, flat_map, slice_get}
use Rattle.vq_model.specs.Machine.{Step, StartStep, ApplyStep, SignalStep, FinishStep, AnswerStep, Run}
use Rattle.vq_model.specs.Plan.{Plan}
use Rattle.vq_blocks.specs.declared.block.HostThread.{HostThread}
use Rattle.vq_blocks.specs.declared.block.ThreadStep.TheVariants.{Wait, Signal}
use Rattle.vq_blocks.specs.declared.block.ThreadStep.{ThreadStep}
use Rattle.vq_blocks.specs.Blocks.{signaled_by}
use Rattle.vq_blocks.specs.HostsMachine.{HostsStep, OfRest, OfThread}

-- the thread of each step, and the step, in the order of the batches that stand for them
abbrev pub steps_in_order : List HostThread → List (ℕ × ThreadStep)
steps_in_order threads = flat_map (λ x. map (λ line. (x.0, line.step)) x.1.steps) (enumerate_from 0 threads)

-- the thread of each signal, in the order of the operations that stand for them
abbrev pub signals_in_order : List HostThread → List ℕ
signals_in_order threads = flat_map (λ x. map (λ pair. x.0) (signaled_by x.1)) (steps_in_order threads)

-- the start of a batch that stands for a wait is that wait
abbrev pub of_start : ℕ → Option (ℕ × ThreadStep) → Option HostsStep
of_start j None = Some (OfRest (StartStep j))
of_start j (Some (t, Wait pairs)) = Some (OfThread t)
of_start j (Some (t, Signal pair)) = None

-- the signal of a batch that stands for a signal is that signal
abbrev pub of_signal : ℕ → Option ℕ → HostsStep
of_signal e None = OfRest (SignalStep e)
of_signal e (Some t) = OfThread t

-- the step of a job of the rest; those of the threads' batches are dropped
abbrev pub of_rest : List HostThread → ℕ → (ℕ → Step) → Option HostsStep
of_rest threads j step =
    if nat_lt j (length (steps_in_order threads)) then None
    else Some (OfRest (step (j - length (steps_in_order threads))))

-- What a step of the compiled plan is among several hosts. Jobs and signal operations of the threads come first.
abbrev pub among_hosts : List HostThread → Step → Option HostsStep
among_hosts threads (StartStep j) =
    of_start (j - length (steps_in_order threads)) (slice_get (steps_in_order threads) j)
among_hosts threads (ApplyStep c) = Some (OfRest (ApplyStep c))
among_hosts threads (SignalStep e) =
    Some (of_signal (e - length (signals_in_order threads)) (slice_get (signals_in_order threads) e))
among_hosts threads (FinishStep j) = of_rest threads j (λ x. FinishStep x)
among_hosts threads (AnswerStep j a) = of_rest threads j (λ x. AnswerStep x a)

-- A list of steps among several hosts comes from a run of a compiled plan.
pub record ComesFrom (p : Plan) (threads : List HostThread) (steps : List HostsStep) : Type 0 where
  pub run : List Step
  pub runs : Run p run
  pub seen : filter_map (among_hosts threads) run ≡ steps
