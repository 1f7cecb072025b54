use Rattle.vq_board_laws.proofs.MachineSteps.{start_is, enter_is, signal_is, finish_is}
use Rattle.vq_board_laws.proofs.laws.steps_are_the_machines.Goals as goal

pub returns-clause-start : goal.returns-clause-start
returns-clause-start c = λ p s k i j v at may. start_is p s k i v at (c.runs_keep.ensures p k.plan k.lawful) j may

pub returns-clause-enter : goal.returns-clause-enter
returns-clause-enter c = λ p s k i e v at may. enter_is p s k i v at (c.runs_keep.ensures p k.plan k.lawful) e may

pub returns-clause-signal : goal.returns-clause-signal
returns-clause-signal c = λ p s k i e q v at may bound. signal_is p s k i v at (c.runs_keep.ensures p k.plan k.lawful) e q may bound

pub returns-clause-finish : goal.returns-clause-finish
returns-clause-finish c = λ p s k i j v at may. finish_is p s k i v at (c.runs_keep.ensures p k.plan k.lawful) j may
