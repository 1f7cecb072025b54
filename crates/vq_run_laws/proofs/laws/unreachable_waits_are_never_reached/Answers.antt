use Rattle.vq_run_laws.proofs.Unreached.{never_reached, runs_stay_within}
use Rattle.vq_run_laws.proofs.laws.unreachable_waits_are_never_reached.Goals as goal

pub returns-clause-never : goal.returns-clause-never
returns-clause-never c = never_reached

pub returns-clause-within : goal.returns-clause-within
returns-clause-within c = runs_stay_within
