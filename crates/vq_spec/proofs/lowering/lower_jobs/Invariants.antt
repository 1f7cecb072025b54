use Rattle.vq_spec.specs.Counts.{AreLowered}
use Rattle.vq_spec.proofs.lowering.lower_jobs.Given as goal

abbrev pub invariant-loop-j : goal.invariant-loop-j
invariant-loop-j l = AreLowered l.script l.j l.lowered
