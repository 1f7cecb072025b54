use Rattle.vq_model.specs.Lowering.{plan_of}
use Rattle.vq_spec.specs.Waits.{AreWaits}
use Rattle.vq_spec.proofs.edges.lower_waits.Given as goal

abbrev pub invariant-loop-job : goal.invariant-loop-job
invariant-loop-job l = AreWaits (plan_of l.script) l.job-index l.waits
