use Rattle.std.proofs.Common.{ap, arith, length}
use Rattle.vq_spec.proofs.NumberParts.{signals_within}
use Rattle.vq_spec.proofs.plan.Plan.signals_of.Goals as goal

pub part-requires-clause-within : goal.part-requires-clause-within
part-requires-clause-within c = λ n h.
    let within = signals_within c.self.inside.script c.self.inside.tables c.self.invariant
    c.args.self.now c.self.view_is c.args.j c.job.result.now c.job.ensures n h in
    omega (arith, ap length c.as_slice.ensures.value)
