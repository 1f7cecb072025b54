use Rattle.std.proofs.Common.{◌≡◌, take}
use Rattle.vq_model.specs.Lowering.{plan_of}
use Rattle.vq_spec.specs.Jobs.{resolving}
use Rattle.vq_spec.proofs.edges.awaited.Given as goal

abbrev pub invariant-loop-need : goal.invariant-loop-need
invariant-loop-need l = l.ops.items
    ≡ resolving (plan_of l.script) (take l.need-index l.fn.job.needs)
