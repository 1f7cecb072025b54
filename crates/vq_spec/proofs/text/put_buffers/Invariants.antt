use Rattle.std.proofs.Common.{◌≡◌, ◌≤◌, ◌++◌, drop, vec_capacity}
use Rattle.vq_model.specs.OutputText.{all_buffers}
use Rattle.vq_spec.proofs.text.put_buffers.Given as goal

abbrev pub invariant-loop-b : goal.invariant-loop-b
invariant-loop-b l =
    (l.out.items ++ all_buffers (drop l.b l.plan.script.buffers) (drop l.b l.buffers)
    ≡ l.fn.out.items ++ all_buffers l.plan.script.buffers l.buffers)
    × (vec_capacity l.fn.out ≤ vec_capacity l.out)
