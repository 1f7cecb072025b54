use Rattle.std.proofs.Common.{◌≡◌, map, take, length}
use Rattle.std.specs.List.{flat_map}
use Rattle.vq_model.specs.Plan.{commands_of}
use Rattle.vq_model.specs.SlowRun.{bytes_after}
use Rattle.vq_spec.proofs.slow.apply_in_order.Given as goal

abbrev pub invariant-loop-j : goal.invariant-loop-j
invariant-loop-j l = record {
  bytes : l.buffers ≡ bytes_after l.plan (flat_map (commands_of l.plan) (take l.j-index l.order));
  sizes : map length l.buffers ≡ l.plan.sizes;
}
