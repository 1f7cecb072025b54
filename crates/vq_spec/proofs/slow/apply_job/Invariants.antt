use Rattle.std.proofs.Common.{◌≡◌, map, take, length}
use Rattle.vq_model.specs.Memory.{after_all}
use Rattle.vq_model.specs.Plan.{commands_of}
use Rattle.vq_model.specs.SlowRun.{command_list}
use Rattle.vq_spec.proofs.slow.apply_job.Given as goal

abbrev pub invariant-loop-c : goal.invariant-loop-c
invariant-loop-c l = record {
  bytes : l.buffers ≡ after_all (command_list l.plan (take l.c-index (commands_of l.plan l.j)))
      l.fn.buffers;
  sizes : map length l.buffers ≡ l.plan.sizes;
}
