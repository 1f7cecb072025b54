use Rattle.std.proofs.Common.{length, take}
use Rattle.vq_model.specs.SlowRun.{is_ready}
use Rattle.vq_spec.specs.SlowProgress.{IsLeastOf}
use Rattle.vq_spec.proofs.progress.SlowState.lowest_ready.Given as goal

abbrev pub invariant-loop-head : goal.invariant-loop-head
invariant-loop-head l =
    IsLeastOf (is_ready l.plan l.self.order.items) (length l.plan.jobs)
    (take l.head-index l.self.heads.items) l.lowest
