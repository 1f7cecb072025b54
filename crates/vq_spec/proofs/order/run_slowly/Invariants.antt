use Rattle.std.proofs.Common.{◌≡◌, ◌-◌, length}
use Rattle.vq_model.specs.SlowRun.{slow_from, slow_order}
use Rattle.vq_spec.specs.SlowProgress.{HasCome}
use Rattle.vq_spec.proofs.order.run_slowly.Given as goal

abbrev pub invariant-loop-round : goal.invariant-loop-round
invariant-loop-round l = record {
  come : HasCome l.plan l.progress;
  rest : slow_from (length l.plan.jobs - l._round) l.plan l.progress.order.items ≡ slow_order l.plan;
}
