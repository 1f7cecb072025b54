use Rattle.std.proofs.Common.{◌≡◌, ℕ, List, length, take}
use Rattle.vq_spec.specs.SlowProgress.{ArePayloads, PayloadsWith}
use Rattle.vq_spec.proofs.payloads.signal_all.Given as goal

abbrev pub invariant-loop-op : goal.invariant-loop-op
invariant-loop-op l = record {
  count : length l.payloads ≡ length l.plan.script.semaphores;
  made : (done : List ℕ) → ArePayloads l.plan done l.fn.payloads →
      PayloadsWith l.plan done (take l.op-index l.op-items) l.payloads;
}
