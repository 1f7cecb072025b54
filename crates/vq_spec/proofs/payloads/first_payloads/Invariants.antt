use Rattle.std.proofs.Common.{◌≡◌, ◌<◌, ℕ, [], length, get_or}
use Rattle.vq_model.specs.SlowRun.{payload_after}
use Rattle.vq_spec.proofs.payloads.first_payloads.Given as goal

abbrev pub invariant-loop-chain : goal.invariant-loop-chain
invariant-loop-chain l =
    (length l.payloads.items ≡ l.chain)
    × ((k : ℕ) → k < l.chain → get_or l.payloads.items k 0 ≡ payload_after l.plan [] k)
