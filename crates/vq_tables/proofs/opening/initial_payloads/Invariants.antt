use Rattle.std.proofs.Common.{◌≡◌, ◌<◌, ℕ, length, get_or}
use Rattle.vq_model.specs.Plan.{initial}
use Rattle.vq_tables.proofs.opening.initial_payloads.Given as goal

abbrev pub invariant-loop-chain : goal.invariant-loop-chain
invariant-loop-chain l =
    (length l.payloads.items ≡ l.chain) × ((k : ℕ) → k < l.chain → get_or l.payloads.items k 0 ≡ initial l.plan k)
