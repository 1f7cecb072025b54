use Rattle.std.proofs.Common.{◌≡◌, ◌<◌, ℕ, length, get_or}
use Rattle.vq_tables.specs.Tables.{batches_before}
use Rattle.vq_tables.proofs.opening.count_earlier.Given as goal

abbrev pub invariant-loop-job : goal.invariant-loop-job
invariant-loop-job l =
    (length l.earlier.items ≡ l.job)
    × ((k : ℕ) → k < l.job → get_or l.earlier.items k 0 ≡ batches_before l.plan k)
    × (l.count ≡ batches_before l.plan l.job)
