use Rattle.std.proofs.Common.{◌≡◌, ◌<◌, ℕ, [], length, get_or, replicate}
use Rattle.vq_model.specs.Plan.{needs}
use Rattle.vq_tables.specs.Notes.{no_note}
use Rattle.vq_tables.proofs.opening.empty_notes.Given as goal

abbrev pub invariant-loop-job : goal.invariant-loop-job
invariant-loop-job l =
    (length l.rows.items ≡ l.job) × ((k : ℕ) → k < l.job →
    get_or l.rows.items k [] ≡ replicate (length (needs l.plan k)) no_note)
