-- What the core counts. This project's own.
use Rattle.std.specs.Prelude.{ℕ, Bool, length, count_by, not}
use Rattle.std.specs.List.{range_with_len}
use Rattle.vq_model.specs.Plan.{Plan}

-- how many jobs aren't finished
abbrev pub jobs_left : Plan → (ℕ → Bool) → ℕ
jobs_left p finished = count_by (λ j. not (finished j)) (range_with_len 0 (length p.jobs))
