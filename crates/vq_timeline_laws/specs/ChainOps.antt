-- A signal operation: its place in its chain, its job, and whether that is a host step. This project's own.
use Rattle.std.specs.Prelude.{ℕ, Bool, false}
use Rattle.std.specs.List.{slice_get}
use Rattle.std.specs.Option.{option_map_or}
use Rattle.vq_model.specs.Plan.{Plan, is_host_step}

abbrev pub index_of : Plan → ℕ → ℕ
index_of p e = option_map_or (λ o. o.index) (slice_get p.ops e) 0

abbrev pub job_at : Plan → ℕ → ℕ
job_at p e = option_map_or (λ o. o.job) (slice_get p.ops e) 0

abbrev pub of_host : Plan → ℕ → Bool
of_host p e = option_map_or (λ o. is_host_step p o.job) (slice_get p.ops e) false
