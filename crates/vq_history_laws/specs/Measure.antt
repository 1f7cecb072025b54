-- How much of a plan has been done: each event does one act more. This project's own.
use Rattle.std.specs.Prelude.{ℕ, zero, suc, ◌+◌, ◌-◌, ◌==◌, Bool, false, not, cond, ◌&&◌, List}
use Rattle.std.specs.Prelude.{length, Option, Some}
use Rattle.std.specs.Prelude.{None, is_some}
use Rattle.std.specs.Option.{option_map_or}
use Rattle.vq_model.specs.Plan.{Plan}
use Rattle.vq_ground.specs.Lists.{has}
use Rattle.vq_point_laws.specs.Points.{PointState}

-- a fact counts one where it holds
abbrev pub one : Bool → ℕ
one b = cond {A = ℕ} b 1 0

-- the sum of a function over the first numbers
abbrev pub sum_to : (ℕ → ℕ) → ℕ → ℕ
sum_to f zero = 0
sum_to f (suc n) = sum_to f n + f n

-- whether a point waits to be freed and carries this operation
abbrev pub waits_at : (ℕ → Bool) → (ℕ → Option ℕ) → ℕ → Option ℕ → Bool
waits_at waiting carried e None = false
waits_at waiting carried e (Some q) = waiting q && option_map_or (λ f. f == e) (carried q) false

-- whether the point of a past operation was freed since
abbrev pub is_freed : PointState → ℕ → Bool
is_freed w e = w.past e && not (waits_at w.waiting w.carried e (w.point_of e))

abbrev pub job_acts : PointState → ℕ → ℕ
job_acts w j =
    one (w.submitted j) + one (w.released j) + one (w.machine.progress.started j)
    + one (w.machine.progress.finished j) + one (is_some (w.machine.answer j))

abbrev pub op_acts : PointState → ℕ → ℕ
op_acts w e =
    one (is_some (w.point_of e)) + one (w.bound e) + one (w.machine.progress.made e) + one (w.past e)
    + one (is_freed w e)

abbrev pub jobs_part : Plan → PointState → ℕ
jobs_part p w = sum_to (job_acts w) (length p.jobs)

abbrev pub commands_part : Plan → PointState → ℕ
commands_part p w = sum_to (λ c. one (has w.machine.progress.applied c)) (length p.commands)

abbrev pub ops_part : Plan → PointState → ℕ
ops_part p w = sum_to (op_acts w) (length p.ops)

abbrev pub notes_part : Plan → (ℕ → List ℕ) → ℕ
notes_part p notes = sum_to (λ j. length (notes j)) (length p.jobs)

abbrev pub total : ℕ → ℕ → ℕ → ℕ → ℕ → ℕ → ℕ
total jobs commands ops references looks held =
    jobs + commands + ops + references + looks + (references - held)

-- what has been done: by jobs, commands and operations; references, looks, and references given back
abbrev pub measure : Plan → PointState → ℕ
measure p w =
    total (jobs_part p w) (commands_part p w) (ops_part p w) (notes_part p w.referred) (notes_part p w.looked)
    (length w.held)
