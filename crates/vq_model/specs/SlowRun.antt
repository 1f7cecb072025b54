-- The slow run: again and again the lowest job that can be done is done whole. What it leaves in
-- the buffers is what a script means. This project's own.
use Rattle.std.specs.Prelude.{ℕ, max, List, fold, Bool, false, map, filter, not, ◌&&◌, length, find, Option, zero}
use Rattle.std.specs.Prelude.{suc}
use Rattle.std.specs.Prelude.{[], ◌∷◌, ◌++◌}
use Rattle.std.specs.Option.{option_map_or}
use Rattle.std.specs.List.{range_with_len, filter_map, flat_map}
use Rattle.vq_model.specs.declared.script.Command.{Command}
use Rattle.vq_model.specs.Plan.{Plan, job_of, chain, initial, value, commands_of, command_at}
use Rattle.vq_ground.specs.Lists.{has}
use Rattle.vq_model.specs.Edges.{AtEnd}
use Rattle.vq_model.specs.Machine.{are_reached, can_start}
use Rattle.vq_model.specs.Memory.{Memory, zeros_of, after_all}

-- Payloads

-- the greatest of an initial number and others
abbrev pub greatest : ℕ → List ℕ → ℕ
greatest n xs = fold max n xs

-- whether a signal operation is of one of these jobs
abbrev pub is_of : Plan → List ℕ → ℕ → Bool
is_of p jobs e = option_map_or (has jobs) (job_of p e) false

-- a chain's number once these jobs are done: the greatest value signaled, or the initial value
abbrev pub payload_after : Plan → List ℕ → ℕ → ℕ
payload_after p done t = greatest (initial p t) (map (value p) (filter (is_of p done) (chain p t)))

-- The run

-- whether a job isn't done, and can be done whole: it can start, and all its needs are reached
abbrev pub is_ready : Plan → List ℕ → ℕ → Bool
is_ready p done j =
    not (has done j) && can_start p (has done) (payload_after p done) j
    && are_reached p (payload_after p done) j AtEnd

abbrev pub lowest_ready : Plan → List ℕ → Option ℕ
lowest_ready p done = find (is_ready p done) (range_with_len 0 (length p.jobs))

-- so many times, the lowest job that can be done whole is done
abbrev pub slow_from : ℕ → Plan → List ℕ → List ℕ
slow_from zero p done = done
slow_from (suc n) p done =
    option_map_or (λ j. slow_from n p (done ++ j ∷ [])) (lowest_ready p done) done

-- the jobs that a slow run does, in its order
abbrev pub slow_order : Plan → List ℕ
slow_order p = slow_from (length p.jobs) p []

-- the jobs that a slow run leaves
abbrev pub left_over : Plan → List ℕ
left_over p = filter (λ j. not (has (slow_order p) j)) (range_with_len 0 (length p.jobs))

-- The final bytes

abbrev pub command_list : Plan → List ℕ → List Command
command_list p cs = filter_map (command_at p) cs

abbrev pub zeros : Plan → Memory
zeros p = zeros_of p.sizes

-- what is in the buffers after these commands, from zero bytes
abbrev pub bytes_after : Plan → List ℕ → Memory
bytes_after p cs = after_all (command_list p cs) (zeros p)

-- what a slow run leaves in the buffers
abbrev pub final : Plan → Memory
final p = bytes_after p (flat_map (commands_of p) (slow_order p))
