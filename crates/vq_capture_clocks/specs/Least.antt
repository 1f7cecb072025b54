-- For each lane the least line that it is asked for.
use Rattle.std.specs.Prelude.{ℕ, ◌/◌, ◌%◌, ◌==◌, nat_lt, if◌then◌else◌}
use Rattle.std.specs.List.{slice_index_or}
use Rattle.std.specs.Option.{option_map_or}
use Rattle.std.specs.Ordering.{nat_cmp}
use Rattle.std.specs.BTreeMap.{get}
use Rattle.vq_capture_clocks.specs.declared.least.LeastLines.{LeastLines}

-- the least line of a lane: the next one where there is none
abbrev pub least_in : LeastLines → ℕ → ℕ
least_in x lane =
    option_map_or (λ b. slice_index_or b.lines (lane % 15) x.next) (get nat_cmp x.blocks (lane / 15)) x.next

abbrev pub lesser : ℕ → ℕ → ℕ
lesser a b = if nat_lt b a then b else a

-- lines of which that of a lane is a line, or an earlier one
abbrev pub lowered : (ℕ → ℕ) → ℕ → ℕ → ℕ → ℕ
lowered f lane line = λ k. if k == lane then lesser (f k) line else f k
