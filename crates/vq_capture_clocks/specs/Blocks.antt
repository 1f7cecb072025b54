-- Clocks in blocks of fifteen lanes, those of one number. What no block says is nothing.
use Rattle.std.specs.Prelude.{ℕ, Bool, List, [], ◌∷◌, ◌==◌, ◌/◌, ◌%◌, ◌&&◌, nat_lt, if◌then◌else◌}
use Rattle.std.specs.List.{list_all, slice_index_or}
use Rattle.vq_capture_clocks.specs.declared.clocks.Block.{Block}
use Rattle.vq_capture_clocks.specs.Clocks.{no_clock, join, later}
use Rattle.vq_capture_clocks.specs.LaneSets.{has_lane}

-- the lines of a list by their places, 0 behind its end
abbrev pub line_at : List ℕ → ℕ → ℕ
line_at lines = λ place. slice_index_or lines place 0

-- what a block says of a lane
abbrev pub block_says : Block → ℕ → ℕ
block_says x = λ lane. if lane / 15 == x.number then line_at x.lines (lane % 15) else 0

-- the latest that some blocks say of a lane
abbrev pub says : List Block → ℕ → ℕ
says [] = no_clock
says (x ∷ xs) = join (block_says x) (says xs)

-- a clock that says a line of the lanes of a number that are in a set, and nothing else
abbrev pub only : ℕ → ℕ → ℕ → ℕ → ℕ
only number set line = λ lane. if lane / 15 == number && has_lane set (lane % 15) then line else 0

-- lines of which those of the places of a set below one are a line, or a later one
abbrev pub raised_in : (ℕ → ℕ) → ℕ → ℕ → ℕ → ℕ → ℕ
raised_in f set line end = λ place. if nat_lt place end && has_lane set place then later (f place) line else f place

-- whether a block says nothing
abbrev pub is_nothing : Block → Bool
is_nothing x = list_all (λ line. line == 0) x.lines
