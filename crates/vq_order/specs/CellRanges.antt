-- Cells. A cell begins at each place where the range of a command begins, so two ranges that have a
-- byte in common have a cell in common.
use Rattle.std.specs.Prelude.{ℕ, ◌≡◌, ◌<◌, ◌≤◌, ◌+◌, ◌*◌, ◌==◌, ◌&&◌, ◌++◌, nat_lt, Bool, true, List, [], ◌∷◌}
use Rattle.std.specs.Prelude.{length, if◌then◌else◌, Some}
use Rattle.std.specs.List.{flat_map, slice_get, slice_index_or}
use Rattle.std.specs.Option.{option_to_list}
use Rattle.vq_ground.specs.Lists.{has}
use Rattle.vq_order.specs.declared.races.accesses.MemoryAccess.{MemoryAccess}
use Rattle.vq_order.specs.declared.races.cuts.Reach.{Reach}
use Rattle.vq_order.specs.declared.races.accesses.Span.{Span}

-- a byte of a buffer as one number
abbrev pub axis : ℕ → ℕ → ℕ
axis buffer offset = buffer * 4294967296 + offset

-- where a range begins
abbrev pub start_of : Span → ℕ
start_of s = axis s.buffer s.start

-- a range begins where one of the first buffers does
abbrev pub begins_first : Span → ℕ → Bool
begins_first s buffers = (s.start == 0) && nat_lt s.buffer buffers

-- where a range begins, unless one of the first buffers does there
abbrev pub later_start : ℕ → Span → List ℕ
later_start buffers s = if begins_first s buffers then [] else start_of s ∷ []

-- where the ranges of a command begin, except where one of the first buffers does
abbrev pub later_starts : ℕ → MemoryAccess → List ℕ
later_starts buffers a =
    later_start buffers a.written ++ flat_map (later_start buffers) (option_to_list a.read)

-- the first buffers begin at some of these places
pub record HasBuffers (buffers : ℕ) (places : List ℕ) : Type 0 where
  pub each : (b : ℕ) → b < buffers → has places (axis b 0) ≡ true

-- the cells from this one on are those that don't begin below a place
pub record IsFirstFrom (cuts : List ℕ) (place first : ℕ) : Type 0 where
  pub within : first ≤ length cuts
  pub below : (k : ℕ) → k < first → slice_index_or cuts k 0 < place
  pub above : (k : ℕ) → first ≤ k → k < length cuts → place ≤ slice_index_or cuts k 0

-- where the first buffers begin, by number
abbrev pub AreFirstCells : List ℕ → List ℕ → Type 0
AreFirstCells cuts firsts =
    (buffer first : ℕ) → slice_get firsts buffer ≡ Some first → IsFirstFrom cuts (axis buffer 0) first

-- a cell is one of a range
pub record IsCellOf (cuts : List ℕ) (s : Span) (k : ℕ) : Type 0 where
  pub exists : k < length cuts
  pub from : start_of s ≤ slice_index_or cuts k 0
  pub below : slice_index_or cuts k 0 < axis s.buffer s.end

-- all cells of a range are among these
pub record IsReach (cuts : List ℕ) (s : Span) (r : Reach) : Type 0 where
  pub ends : r.end ≤ length cuts
  pub first : (k : ℕ) → IsCellOf cuts s k → r.first ≤ k
  pub last : (k : ℕ) → IsCellOf cuts s k → k < r.end
