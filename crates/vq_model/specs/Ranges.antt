-- The bytes of buffers that a transfer command reads and writes.
-- Vulkan 1.3, "Clear Commands" (vkCmdFillBuffer, vkCmdUpdateBuffer) and "Copy Commands"
-- (vkCmdCopyBuffer).
use Rattle.std.specs.Prelude.{ℕ, ◌*◌, ◌-◌, ◌/◌, List, length, Option, Some, None, ◌+◌, ◌==◌, min}
use Rattle.std.specs.Prelude.{max, nat_lt, Bool}
use Rattle.std.specs.Prelude.{◌&&◌, false, ◌%◌, ◌||◌}
use Rattle.std.specs.List.{slice_index_or}
use Rattle.std.specs.Option.{option_map_or}
use Rattle.vq_model.specs.declared.script.FillSize.{FillSize}
use Rattle.vq_model.specs.declared.script.FillSize.TheVariants.{Whole, Count}
use Rattle.vq_model.specs.declared.script.Command.{Command}
use Rattle.vq_model.specs.declared.script.Command.TheVariants.{Fill, Update, Copy}
use Rattle.vq_model.specs.declared.ranges.Range.{Range}

-- how many bytes a fill writes; with the whole size the rest of the buffer, rounded down to a
-- multiple of 4
abbrev pub fill_size : FillSize → ℕ → ℕ → ℕ
fill_size Whole offset size = (size - offset) / 4 * 4
fill_size (Count n) offset size = n

-- what a command writes, in buffers of these sizes
abbrev pub written_range : List ℕ → Command → Range
written_range sizes (Fill b o size w) =
    record { buffer = b; start = o; size = fill_size size o (slice_index_or sizes b 0) }
written_range sizes (Update b o bytes) = record { buffer = b; start = o; size = length bytes }
written_range sizes (Copy s so t to n) = record { buffer = t; start = to; size = n }

-- what a copy reads
abbrev pub read_range : Command → Option Range
read_range (Copy s so t to n) = Some (record { buffer = s; start = so; size = n })
read_range other = None

-- two ranges have a byte in common
abbrev pub share : Range → Range → Bool
share r s =
    (r.buffer == s.buffer)
    && nat_lt (max r.start s.start) (min (r.start + r.size) (s.start + s.size))

-- whether a command reads a byte that it writes
abbrev pub overlaps_itself : List ℕ → Command → Bool
overlaps_itself sizes c = option_map_or (share (written_range sizes c)) (read_range c) false

-- a number of bytes, or a place, that is a multiple of 4
abbrev pub is_aligned : ℕ → Bool
is_aligned n = n % 4 == 0

-- Two commands conflict where they have a byte in common that one of them writes.
-- Vulkan 1.3, "Execution and Memory Dependencies" (data hazards).
abbrev pub conflict : List ℕ → Command → Command → Bool
conflict sizes c d =
    share (written_range sizes c) (written_range sizes d)
    || option_map_or (share (written_range sizes c)) (read_range d) false
    || option_map_or (share (written_range sizes d)) (read_range c) false
