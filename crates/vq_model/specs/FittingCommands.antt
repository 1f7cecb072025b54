-- When a command fits the buffers, and the bytes that one writes, one by one. Vulkan 1.3, vkCmdFillBuffer,
-- vkCmdUpdateBuffer, vkCmdCopyBuffer (valid usage).
use Rattle.std.specs.Prelude.{ℕ, List, length, ◌+◌, Bool, ◌&&◌, false, true, ◌<◌, ◌≤◌, ◌≡◌, IfSome}
use Rattle.std.specs.List.{slice_index_or}
use Rattle.vq_model.specs.declared.script.FillSize.TheVariants.{Whole, Count}
use Rattle.vq_model.specs.declared.script.Command.{Command}
use Rattle.vq_model.specs.declared.script.Command.TheVariants.{Fill, Update, Copy}
use Rattle.vq_model.specs.declared.ranges.Range.{Range}
use Rattle.vq_model.specs.Ranges.{is_aligned, overlaps_itself, read_range, written_range}
use Rattle.vq_model.specs.Memory.{Memory, buffer, word_byte}

-- A fill and an update begin at a multiple of 4, and the number of their bytes is one too; a copy
-- may stand anywhere. (Vulkan 1.3, vkCmdFillBuffer, vkCmdUpdateBuffer)
abbrev pub is_aligned_command : Command → Bool
is_aligned_command (Fill b o Whole w) = is_aligned o
is_aligned_command (Fill b o (Count n) w) = is_aligned o && is_aligned n
is_aligned_command (Update b o bytes) = is_aligned o && is_aligned (length bytes)
is_aligned_command (Copy s so t to n) = true

-- a range lies in its buffer
pub record IsWithin (sizes : List ℕ) (r : Range) : Type 0 where
  pub exists : r.buffer < length sizes
  pub ends : r.start + r.size ≤ slice_index_or sizes r.buffer 0

-- A command fits: its ranges lie in their buffers, the multiples of 4 hold, and a copy doesn't
-- overlap itself. A size of 0, an update of any length, and a fill of the rest of a buffer from its
-- very end on fit too: that these can't be written in a script is a matter of the script's lines,
-- which ask for more.
pub record Fits (sizes : List ℕ) (c : Command) : Type 0 where
  pub written : IsWithin sizes (written_range sizes c)
  pub read : IfSome (read_range c) (IsWithin sizes)
  pub aligned : is_aligned_command c ≡ true
  pub apart : overlaps_itself sizes c ≡ false

-- the buffers have these sizes
pub record HasSizes (sizes : List ℕ) (m : Memory) : Type 0 where
  pub count : length m ≡ length sizes
  pub each : (b : ℕ) → length (buffer m b) ≡ slice_index_or sizes b 0

-- the bytes that a command writes, in order, as the buffers stand before it
abbrev pub written_byte : Command → Memory → ℕ → ℕ
written_byte (Fill b o size w) m k = word_byte w k
written_byte (Update b o bytes) m k = slice_index_or bytes k 0
written_byte (Copy s so t to n) m k = slice_index_or (buffer m s) (so + k) 0
