-- Buffers as lists of bytes, and what transfer commands do to them.
-- Vulkan 1.3, "Clear Commands" (vkCmdFillBuffer, vkCmdUpdateBuffer) and "Copy Commands"
-- (vkCmdCopyBuffer).
use Rattle.std.specs.Prelude.{ℕ, List, [], map, length, ◌%◌, slice_index, ◌+◌, ◌++◌, take}
use Rattle.std.specs.Prelude.{drop, ◌∷◌}
use Rattle.std.specs.List.{slice_index_or, range_with_len, slice_range}
use Rattle.std.specs.Int.{to_le_bytes, w32}
use Rattle.std.proofs.Math.ListN.{set}
use Rattle.vq_model.specs.declared.script.Command.{Command}
use Rattle.vq_model.specs.declared.script.Command.TheVariants.{Fill, Update, Copy}
use Rattle.vq_model.specs.Ranges.{fill_size}

-- the bytes of each buffer
abbrev pub Memory : Type 0
Memory = List (List ℕ)

-- the bytes of one buffer
abbrev pub buffer : Memory → ℕ → List ℕ
buffer m b = slice_index_or m b []

-- buffers of these sizes, all bytes zero
abbrev pub zeros_of : List ℕ → Memory
zeros_of sizes = map (λ size. map (λ k. 0) (range_with_len 0 size)) sizes

-- Commands

-- Byte k of a word that is written again and again, its least significant byte first. (This order
-- is the project's own: Vulkan takes the host's.)
abbrev pub word_byte : ℕ → ℕ → ℕ
word_byte word k = slice_index (to_le_bytes w32 word) (k % 4)

abbrev pub word_bytes : ℕ → ℕ → List ℕ
word_bytes word n = map (word_byte word) (range_with_len 0 n)

-- old, with these bytes from an offset on; all others stay
abbrev pub with_bytes : List ℕ → ℕ → List ℕ → List ℕ
with_bytes old offset bytes = take offset old ++ bytes ++ drop (offset + length bytes) old

-- what a command leaves
abbrev pub effect : Command → Memory → Memory
effect (Fill b o size w) m =
    set m b (with_bytes (buffer m b) o (word_bytes w (fill_size size o (length (buffer m b)))))
effect (Update b o bytes) m = set m b (with_bytes (buffer m b) o bytes)
effect (Copy s so t to n) m =
    set m t (with_bytes (buffer m t) to (slice_range (buffer m s) so (so + n)))

-- what commands leave, one after another
abbrev pub after_all : List Command → Memory → Memory
after_all [] m = m
after_all (c ∷ cs) m = after_all cs (effect c m)
