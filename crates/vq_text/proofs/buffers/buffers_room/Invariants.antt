use Rattle.std.proofs.Common.{◌≡◌, ◌+◌, ◌-◌, ◌^◌, min, sum_by, take}
use Rattle.vq_text.proofs.TextSizes.{size_of}
use Rattle.vq_text.proofs.buffers.buffers_room.Given as goal

abbrev pub invariant-loop-buffer : goal.invariant-loop-buffer
invariant-loop-buffer l =
    l.room ≡ min (4 + sum_by size_of (take l.buffer-index l.buffers)) (2 ^ 64 - 1)
