use Rattle.std.proofs.Common.{◌≡◌, take, length}
use Rattle.vq_model.specs.Memory.{zeros_of}
use Rattle.vq_transfer.specs.Stored.{bytes_of}
use Rattle.vq_transfer.proofs.buffers.Buffers.new.Given as goal

abbrev pub invariant-loop-size : goal.invariant-loop-size
invariant-loop-size l = record {
  made : bytes_of l.bytes.items ≡ zeros_of (take l.size-index l.sizes);
  count : length l.bytes.items ≡ l.size-index;
}
