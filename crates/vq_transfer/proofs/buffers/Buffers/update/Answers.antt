use Rattle.std.proofs.Common.{◌∙◌, ap, length, arith}
use Rattle.vq_model.specs.Memory.{with_bytes}
use Rattle.vq_transfer.proofs.Parts.{size_at, bytes_of-write}
use Rattle.vq_transfer.proofs.buffers.Buffers.update.Goals as goal

pub update-requires : goal.update-requires
update-requires c =
    let v = c.index_mut-bytes.result.now in
    let size = size_at _ c.args.self.now c.args.target v c.self.view_is c.requires.written.exists
    c.index_mut-bytes.ensures.value in
    omega (
      arith,
      c.requires.written.ends,
      ap length c.as_mut_slice.ensures.value,
      ap length
          c.as_slice.ensures,
    )

pub returns : goal.returns
returns c =
    let m = c.args.self.now in
    let v = c.index_mut-bytes.result.now in
    let read = c.index_mut-bytes.ensures.value in
    let exists = c.requires.written.exists in
    let size = size_at _ m c.args.target v c.self.view_is exists read in
    bytes_of-write _ m c.args.target v c.self.view_is exists read c.update.new.bytes c.args.offset
    c.args.new.now (c.update.ensures ∙ λ i. with_bytes (c.as_mut_slice.ensures.value i)
    c.args.offset (c.as_slice.ensures i)) (omega (arith, c.requires.written.ends))
