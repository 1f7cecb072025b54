use Rattle.std.proofs.Common.{◌+◌, ◌∙◌, ap, sym, length, arith}
use Rattle.std.proofs.Math.ListN.{set}
use Rattle.std.specs.List.{slice_range}
use Rattle.std.proofs.lemmas.List.{length-take, length-drop}
use Rattle.vq_model.specs.Memory.{buffer, with_bytes}
use Rattle.vq_transfer.proofs.Parts.{bytes_at, size_at, bytes_of-write}
use Rattle.vq_transfer.proofs.buffers.Buffers.copy_inside.Goals as goal

pub copy_inside-requires-clause-written : goal.copy_inside-requires-clause-written
copy_inside-requires-clause-written c =
    let v = c.index_mut-bytes.result.now in
    let size = size_at _ c.args.self.now c.args.buffer v c.self.view_is c.requires.written.exists
    c.index_mut-bytes.ensures.value in
    omega (arith, c.requires.written.ends, ap length c.as_mut_slice.ensures.value)

pub copy_inside-requires-clause-read : goal.copy_inside-requires-clause-read
copy_inside-requires-clause-read c =
    let v = c.index_mut-bytes.result.now in
    let size = size_at _ c.args.self.now c.args.buffer v c.self.view_is c.requires.written.exists
    c.index_mut-bytes.ensures.value in
    omega (arith, c.requires.read.ends, ap length c.as_mut_slice.ensures.value)

pub returns : goal.returns
returns c =
    let m = c.args.self.now in
    let t = c.args.buffer in
    let v = c.index_mut-bytes.result.now in
    let read = c.index_mut-bytes.ensures.value in
    let exists = c.requires.written.exists in
    let from = c.args.from in
    let to = c.args.to in
    let end = from + c.args.size in
    let size = size_at _ m t v c.self.view_is exists read in
    let here = bytes_at _ m t v c.self.view_is exists read in
    bytes_of-write _ m t v c.self.view_is exists read c.copy_inside.new.bytes to
    (slice_range v.items from end)
    (c.copy_inside.ensures ∙ ap (λ old. with_bytes old to (slice_range old from end))
    c.as_mut_slice.ensures.value)
    (simp (length-take, length-drop) (omega (arith, c.requires.written.ends)))
    ∙ ap (λ old. set m t (with_bytes (buffer m t) to (slice_range old from end))) (sym here)
