use Rattle.std.proofs.Common.{◌∙◌, ap, sym, length, arith}
use Rattle.std.proofs.lemmas.List.FromFn.{length-map-range_with_len}
use Rattle.std.proofs.Math.ListN.{set}
use Rattle.vq_model.specs.Memory.{buffer, with_bytes, word_bytes, word_byte}
use Rattle.vq_model.specs.Ranges.{fill_size}
use Rattle.vq_transfer.proofs.Parts.{bytes_at, size_at, bytes_of-write}
use Rattle.vq_transfer.proofs.buffers.Buffers.fill.Goals as goal

pub fill-requires-clause-within : goal.fill-requires-clause-within
fill-requires-clause-within c =
    let v = c.index_mut-bytes.result.now in
    let size = size_at _ c.args.self.now c.args.target v c.self.view_is c.requires.written.exists
    c.index_mut-bytes.ensures.value in
    let count = c.bytes-count.ensures ∙ ap (fill_size c.args.size c.args.offset)
    (c.len.ensures ∙ (v.ok.0 ∙ sym size)) in
    omega (arith, c.requires.written.ends, ap length c.as_mut_slice.ensures.value)

pub returns : goal.returns
returns c =
    let m = c.args.self.now in
    let v = c.index_mut-bytes.result.now in
    let n = c.bytes-count.result in
    let read = c.index_mut-bytes.ensures.value in
    let exists = c.requires.written.exists in
    let size = size_at _ m c.args.target v c.self.view_is exists read in
    let here = bytes_at _ m c.args.target v c.self.view_is exists read in
    let count = c.bytes-count.ensures ∙ ap (fill_size c.args.size c.args.offset)
    (c.len.ensures ∙ v.ok.0) in
    let asked = count ∙ ap (fill_size c.args.size c.args.offset) (sym size) in
    let long = length-map-range_with_len (word_byte c.args.word) 0 n in
    bytes_of-write _ m c.args.target v c.self.view_is exists read c.fill.new.bytes c.args.offset
    (word_bytes c.args.word n)
    (c.fill.ensures ∙ ap (λ old. with_bytes old c.args.offset (word_bytes c.args.word n))
    c.as_mut_slice.ensures.value) (omega (arith, long, c.requires.written.ends))
    ∙ ap (λ k. set m c.args.target
    (with_bytes (buffer m c.args.target) c.args.offset (word_bytes c.args.word k)))
    (count ∙ ap (λ old. fill_size c.args.size c.args.offset (length old)) (sym here))
