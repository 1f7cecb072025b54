use Rattle.std.proofs.Common.{◌∙◌, ap, sym, map, length, get_or, arith, ◌<◌}
use Rattle.std.proofs.lemmas.List.{length-map}
use Rattle.vq_transfer.proofs.Parts.{size_at}
use Rattle.vq_transfer.proofs.buffers.Buffers.size.Goals as goal

pub returns-in-Some : goal.returns-in-Some
returns-in-Some c =
    let found = c.in-Some.ensures.lookup in
    let vs = c.self.inside.bytes.items in
    let m = c.args.self.now in
    let v = c.in-Some.bytes.now in
    let inside : c.args.buffer < length (map length m) = omega (
      arith,
      ap length c.deref.ensures.value,
      found.3.0,
      ap length c.self.view_is,
      length-map vs
          (λ v. v.items),
      length-map m length,
    ) in
    c.len.ensures
    ∙ (v.ok.0
    ∙ sym (size_at vs m c.args.buffer v c.self.view_is inside
    (found.3.1 v ∙ ap (λ xs. get_or xs c.args.buffer v) c.deref.ensures.value)))
