use Rattle.std.proofs.Common.{◌≡◌, ◌<◌, ◌++◌, ◌∙◌, ap, sym, length, arith, get_or}
use Rattle.vq_transfer.proofs.Parts.{stored, size_at, read_front, set_front, read_back, set_back, bytes_of-copy, bytes_of-changed}
use Rattle.std.specs.Vec.{with_items}
use Rattle.vq_transfer.proofs.buffers.Buffers.copy_across.Goals as goal

pub copy_from-requires-clause-read : goal.copy_from-requires-clause-read
copy_from-requires-clause-read c =
    let whole = sym c.deref_mut.ensures.value ∙ c.split_at_mut-front.ensures.value in
    let w = c.index-front-source.result in
    let near : c.args.source < length c.split_at_mut-front.result.0.now = omega
    (arith, c.if-source-target.true, c.split_at_mut-front.ensures.front_len) in
    let size = size_at _ c.args.self.now c.args.source w c.self.view_is c.requires.fits.read.exists
    (c.index-front-source.is ∙ read_front _ _ _ c.args.source w whole near) in
    omega (
      arith,
      c.requires.fits.read.ends,
      ap length c.as_slice-bytes.ensures.value,
      ap length
          (ap (λ x. x.items) (sym c.index-front-source.is)),
    )

pub returns-then-source-target : goal.returns-then-source-target
returns-then-source-target c =
    let all = c.self.inside.bytes in
    let front = c.split_at_mut-front.result.0.now in
    let back = c.split_at_mut-front.result.1.now in
    let whole : all.items ≡ front ++ back = sym c.deref_mut.ensures.value
    ∙ c.split_at_mut-front.ensures.value in
    let ends : length front ≡ c.args.target = c.split_at_mut-front.ensures.front_len in
    let near : c.args.source < length front = omega (arith, c.if-source-target.true) in
    let left : 0 < length back = omega (
      arith,
      c.split_at_mut-front.ensures.back_len,
      ap length c.deref_mut.ensures.value,
      stored
          all.items c.args.self.now c.args.target c.self.view_is c.requires.fits.written.exists,
    ) in
    let w = c.index-front-source.result in
    let v = c.index-back-0.result in
    let ws = c.copy_from.new.target in
    bytes_of-changed all _ c.args.target v ws (get_or back 0 v) (sym c.index-back-0.is)
    (set_back all.items front back c.args.target (with_items (get_or back 0 v) ws) whole ends
    left)
    ∙ bytes_of-copy all.items c.args.self.now c.args.source c.args.target w v c.self.view_is
    c.requires.fits.read.exists c.requires.fits.written.exists
    (c.index-front-source.is ∙ read_front _ _ _ c.args.source w whole near)
    (c.index-back-0.is ∙ read_back _ _ _ c.args.target v whole ends) c.args.from c.args.to
    c.args.size c.as_slice-bytes.result.now c.as_mut_slice.result.now ws
    (c.as_slice-bytes.ensures.value ∙ ap (λ x. x.items) (sym c.index-front-source.is))
    (c.as_mut_slice.ensures.value ∙ ap (λ x. x.items) (sym c.index-back-0.is))
    c.copy_from.ensures c.requires.fits.read.ends c.requires.fits.written.ends

pub copy_from-requires-else-source-target-clause-written :
    goal.copy_from-requires-else-source-target-clause-written
copy_from-requires-else-source-target-clause-written c =
    let whole = sym c.deref_mut-else-source-target.ensures.value
    ∙ c.split_at_mut-front-else-source-target.ensures.value in
    let v = c.index-front-target.result in
    let others : c.args.target < c.args.source = omega
    (arith, c.if-source-target.false, c.requires.others) in
    let near : c.args.target < length c.split_at_mut-front-else-source-target.result.0.now = omega
    (arith, c.split_at_mut-front-else-source-target.ensures.front_len) in
    let size = size_at _ c.args.self.now c.args.target v c.self.view_is
    c.requires.fits.written.exists
    (c.index-front-target.is ∙ read_front _ _ _ c.args.target v whole near) in
    omega (
      arith,
      c.requires.fits.written.ends,
      ap length
          c.as_mut_slice-else-source-target.ensures.value,
      ap length
          (ap (λ x. x.items) (sym c.index-front-target.is)),
    )

pub copy_from-requires-else-source-target-clause-read :
    goal.copy_from-requires-else-source-target-clause-read
copy_from-requires-else-source-target-clause-read c =
    let whole = sym c.deref_mut-else-source-target.ensures.value
    ∙ c.split_at_mut-front-else-source-target.ensures.value in
    let w = c.index-back-0-else-source-target.result in
    let size = size_at _ c.args.self.now c.args.source w c.self.view_is c.requires.fits.read.exists
    (c.index-back-0-else-source-target.is
    ∙ read_back _ _ _ c.args.source w whole
    c.split_at_mut-front-else-source-target.ensures.front_len) in
    omega (
      arith,
      c.requires.fits.read.ends,
      ap length
          c.as_slice-bytes-else-source-target.ensures.value,
      ap length
          (ap (λ x. x.items) (sym c.index-back-0-else-source-target.is)),
    )

pub returns-else-source-target : goal.returns-else-source-target
returns-else-source-target c =
    let all = c.self.inside.bytes in
    let front = c.split_at_mut-front-else-source-target.result.0.now in
    let back = c.split_at_mut-front-else-source-target.result.1.now in
    let whole : all.items ≡ front ++ back = sym c.deref_mut-else-source-target.ensures.value
    ∙ c.split_at_mut-front-else-source-target.ensures.value in
    let ends : length front ≡ c.args.source =
    c.split_at_mut-front-else-source-target.ensures.front_len in
    let others : c.args.target < c.args.source = omega
    (arith, c.if-source-target.false, c.requires.others) in
    let near : c.args.target < length front = omega arith in
    let w = c.index-back-0-else-source-target.result in
    let v = c.index-front-target.result in
    let ws = c.copy_from-else-source-target.new.target in
    bytes_of-changed all _ c.args.target v ws (get_or front c.args.target v)
    (sym c.index-front-target.is)
    (set_front all.items front back c.args.target (with_items (get_or front c.args.target v) ws)
    whole near)
    ∙ bytes_of-copy all.items c.args.self.now c.args.source c.args.target w v c.self.view_is
    c.requires.fits.read.exists c.requires.fits.written.exists
    (c.index-back-0-else-source-target.is ∙ read_back _ _ _ c.args.source w whole ends)
    (c.index-front-target.is ∙ read_front _ _ _ c.args.target v whole near) c.args.from
    c.args.to c.args.size c.as_slice-bytes-else-source-target.result.now
    c.as_mut_slice-else-source-target.result.now ws
    (c.as_slice-bytes-else-source-target.ensures.value
    ∙ ap (λ x. x.items) (sym c.index-back-0-else-source-target.is))
    (c.as_mut_slice-else-source-target.ensures.value
    ∙ ap (λ x. x.items) (sym c.index-front-target.is)) c.copy_from-else-source-target.ensures
    c.requires.fits.read.ends c.requires.fits.written.ends
