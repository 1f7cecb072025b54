use Rattle.std.proofs.Common.{Option, IfSome, subst, sym, arith}
use Rattle.vq_model.specs.declared.ranges.Range.{Range}
use Rattle.vq_model.specs.FittingCommands.{IsWithin}
use Rattle.vq_order.proofs.BufferSizes.{size_small}
use Rattle.vq_order.proofs.races.accesses.read_span.Goals as goal

pub span_of-requires : goal.span_of-requires
span_of-requires c =
    let p = c.args.plan.now in
    let P : Option Range → Type 0 = λ o. IfSome o (IsWithin p.sizes) in
    let within = subst P (sym c.read.ensures) c.requires.fits.read in
    let here = subst P c.in_ok-read.was within in
    let small = size_small p c.requires.plan c.in_ok-read.field-0.buffer in
    let ends = here.ends in
    omega arith
