use Rattle.std.proofs.Common.{arith, ap, length}
use Rattle.vq_spec.proofs.PlanChains.{chain_read, placed_is, place_fits}
use Rattle.vq_spec.proofs.chains.place_op.Goals as goal

pub overflow_cast-index : goal.overflow_cast-index
overflow_cast-index c =
    let chain = c.index-chains-op.result in
    let few = (c.requires.searchable c.args.op.now.chain chain c.requires.exists).few in
    omega (
      arith,
      place_fits chain.pairs.items c.args.op.now.value c.args.e,
      c.place-index.ensures,
      ap (λ d. length d.pairs.items) c.index-chains-op.is,
    )

pub returns : goal.returns
returns c =
    placed_is c.args.chains.now c.args.e c.args.op.now c.index-chains-op.result c.place-index.result
    (chain_read c.args.chains.now c.args.op.now.chain c.index-chains-op.result c.requires.exists
    c.index-chains-op.is) c.place-index.ensures
