use Rattle.std.proofs.Common.{◌∙◌, arith}
use Rattle.vq_spec.proofs.SortedPairs.{below_is}
use Rattle.vq_spec.proofs.GatheredChains.{found_there, found_none}
use Rattle.vq_spec.proofs.chains.Chain.resolver.Goals as goal

pub returns-then-place-len : goal.returns-then-place-len
returns-then-place-len c =
    let v = c.args.value in
    let ps = c.args.self.now.pairs.items in
    found_there ps v c.place-place.result c.index.result.now
    (c.place-place.ensures ∙ below_is ps v)
    (omega (arith, c.len.ensures, c.args.self.now.pairs.ok.0)) c.index.ensures

pub returns-else-place-len : goal.returns-else-place-len
returns-else-place-len c =
    let v = c.args.value in
    let ps = c.args.self.now.pairs.items in
    found_none ps v c.place-place.result
    (c.place-place.ensures ∙ below_is ps v)
    (omega (arith, c.len.ensures, c.args.self.now.pairs.ok.0))
