use Rattle.std.proofs.Common.{sym, ◌∙◌}
use Rattle.vq_clocks.proofs.NeedChains.{resolver_here}
use Rattle.vq_clocks.proofs.clocks.parts.push_resolving.Goals as goal

pub op-requires : goal.op-requires
op-requires c =
    let n = c.args.need.now in
    resolver_here c.args.plan.now c.requires.plan n.chain n.value c.in-Some.op (sym c.resolver.ensures.value ∙ c.in-Some.is)
