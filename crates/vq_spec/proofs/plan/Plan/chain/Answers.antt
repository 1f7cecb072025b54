use Rattle.std.proofs.Common.{◌<◌, ◌∙◌, ap, arith, length}
use Rattle.vq_model.specs.Plan.{chain}
use Rattle.vq_spec.proofs.KeptTables.{chain_count}
use Rattle.vq_spec.proofs.PlanChains.{chain_read, chain_kept}
use Rattle.vq_spec.proofs.plan.Plan.chain.Goals as goal

pub index-requires : goal.index-requires
index-requires c =
    let s = c.self.inside.script in
    let k = c.self.invariant in
    let number = k.chains.number in
    omega (
      arith,
      c.self.inside.tables.chains.ok.0,
      chain_count s,
      ap (λ p. length p.chains) c.self.view_is,
      c.requires,
    )

pub returns : goal.returns
returns c =
    let s = c.self.inside.script in
    let k = c.self.invariant in
    let number = k.chains.number in
    let chains = c.self.inside.tables.chains.items in
    let inside : c.args.t < length chains = omega
    (arith, chain_count s, ap (λ p. length p.chains) c.self.view_is, c.requires) in
    c.as_slice.ensures
    ∙ (chain_kept s k.script chains k.chains c.args.t c.index.result.now
    (chain_read chains c.args.t c.index.result.now inside c.index.ensures)
    ∙ ap (λ p. chain p c.args.t) c.self.view_is)
