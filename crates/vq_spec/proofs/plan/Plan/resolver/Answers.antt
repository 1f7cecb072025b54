use Rattle.std.proofs.Common.{◌<◌, ◌∙◌, ap, arith, length, subst}
use Rattle.vq_model.specs.Plan.{resolver}
use Rattle.vq_model.specs.WellFormed.{IsWellFormed}
use Rattle.vq_plan_laws.proofs.Cited.{well_formed}
use Rattle.vq_reading_laws.proofs.Cited.{read_valid}
use Rattle.vq_spec.proofs.KeptTables.{chain_count}
use Rattle.vq_spec.proofs.PlanEdges.{no_resolver}
use Rattle.vq_spec.proofs.PlanChains.{chain_read, resolver_is}
use Rattle.vq_spec.proofs.plan.Plan.resolver.Goals as goal

pub index-requires : goal.index-requires
index-requires c =
    let s = c.self.inside.script in
    let k = c.self.invariant in
    let number = k.chains.number in
    omega (
      arith,
      c.self.inside.tables.chains.ok.0,
      chain_count s,
      ap (λ p. length p.chains) c.self.view_is,
      c.requires,
    )

pub resolver-requires : goal.resolver-requires
resolver-requires c =
    let s = c.self.inside.script in
    let k = c.self.invariant in
    let number = k.chains.number in
    let chains = c.self.inside.tables.chains.items in
    let inside : c.args.t < length chains = omega
    (arith, chain_count s, ap (λ p. length p.chains) c.self.view_is, c.requires) in
    k.chains.sorted c.args.t c.index.result.now
    (chain_read chains c.args.t c.index.result.now inside c.index.ensures)

pub returns-clause-value : goal.returns-clause-value
returns-clause-value c =
    let s = c.self.inside.script in
    let k = c.self.invariant in
    let number = k.chains.number in
    let chains = c.self.inside.tables.chains.items in
    let inside : c.args.t < length chains = omega
    (arith, chain_count s, ap (λ p. length p.chains) c.self.view_is, c.requires) in
    c.resolver.ensures
    ∙ (resolver_is s k.script chains k.chains c.args.t c.args.v c.index.result.now
    (chain_read chains c.args.t c.index.result.now inside c.index.ensures)
    ∙ ap (λ p. resolver p c.args.t c.args.v) c.self.view_is)

pub returns-clause-none : goal.returns-clause-none
returns-clause-none c =
    let s = c.self.inside.script in
    let k = c.self.invariant in
    let number = k.chains.number in
    let chains = c.self.inside.tables.chains.items in
    let inside : c.args.t < length chains = omega
    (arith, chain_count s, ap (λ p. length p.chains) c.self.view_is, c.requires) in
    no_resolver c.args.self.now
    (subst IsWellFormed c.self.view_is (well_formed s (read_valid s k.script))) c.args.t c.args.v
    c.resolver.result
    (c.resolver.ensures
    ∙ (resolver_is s k.script chains k.chains c.args.t c.args.v c.index.result.now
    (chain_read chains c.args.t c.index.result.now inside c.index.ensures)
    ∙ ap (λ p. resolver p c.args.t c.args.v) c.self.view_is))
