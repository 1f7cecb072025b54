use Rattle.std.proofs.Common.{ap, arith, length}
use Rattle.vq_spec.proofs.KeptTables.{chain_count}
use Rattle.vq_spec.proofs.plan.Plan.chains.Goals as goal

pub returns : goal.returns
returns c =
    let s = c.self.inside.script in
    let number = c.self.invariant.chains.number in
    omega (
      arith,
      c.len.ensures,
      c.self.inside.tables.chains.ok.0,
      chain_count s,
      ap (λ p. length p.chains) c.self.view_is,
    )
