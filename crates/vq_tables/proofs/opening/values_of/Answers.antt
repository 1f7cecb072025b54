use Rattle.std.proofs.Common.{◌<◌, ℕ, List, length, get_or, sym, subst, arith, ap}
use Rattle.vq_plan_laws.proofs.Cited.{plan_well_formed}
use Rattle.vq_tables.proofs.OpeningLaws.{chain_op}
use Rattle.vq_tables.proofs.opening.values_of.Goals as goal

pub op-requires : goal.op-requires
op-requires c =
    let p = c.args.plan.now in
    let size = ap length c.chain-op-items.ensures in
    let test = c.loop-op-test.true in
    subst (λ (xs : List ℕ). get_or xs c.loop-op.op-index 0 < length p.ops) (sym c.chain-op-items.ensures) (chain_op p
    (plan_well_formed p c.requires.plan) c.args.t c.loop-op.op-index (omega arith))
