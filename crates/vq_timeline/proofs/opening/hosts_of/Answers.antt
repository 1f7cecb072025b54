use Rattle.std.proofs.Common.{◌<◌, ℕ, List, length, get_or, sym, subst, arith, ap}
use Rattle.vq_timeline.proofs.Opened.{chain_op}
use Rattle.vq_timeline.proofs.opening.hosts_of.Goals as goal

pub is_of_host-requires-clause-exists : goal.is_of_host-requires-clause-exists
is_of_host-requires-clause-exists c =
    let p = c.args.plan.now in
    let size = ap length c.chain-op-items.ensures in
    let test = c.loop-op-test.true in
    subst (λ (xs : List ℕ). get_or xs c.loop-op.op-index 0 < length p.ops) (sym c.chain-op-items.ensures)
    (chain_op p c.requires.plan c.args.chain c.loop-op.op-index (omega arith))
