use Rattle.std.proofs.Common.{List, ℕ, length, ap, arith, leb-true}
use Rattle.vq_board_bench.proofs.Shares.{has_share}
use Rattle.vq_board_bench.proofs.row.has_share.Goals as goal

pub returns-then-chains-ne0 : goal.returns-then-chains-ne0
returns-then-chains-ne0 c = λ long.
    let same = ap (λ (xs : List ℕ). length xs) c.chain.ensures in
    let many = leb-true c.args.count (length c.chain.result.now) long in
    has_share c.args.plan.now 0 c.args.count c.requires (omega arith)
