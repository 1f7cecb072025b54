use Rattle.std.proofs.Common.{◌≡◌, ◌+◌, true, false, sym, ap, arith}
use Rattle.std.proofs.lemmas.Bool.{false≢true}
use Rattle.vq_board_laws.specs.PointSteps.{op_number}
use Rattle.vq_access.proofs.Giving.{past_behind}
use Rattle.vq_access.proofs.behind.sees_past.Goals as goal

pub returns-in-Unbound : goal.returns-in-Unbound
returns-in-Unbound c =
    let at : op_number c.recall.result ≡ 0 = ap op_number c.in-Unbound.is in
    past_behind c.args.pass.now c.recall.new.pass c.recall.ensures.pass.0 false c.args.op c.recall.result
    c.recall.ensures.pass.2 (λ t. absurd (false≢true t)) (λ t past. omega arith)

pub returns-in-Bound : goal.returns-in-Bound
returns-in-Bound c =
    let at : op_number c.recall.result ≡ c.in-Bound.point + 2 = ap op_number c.in-Bound.is in
    past_behind c.args.pass.now c.recall.new.pass c.recall.ensures.pass.0 false c.args.op c.recall.result
    c.recall.ensures.pass.2 (λ t. absurd (false≢true t)) (λ t past. omega arith)

pub returns-in-Past : goal.returns-in-Past
returns-in-Past c =
    past_behind c.args.pass.now c.recall.new.pass c.recall.ensures.pass.0 true c.args.op c.recall.result
    c.recall.ensures.pass.2 (λ t. ap op_number c.in-Past.is) (λ t past. false≢true (sym t))
