use Rattle.std.proofs.Common.{true, false, sym}
use Rattle.std.proofs.lemmas.Bool.{false≢true}
use Rattle.vq_access.proofs.Giving.{given_behind}
use Rattle.vq_access.proofs.behind.sees_given.Goals as goal

pub returns-in-Ok : goal.returns-in-Ok
returns-in-Ok c =
    let k = c.in-Ok.ensures.taken in
    given_behind c.args.pass.now c.sees_taken.new.pass c.sees_taken.ensures.board true c.args.op c.args.taken
    c.taken_point.result k.0 c.taken_point.ensures k.2 (λ t. k.1) (λ t m. false≢true (sym t))

pub returns-in-Err : goal.returns-in-Err
returns-in-Err c =
    let k = c.in-Err.ensures.untaken in
    given_behind c.args.pass.now c.sees_taken.new.pass c.sees_taken.ensures.board false c.args.op c.args.taken
    c.taken_point.result c.in-Err.field-0 c.taken_point.ensures k.1 (λ t. absurd (false≢true t)) (λ t. k.0)
