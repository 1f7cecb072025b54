use Rattle.std.proofs.Common.{◌<◌, length, arith}
use Rattle.vq_run.proofs.NamedOrigins.{one_more}
use Rattle.vq_run.proofs.origins.name_origins.Goals as goal

pub loop-answer-preserved : goal.loop-answer-preserved
loop-answer-preserved c =
    let here : c.loop-answer.answer-index < length c.loop-answer.answer-items =
    (let same = c.loop-answer.auto.answer-items in let test = c.loop-answer-test.true in omega arith) in
    one_more c.args.from.now c.loop-answer.answer-items c.deref_mut-answer-items.result.now c.loop-answer.answer-index
    c.origin-answer.result _ here c.loop-answer-test.true c.loop-answer.invariant.0 c.loop-answer.invariant.1
    c.origin-answer.ensures
