use Rattle.std.proofs.Common.{arith}
use Rattle.std.proofs.lemmas.Fmt.{length-decimal-le}
use Rattle.vq_replay.proofs.words.push_op.Goals as goal

pub put_number-requires : goal.put_number-requires
put_number-requires c =
    let digits = length-decimal-le 20 c.op-found.result.value (omega arith) (omega arith) (omega arith) in
    let room = c.in_ok-reserve.ensures.ok in omega arith
