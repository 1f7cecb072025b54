use Rattle.std.proofs.Common.{arith}
use Rattle.vq_ground.proofs.Bytes.{few_digits}
use Rattle.vq_replay.proofs.words.put_count.Goals as goal

pub put_number-requires : goal.put_number-requires
put_number-requires c =
    let digits = few_digits c.args.number c.from.result c.from.ensures (omega arith) in omega arith

pub returns-clause-len : goal.returns-clause-len
returns-clause-len c =
    let digits = few_digits c.args.number c.from.result c.from.ensures (omega arith) in omega arith
