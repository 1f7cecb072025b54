use Rattle.std.proofs.Common.{arith}
use Rattle.vq_ground.proofs.Bytes.{few_digits}
use Rattle.vq_text.proofs.answers.put_line.Goals as goal

pub put_number-requires : goal.put_number-requires
put_number-requires c =
    let digits = few_digits c.args.line c.from.result c.from.ensures (omega arith) in omega arith

pub put_bytes-requires : goal.put_bytes-requires
put_bytes-requires c =
    let digits = few_digits c.args.line c.from.result c.from.ensures (omega arith) in omega arith

pub put_words-requires : goal.put_words-requires
put_words-requires c =
    let digits = few_digits c.args.line c.from.result c.from.ensures (omega arith) in omega arith

pub put_bytes-requires-2 : goal.put_bytes-requires-2
put_bytes-requires-2 c =
    let digits = few_digits c.args.line c.from.result c.from.ensures (omega arith) in omega arith

pub returns-clause-len : goal.returns-clause-len
returns-clause-len c =
    let digits = few_digits c.args.line c.from.result c.from.ensures (omega arith) in omega arith
