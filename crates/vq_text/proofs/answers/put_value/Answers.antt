use Rattle.std.proofs.Common.{arith}
use Rattle.std.proofs.lemmas.Fmt.{length-decimal-le}
use Rattle.vq_text.proofs.answers.put_value.Goals as goal

pub put_number-requires : goal.put_number-requires
put_number-requires c =
    let digits = length-decimal-le 20 c.args.value (omega arith) (omega arith) (omega arith) in omega arith

pub returns-clause-len : goal.returns-clause-len
returns-clause-len c =
    let digits = length-decimal-le 20 c.args.value (omega arith) (omega arith) (omega arith) in omega arith
