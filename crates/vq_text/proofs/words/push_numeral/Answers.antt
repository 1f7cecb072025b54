use Rattle.std.proofs.Common.{arith}
use Rattle.std.proofs.lemmas.Fmt.{length-decimal-le}
use Rattle.vq_text.proofs.words.push_numeral.Goals as goal

pub put_number-requires : goal.put_number-requires
put_number-requires c =
    let digits = length-decimal-le 20 c.args.number (omega arith) (omega arith) (omega arith) in
    let room = c.in_ok-reserve.ensures.ok in omega arith
