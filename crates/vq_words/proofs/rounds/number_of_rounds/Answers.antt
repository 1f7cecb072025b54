use Rattle.std.proofs.Common.{◌≡◌, arith, get_or}
use Rattle.std.proofs.lemmas.Grind.{common_steps}
use Rattle.std.proofs.lemmas.Int.Digits.{digits_value_more}
use Rattle.std.proofs.lemmas.Str.{digit_value_digit}
use Rattle.vq_words.proofs.rounds.number_of_rounds.Goals as goal

pub loop-byte-preserved : goal.loop-byte-preserved
loop-byte-preserved c =
    let more = digits_value_more 10 c.args.word.now c.loop-byte.byte-index (omega arith) in
    let value = digit_value_digit (get_or c.args.word.now c.loop-byte.byte-index 0) (grind arith) in
    record {
      number = grind arith;
      digits = grind (arith, common_steps);
      none = λ e. absurd (omega arith);
      one = λ e. let first : c.loop-byte.byte-index ≡ 0 = omega arith in let n = c.loop-byte.invariant.none first in grind arith;
      two = λ e. let second : c.loop-byte.byte-index ≡ 1 = omega arith in let n = c.loop-byte.invariant.one second in grind arith;
      three = λ e. let third : c.loop-byte.byte-index ≡ 2 = omega arith in let n = c.loop-byte.invariant.two third in grind arith;
    }
