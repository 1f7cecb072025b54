use Rattle.std.proofs.Common.{arith, length}
use Rattle.std.proofs.lemmas.Grind.{common_steps}
use Rattle.std.proofs.lemmas.Int.Digits.{digits_value_more}
use Rattle.vq_lexer.proofs.DigitsRead.{below_limit, below_more}
use Rattle.vq_lexer.proofs.numerals.few_digits.Goals as goal

pub overflow_mul-number : goal.overflow_mul-number
overflow_mul-number c =
    let below = below_limit c.args.base c.loop-byte.byte-index (length c.args.digits.now) c.loop-byte.number
    c.digit-value.result
    c.requires.base c.loop-byte-test.true c.requires.few c.loop-byte.invariant.small c.if-value-base.false in
    rw c.from.ensures (record { fits = omega (arith, below) })

pub overflow_add-number : goal.overflow_add-number
overflow_add-number c =
    let below = below_limit c.args.base c.loop-byte.byte-index (length c.args.digits.now) c.loop-byte.number
    c.digit-value.result
    c.requires.base c.loop-byte-test.true c.requires.few c.loop-byte.invariant.small c.if-value-base.false in
    rw (c.from.ensures, c.from-in-loop-byte.ensures) (record { fits = below })

pub loop-byte-preserved : goal.loop-byte-preserved
loop-byte-preserved c =
    let more = digits_value_more c.args.base c.args.digits.now c.loop-byte.byte-index (omega arith) in
    record {
      small = rw (c.from.ensures, c.from-in-loop-byte.ensures)
          (below_more c.args.base c.loop-byte.byte-index c.loop-byte.number c.digit-value.result
          c.loop-byte.invariant.small c.if-value-base.false);
      number = grind arith;
      digits = grind (arith, common_steps);
    }
