use Rattle.std.proofs.Common.{arith, length}
use Rattle.vq_lexer.proofs.DigitsRead.{few_hexadecimal}
use Rattle.vq_lexer.proofs.numerals.hexadecimal.Goals as goal

pub few_digits-requires-clause-few : goal.few_digits-requires-clause-few
few_digits-requires-clause-few c = few_hexadecimal (length c.args.digits.now) (omega arith)
