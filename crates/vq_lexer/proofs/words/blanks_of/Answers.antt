use Rattle.std.proofs.Common.{arith}
use Rattle.vq_lexer.proofs.Blanks.{blanks_fit, joined_blanks}
use Rattle.vq_lexer.proofs.words.blanks_of.Goals as goal

pub overflow_mul-result : goal.overflow_mul-result
overflow_mul-result c =
    let all = joined_blanks 16 c.args.part.now c.in_ok-first.first c.in_ok-last.last (omega arith) (omega arith)
    c.in_ok-first.ensures c.in_ok-last.ensures in
    let fits = blanks_fit c.args.part.now _ all (omega arith) in
    record { fits = omega (arith, fits) }

pub overflow_add-result : goal.overflow_add-result
overflow_add-result c =
    let all = joined_blanks 16 c.args.part.now c.in_ok-first.first c.in_ok-last.last (omega arith) (omega arith)
    c.in_ok-first.ensures c.in_ok-last.ensures in
    let fits = blanks_fit c.args.part.now _ all (omega arith) in
    record { fits = omega (arith, fits) }

pub returns-then-length-le32 : goal.returns-then-length-le32
returns-then-length-le32 c = (
  joined_blanks 16 c.args.part.now c.in_ok-first.first c.in_ok-last.last (omega arith) (omega arith)
      c.in_ok-first.ensures c.in_ok-last.ensures,
  c.if-length-le32.true,
)

pub overflow_mul-result-then-length-lt16 : goal.overflow_mul-result-then-length-lt16
overflow_mul-result-then-length-lt16 c =
    let all = joined_blanks 8 c.args.part.now c.in_ok-first-2.first c.in_ok-last-2.last (omega arith) (omega arith)
    c.in_ok-first-2.ensures c.in_ok-last-2.ensures in
    let fits = blanks_fit c.args.part.now _ all (omega arith) in
    record { fits = omega (arith, fits) }

pub overflow_add-result-then-length-lt16 : goal.overflow_add-result-then-length-lt16
overflow_add-result-then-length-lt16 c =
    let all = joined_blanks 8 c.args.part.now c.in_ok-first-2.first c.in_ok-last-2.last (omega arith) (omega arith)
    c.in_ok-first-2.ensures c.in_ok-last-2.ensures in
    let fits = blanks_fit c.args.part.now _ all (omega arith) in
    record { fits = omega (arith, fits) }

pub returns-then-length-lt16 : goal.returns-then-length-lt16
returns-then-length-lt16 c = (
  joined_blanks 8 c.args.part.now c.in_ok-first-2.first c.in_ok-last-2.last (omega arith) (omega arith)
      c.in_ok-first-2.ensures c.in_ok-last-2.ensures,
  omega arith,
)
