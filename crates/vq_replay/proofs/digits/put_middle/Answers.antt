use Rattle.std.proofs.Common.{◌++◌, ◌∙◌, ◌/◌, ◌%◌, List, ℕ, ap, append_assoc, arith, sym, take}
use Rattle.std.proofs.Common.{decimal}
use Rattle.vq_replay.specs.Digits.{four_digits}
use Rattle.vq_replay.proofs.Numerals.{decimal_four}
use Rattle.vq_replay.proofs.digits.put_middle.Goals as goal

pub returns-clause-written : goal.returns-clause-written
returns-clause-written c =
    c.put_four.ensures.written
    ∙ (ap (λ (xs : List ℕ). xs ++ four_digits (c.args.number % 10000)) c.put_short-at.ensures.written
    ∙ (append_assoc (take c.args.at c.args.room.now) (decimal (c.args.number / 10000)) (four_digits (c.args.number % 10000))
    ∙ ap (λ (xs : List ℕ). take c.args.at c.args.room.now ++ xs)
    (sym (decimal_four c.args.number c.if-number-lt10000.false (omega arith)))))
