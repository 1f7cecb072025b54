use Rattle.std.proofs.Common.{◌++◌, ◌∙◌, ◌/◌, ◌%◌, List, ℕ, ap, append_assoc, arith, sym, take}
use Rattle.std.proofs.Common.{decimal}
use Rattle.vq_replay.specs.Digits.{two_digits}
use Rattle.vq_replay.proofs.Numerals.{decimal_pair}
use Rattle.vq_replay.proofs.digits.put_short.Goals as goal

pub returns-clause-written : goal.returns-clause-written
returns-clause-written c =
    c.put_pair.ensures.written
    ∙ (ap (λ (xs : List ℕ). xs ++ two_digits (c.args.number % 100)) c.put_first-at.ensures.written
    ∙ (append_assoc (take c.args.at c.args.room.now) (decimal (c.args.number / 100)) (two_digits (c.args.number % 100))
    ∙ ap (λ (xs : List ℕ). take c.args.at c.args.room.now ++ xs)
    (sym (decimal_pair c.args.number c.if-number-lt100.false (omega arith)))))
