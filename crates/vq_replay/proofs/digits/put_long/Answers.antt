use Rattle.std.proofs.Common.{◌++◌, ◌∙◌, ◌/◌, ◌%◌, List, ℕ, ap, append_assoc, arith, sym, take}
use Rattle.std.proofs.Common.{decimal}
use Rattle.vq_replay.specs.Digits.{eight_digits}
use Rattle.vq_replay.proofs.Numerals.{decimal_eight}
use Rattle.vq_replay.proofs.digits.put_long.Goals as goal

pub returns-clause-written : goal.returns-clause-written
returns-clause-written c =
    c.put_eight.ensures.written
    ∙ (ap (λ (xs : List ℕ). xs ++ eight_digits (c.args.number % 100000000)) c.put_middle-at.ensures.written
    ∙ (append_assoc (take c.args.at c.args.room.now) (decimal (c.args.number / 100000000)) (eight_digits (c.args.number % 100000000))
    ∙ ap (λ (xs : List ℕ). take c.args.at c.args.room.now ++ xs)
    (sym (decimal_eight c.args.number c.if-number-lt100000000.false (omega arith)))))
