use Rattle.std.proofs.Common.{◌++◌, ◌∙◌, List, ℕ, ap, sym, take}
use Rattle.std.proofs.lemmas.Fmt.{decimal_digit}
use Rattle.vq_replay.proofs.Numerals.{decimal_two}
use Rattle.vq_replay.proofs.digits.put_first.Goals as goal

pub returns-then-number-lt10-clause-written : goal.returns-then-number-lt10-clause-written
returns-then-number-lt10-clause-written c =
    c.put_digit.ensures.written
    ∙ ap (λ (xs : List ℕ). take c.args.at c.args.room.now ++ xs)
    (sym (decimal_digit c.args.number c.if-number-lt10.true))

pub returns-clause-written : goal.returns-clause-written
returns-clause-written c =
    c.put_pair.ensures.written
    ∙ ap (λ (xs : List ℕ). take c.args.at c.args.room.now ++ xs)
    (sym (decimal_two c.args.number c.if-number-lt10.false c.requires.0))
