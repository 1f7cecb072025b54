use Rattle.std.proofs.Common.{◌∙◌, sym, None, Some}
use Rattle.vq_lexer.proofs.DigitsRead.{twenty}
use Rattle.vq_lexer.proofs.numerals.twenty_digits.Goals as goal

pub returns-in-Some : goal.returns-in-Some
returns-in-Some c =
    c.one_more.ensures
    ∙ sym (twenty c.args.word.now c.requires (Some c.in-Some.number) (c.in-Some.ensures {u = tt}))

pub returns-in-None : goal.returns-in-None
returns-in-None c = sym (twenty c.args.word.now c.requires None (c.in-None.ensures {u = tt}))
