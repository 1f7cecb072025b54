use Rattle.std.proofs.Common.{◌∙◌, arith}
use Rattle.std.proofs.lemmas.List.Sums.{fails_before_first}
use Rattle.vq_lexer.proofs.Cited.{place_of_first}
use Rattle.vq_model.specs.Text.{is_blank}
use Rattle.vq_forms.proofs.walk.word_end.Goals as goal

pub returns-clause-place : goal.returns-clause-place
returns-clause-place c = c.unwrap_or.ensures ∙ place_of_first is_blank c.args.part.now c.memchr2.result c.memchr2.ensures

pub returns-clause-none : goal.returns-clause-none
returns-clause-none c =
    let place = returns-clause-place c in
    λ whole k d l. fails_before_first is_blank c.args.part.now k d (omega (arith, place))
