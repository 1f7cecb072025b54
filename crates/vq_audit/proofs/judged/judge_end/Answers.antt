use Rattle.std.proofs.Common.{◌∙◌, ◌<◌, ◌+◌, ◌^◌, ℕ, List, All, ap, subst, sym}
use Rattle.vq_model.specs.Text.{lines_of}
use Rattle.vq_given.specs.declared.given.GivenLine.{GivenLine}
use Rattle.vq_audit.specs.Comparing.{first_difference}
use Rattle.vq_audit.proofs.Judging.{all_is_lawful, end_is_wrong, rest_is_wrong}
use Rattle.vq_audit.proofs.SmallLines.{end_fits, rest_fits}
use Rattle.vq_audit.proofs.judged.judge_end.Goals as goal

pub returns-then-not-says_left-clause-verdict : goal.returns-then-not-says_left-clause-verdict
returns-then-not-says_left-clause-verdict c =
    end_is_wrong c.args.core.now c.args.given.now c.requires.played c.history-history.ensures.course c.left.result
    c.left.ensures (λ says. let said = c.says_left.ensures.1 says in let not_ = c.if-not-says_left.true in cc)

pub first_difference-requires-clause-end : goal.first_difference-requires-clause-end
first_difference-requires-clause-end c = end_fits c.args.core.now.plan c.args.given.now c.requires.read

pub first_difference-requires-clause-lines : goal.first_difference-requires-clause-lines
first_difference-requires-clause-lines c =
    subst (λ (xs : List GivenLine). All (λ x. x.line + 1 < 2 ^ 32) xs) (sym c.as_slice-2.ensures)
    (rest_fits c.args.core.now.plan c.args.given.now c.requires.read)

pub returns-in-Some-clause-verdict : goal.returns-in-Some-clause-verdict
returns-in-Some-clause-verdict c =
    rest_is_wrong c.args.core.now c.args.given.now c.requires.played c.history-history.ensures.course c.left.result
    c.left.ensures (c.says_left.ensures.0 c.if-not-says_left.false) (lines_of c.in_ok-text.text.items)
    c.in_ok-text.ensures c.in-Some.line
    (sym c.in-Some.is ∙ (c.first_difference.ensures
    ∙ (ap (λ (text : List ℕ). first_difference (lines_of text) c.as_slice-2.result.now c.args.given.now.end_line)
    c.as_slice.ensures.value
    ∙ ap (λ (rest : List GivenLine). first_difference (lines_of c.in_ok-text.text.items) rest
    c.args.given.now.end_line) c.as_slice-2.ensures)))

pub returns-clause-verdict : goal.returns-clause-verdict
returns-clause-verdict c =
    all_is_lawful c.args.core.now c.args.given.now c.requires.played c.history-history.ensures.course c.left.result
    c.left.ensures (c.says_left.ensures.0 c.if-not-says_left.false) (lines_of c.in_ok-text.text.items)
    c.in_ok-text.ensures
    (sym c.in-None.is ∙ (c.first_difference.ensures
    ∙ (ap (λ (text : List ℕ). first_difference (lines_of text) c.as_slice-2.result.now c.args.given.now.end_line)
    c.as_slice.ensures.value
    ∙ ap (λ (rest : List GivenLine). first_difference (lines_of c.in_ok-text.text.items) rest
    c.args.given.now.end_line) c.as_slice-2.ensures)))
