use Rattle.std.proofs.Common.{◌≡◌, false, true, find, take, sym, ap, ◌∙◌}
use Rattle.vq_model.specs.Meaning.{matches}
use Rattle.vq_model.specs.Text.{words_in}
use Rattle.vq_forms.specs.Table.{forms_of}
use Rattle.vq_lexer.specs.Words.{texts}
use Rattle.vq_script.specs.Holds.{open_so_far, section_of}
use Rattle.vq_script.proofs.ManyWords.{form_even, form_odd}
use Rattle.vq_script.proofs.long_line.many_form.Goals as goal

pub returns-then-are_even : goal.returns-then-are_even
returns-then-are_even c =
    let known = c.args.known.now in
    let words = c.args.words.now in
    let even : c.are_even.result ≡ true = cc in
    c.form_of.ensures
    ∙ ap (λ s. find (matches (texts (take 8 words))) (forms_of c.args.form known.version s)) c.section.ensures
    ∙ (λ i. find (λ f. form_even words c.requires.more (words_in c.args.part.now) c.requires.parts c.requires.many
    (sym c.are_even.ensures ∙ even) f i)
    (forms_of c.args.form known.version (section_of known.scheduled (open_so_far known.batch))))

pub returns-else-are_even : goal.returns-else-are_even
returns-else-are_even c =
    let known = c.args.known.now in
    let words = c.args.words.now in
    let odd : c.are_even.result ≡ false = cc in
    c.form_of-else-are_even.ensures
    ∙ ap (λ s. find (matches (texts (take 7 words))) (forms_of c.args.form known.version s)) c.section-else-are_even.ensures
    ∙ (λ i. find (λ f. form_odd words c.requires.more (words_in c.args.part.now) c.requires.parts c.requires.many
    (sym c.are_even.ensures ∙ odd) f i)
    (forms_of c.args.form known.version (section_of known.scheduled (open_so_far known.batch))))
