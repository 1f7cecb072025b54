use Rattle.std.proofs.Common.{◌∙◌}
use Rattle.vq_capture_forms.proofs.FormWords.{inside_2, inside_3, inside_4, inside_5, inside_6}
use Rattle.vq_capture_forms.proofs.matching.form_inside.Goals as goal

pub returns-in-len2 : goal.returns-in-len2
returns-in-len2 c =
    c.inside_of_2.ensures ∙ inside_2 c.args.words.now _ c.in-len2.len_at_least c.in-len2.len_below

pub returns-in-len3 : goal.returns-in-len3
returns-in-len3 c =
    c.inside_of_3.ensures ∙ inside_3 c.args.words.now _ c.in-len3.len_at_least c.in-len3.len_below

pub returns-in-len4 : goal.returns-in-len4
returns-in-len4 c =
    c.inside_of_4.ensures ∙ inside_4 c.args.words.now _ c.in-len4.len_at_least c.in-len4.len_below

pub returns-in-len5 : goal.returns-in-len5
returns-in-len5 c =
    c.inside_of_5.ensures ∙ inside_5 c.args.words.now _ c.in-len5.len_at_least c.in-len5.len_below

pub returns-in-len6 : goal.returns-in-len6
returns-in-len6 c =
    c.inside_of_6.ensures ∙ inside_6 c.args.words.now _ c.in-len6.len_at_least c.in-len6.len_below
