use Rattle.std.proofs.Common.{◌∙◌}
use Rattle.vq_capture_forms.proofs.FormWords.{outside_2, outside_3, outside_4}
use Rattle.vq_capture_forms.proofs.matching.form_outside.Goals as goal

pub returns-in-len2 : goal.returns-in-len2
returns-in-len2 c =
    c.outside_of_2.ensures ∙ outside_2 c.args.words.now _ c.in-len2.len_at_least c.in-len2.len_below

pub returns-in-len3 : goal.returns-in-len3
returns-in-len3 c =
    c.outside_of_3.ensures ∙ outside_3 c.args.words.now _ c.in-len3.len_at_least c.in-len3.len_below

pub returns-in-len4 : goal.returns-in-len4
returns-in-len4 c =
    c.outside_of_4.ensures ∙ outside_4 c.args.words.now _ c.in-len4.len_at_least c.in-len4.len_below
