use Rattle.std.proofs.Common.{arith, find, length-drop}
use Rattle.vq_model.specs.Forms.{forms_outside}
use Rattle.vq_model.specs.Meaning.{matches}
use Rattle.vq_forms.proofs.WordsGiven.{of_two, of_three_behind}
use Rattle.vq_forms.proofs.matching.form_outside.Goals as goal

pub returns-in-len1 : goal.returns-in-len1
returns-in-len1 c =
    let behind = length-drop 1 c.args.words.now in
    of_two (λ words. find (matches words) forms_outside) _ c.args.words.now _ (omega arith) (omega arith)
    c.form_of_two.ensures

pub returns-in-len2 : goal.returns-in-len2
returns-in-len2 c =
    let behind = length-drop 1 c.args.words.now in
    of_three_behind (λ words. find (matches words) forms_outside) _ c.args.words.now _ (omega arith) (omega arith)
    c.form_of_three.ensures
