use Rattle.std.proofs.Common.{arith, find}
use Rattle.vq_model.specs.Forms.{forms_in_batch}
use Rattle.vq_model.specs.Meaning.{matches}
use Rattle.vq_forms.proofs.WordsGiven.{of_two, of_three, of_five}
use Rattle.vq_forms.proofs.matching.form_in_batch.Goals as goal

pub returns-in-len2 : goal.returns-in-len2
returns-in-len2 c =
    of_two (λ words. find (matches words) forms_in_batch) _ c.args.words.now _ (omega arith) (omega arith)
    c.form_of_two_in_batch.ensures

pub returns-in-len3 : goal.returns-in-len3
returns-in-len3 c =
    of_three (λ words. find (matches words) forms_in_batch) _ c.args.words.now _ (omega arith) (omega arith)
    c.form_of_three_in_batch.ensures

pub returns-in-len5 : goal.returns-in-len5
returns-in-len5 c =
    of_five (λ words. find (matches words) forms_in_batch) _ c.args.words.now _ (omega arith) (omega arith)
    c.form_of_five_in_batch.ensures
