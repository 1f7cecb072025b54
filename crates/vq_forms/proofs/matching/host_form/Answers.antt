use Rattle.std.proofs.Common.{◌∷◌, arith, codes, find}
use Rattle.vq_model.specs.Forms.{forms_outside}
use Rattle.vq_model.specs.Meaning.{matches}
use Rattle.vq_forms.proofs.WordsGiven.{of_three_first}
use Rattle.vq_forms.proofs.matching.host_form.Goals as goal

pub returns-in-len3 : goal.returns-in-len3
returns-in-len3 c =
    of_three_first (λ words. find (matches (codes "host" ∷ words)) forms_outside) _ c.args.words.now _
    (omega arith) (omega arith) c.host_form_of_four.ensures
