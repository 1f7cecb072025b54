use Rattle.std.proofs.Common.{◌≡◌, ℕ, List, [], ◌∷◌, codes, find, subst, sym}
use Rattle.std.proofs.lemmas.Slice.Eq.{bytes_eq-Decides}
use Rattle.vq_model.specs.Forms.{forms_outside}
use Rattle.vq_model.specs.Meaning.{matches}
use Rattle.vq_forms.proofs.matching.form_of_three.Goals as goal

pub returns-then-is-3 : goal.returns-then-is-3
returns-then-is-3 c =
    let first = c.args.first.now in
    let same : first ≡ codes "queue" = (bytes_eq-Decides first (codes "queue")).0 (sym c.if-is-3.ensures) in
    λ second. subst (λ (word : List ℕ). c.queue_form.result
    ≡ find (matches (word ∷ second ∷ c.args.third.now ∷ [])) forms_outside)
    (sym same) (c.queue_form.ensures second)
