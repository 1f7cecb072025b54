use Rattle.std.proofs.Common.{◌≡◌, ℕ, List, [], ◌∷◌, codes, find, subst, sym}
use Rattle.std.proofs.lemmas.Slice.Eq.{bytes_eq-Decides}
use Rattle.vq_model.specs.Forms.{forms_outside}
use Rattle.vq_model.specs.Meaning.{matches}
use Rattle.vq_forms.proofs.matching.host_form_of_four.Goals as goal

pub returns-then-is-2 : goal.returns-then-is-2
returns-then-is-2 c =
    let second = c.args.second.now in
    let same : second ≡ codes "fence" = (bytes_eq-Decides second (codes "fence")).0 (sym c.if-is-2.ensures) in
    λ fourth. subst (λ (word : List ℕ). c.host_fence_form.result
    ≡ find (matches (codes "host" ∷ word ∷ c.args.third.now ∷ fourth ∷ [])) forms_outside)
    (sym same) (c.host_fence_form.ensures fourth)
