-- A pass that notes operations unmade, which are so now, keeps the run that the words show.
use Rattle.std.proofs.Common.{◌≡◌, ℕ, ◌<◌, true, false, List, Some, set, sym, ap, ◌∙◌, subst, arith, ◌⊎◌, inl, inr}
use mathlib.Core.Option.{some}
use lib.ListN.{get_elem?}
use native.Mathlib.Decide.{dec_le}
use Rattle.std.proofs.lemmas.Bool.{false≢true}
use Rattle.vq_model.specs.Machine.{Progress, State}
use Rattle.vq_model.specs.Plan.{Plan, value, chain_of}
use Rattle.vq_ground.specs.Lists.{has}
use Rattle.vq_board_laws.specs.declared.view.View.{View}
use Rattle.vq_board_laws.specs.declared.view.Told.{Told}
use Rattle.vq_board_laws.specs.Reached.{IsReached, SinceStart, InOrder, answer_told}
use Rattle.vq_board_laws.specs.RunLaws.{RunLaws}
use Rattle.vq_board_laws.proofs.Runs.{end_state, reached_set}

pub reached_notes : (p : Plan) → RunLaws p → (s : Progress) (job : ℕ → ℕ) (views : List View) (id : ℕ) (v w : View) → IsReached p s job views → get_elem? views id ≡ some v → w.runs ≡ v.runs → w.told ≡ v.told
    → ((e : ℕ) → has w.unmade e ≡ true → (has v.unmade e ≡ true) ⊎ (s.made e ≡ false)) → IsReached p s job (set views id w)
reached_notes p laws s job views id v w r at runs told notes = reached_set p s job job views id w r
    (λ h j. r.answers id v at h j ∙ ap (λ (ts : List Told). answer_told ts j) (sym told))
    record { payload = λ j t e. since.payload j t (sym runs ∙ e); rises = λ j t e. since.rises j t (sym runs ∙ e); noted = noted }
    (λ h. subst (InOrder p job) (sym told) (r.told id v at h))
    (λ ts o. o)
  where
    end : State
    end = end_state p s job views r

    since : SinceStart p end v.runs v.unmade
    since = r.since id v at

    noted : (j e t : ℕ) → w.runs ≡ Some j → has w.unmade e ≡ true → chain_of p e ≡ Some t → end.at_start j t < value p e
    noted j e t i m c = elim (notes e m) [
      | inl old ↦ since.noted j e t (sym runs ∙ i) old c
      | inr unmade ↦ elim (dec_le (value p e) (end.at_start j t)) [
        | yes low ↦
            let up = since.rises j t (sym runs ∙ i) in
            let now : end.progress.made e ≡ true = (laws.0 r.steps r.run e t c).1 (omega arith) in
            absurd (false≢true (sym unmade ∙ (ap (λ (z : Progress). z.made e) (sym r.leads) ∙ now)))
        | no high ↦ omega arith
      ]
    ]
