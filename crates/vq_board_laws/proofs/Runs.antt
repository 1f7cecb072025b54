-- The run that the words show, when a pass steps.
use Rattle.std.proofs.Common.{◌≡◌, ◌≢◌, ℕ, ◌<◌, List, [], ◌∷◌, ◌++◌, ap, sym, ◌∙◌, subst, set, Option}
use Rattle.std.specs.Prelude.{fold}
use mathlib.Core.Option.{some}
use lib.ListN.{get_elem?}
use Rattle.std.proofs.lemmas.List.Sums.{fold-append}
use Rattle.vq_model.specs.Plan.{Plan}
use Rattle.vq_model.specs.Machine.{Progress, State, Step, after_step, CanStep, RunFrom, opening_state, state_after}
use Rattle.vq_board_laws.specs.declared.view.View.{View}
use Rattle.vq_board_laws.specs.declared.view.Told.{Told}
use Rattle.vq_board_laws.specs.Reached.{IsReached, SinceStart, InOrder, answer_told}
use Rattle.vq_board_laws.proofs.Views.{each_pass}

run_longer : (p : Plan) (s : State) (es : List Step) (e : Step) → RunFrom p s es → CanStep p (fold (after_step p) s es) e → RunFrom p s (es ++ e ∷ [])
run_longer p s [] e r can = (can, tt)
run_longer p s (x ∷ es) e r can = (r.0, run_longer p (after_step p s x) es e r.1 can)

-- the state at the end of the run
abbrev pub end_state : (p : Plan) (s : Progress) (job : ℕ → ℕ) (views : List View) → IsReached p s job views → State
end_state p s job views r = state_after p r.steps

-- answers that were given in order still are, where no job goes back and none is finished
pub order_stays : (p : Plan) (job job' : ℕ → ℕ) → ((j : ℕ) → 2 < job j → 2 < job' j) → ((j : ℕ) → 3 < job' j → 3 < job j) → (told : List Told) → InOrder p job told → InOrder p job' told
order_stays p job job' up down told o = record { falling = o.falling; asks = o.asks; begun = λ j h. up j (o.begun j h); finished = λ j h. o.finished j (down j h) }

-- a pass steps, and the run stays as it is
pub reached_set : (p : Plan) (s : Progress) (job job' : ℕ → ℕ) (views : List View) (id : ℕ) (w : View) (r : IsReached p s job views)
    → (id ≡ 0 → (j : ℕ) → (end_state p s job views r).answer j ≡ answer_told w.told j) → SinceStart p (end_state p s job views r) w.runs w.unmade → (id ≡ 0 → InOrder p job' w.told)
    → ((told : List Told) → InOrder p job told → InOrder p job' told) → IsReached p s job' (set views id w)
reached_set p s job job' views id w r answers since told else = record {
  steps = r.steps;
  run = r.run;
  leads = r.leads;
  answers = each_pass (λ i z. i ≡ 0 → (j : ℕ) → (end_state p s job views r).answer j ≡ answer_told z.told j) views id w answers (λ i u _ e. r.answers i u e);
  since = each_pass (λ i z. SinceStart p (end_state p s job views r) z.runs z.unmade) views id w since (λ i u _ e. r.since i u e);
  told = each_pass (λ i z. i ≡ 0 → InOrder p job' z.told) views id w told (λ i u _ e h. else u.told (r.told i u e h));
}

abbrev pub ReachedFields : Type 0
ReachedFields = Option ℕ × List ℕ × List Told

abbrev pub reached_fields : View → ReachedFields
reached_fields v = (v.runs, v.unmade, v.told)

-- a pass steps, and neither the run nor what the pass told and noted changes
pub reached_stays : (p : Plan) (s : Progress) (job job' : ℕ → ℕ) (views : List View) (id : ℕ) (v w : View) → IsReached p s job views → get_elem? views id ≡ some v → reached_fields w ≡ reached_fields v
    → ((told : List Told) → InOrder p job told → InOrder p job' told) → IsReached p s job' (set views id w)
reached_stays p s job job' views id v w r at same else = reached_set p s job job' views id w r
    (λ h. let Q : ReachedFields → Type 0 = λ t. (j : ℕ) → (end_state p s job views r).answer j ≡ answer_told t.2 j in subst Q (sym same) (r.answers id v at h))
    (let Q : ReachedFields → Type 0 = λ t. SinceStart p (end_state p s job views r) t.0 t.1 in subst Q (sym same) (r.since id v at))
    (λ h. let Q : ReachedFields → Type 0 = λ t. InOrder p job' t.2 in subst Q (sym same) (else v.told (r.told id v at h)))
    else

-- a pass steps, and the run is a step longer
pub reach_further : (p : Plan) (s t : Progress) (x : Step) (job job' : ℕ → ℕ) (views : List View) (id : ℕ) (w : View) (r : IsReached p s job views)
    → CanStep p (end_state p s job views r) x → (after_step p (end_state p s job views r) x).progress ≡ t
    → (id ≡ 0 → (j : ℕ) → (after_step p (end_state p s job views r) x).answer j ≡ answer_told w.told j)
    → ((i : ℕ) (u : View) → i ≢ id → i ≡ 0 → (j : ℕ) → (end_state p s job views r).answer j ≡ answer_told u.told j → (after_step p (end_state p s job views r) x).answer j ≡ answer_told u.told j)
    → SinceStart p (after_step p (end_state p s job views r) x) w.runs w.unmade
    → ((i : ℕ) (u : View) → i ≢ id → get_elem? views i ≡ some u → SinceStart p (end_state p s job views r) u.runs u.unmade → SinceStart p (after_step p (end_state p s job views r) x) u.runs u.unmade)
    → (id ≡ 0 → InOrder p job' w.told) → ((i : ℕ) (u : View) → i ≢ id → i ≡ 0 → get_elem? views i ≡ some u → InOrder p job u.told → InOrder p job' u.told)
    → IsReached p t job' (set views id w)
reach_further p s t x job job' views id w r can is answers answers_else since since_else told told_else =
    let end : State = after_step p (end_state p s job views r) x in
    let ends : state_after p (r.steps ++ x ∷ []) ≡ end = fold-append (after_step p) (opening_state p) r.steps (x ∷ []) in record {
      steps = r.steps ++ x ∷ [];
      run = run_longer p (opening_state p) r.steps x r.run can;
      leads = ap (λ (z : State). z.progress) ends ∙ is;
      answers = subst (λ (e : State). (i : ℕ) (v : View) → get_elem? (set views id w) i ≡ some v → i ≡ 0 → (j : ℕ) → e.answer j ≡ answer_told v.told j) (sym ends)
          (each_pass (λ i z. i ≡ 0 → (j : ℕ) → end.answer j ≡ answer_told z.told j) views id w answers (λ i u ne e h j. answers_else i u ne h j (r.answers i u e h j)));
      since = subst (λ (e : State). (i : ℕ) (v : View) → get_elem? (set views id w) i ≡ some v → SinceStart p e v.runs v.unmade) (sym ends)
          (each_pass (λ i z. SinceStart p end z.runs z.unmade) views id w since (λ i u ne e. since_else i u ne e (r.since i u e)));
      told = each_pass (λ i z. i ≡ 0 → InOrder p job' z.told) views id w told (λ i u ne e h. told_else i u ne h e (r.told i u e h));
    }
