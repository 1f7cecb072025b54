-- What the host's pass may do next in a row, and how far it is then.
use Rattle.std.proofs.Common.{ℕ, suc, ◌≡◌, ◌<◌, ◌+◌, true, false, List, ◌∷◌, refl, sym, ap, subst, ◌∙◌, ⊎_elim, inl, inr, arith}
use Rattle.std.proofs.lemmas.Bool.{cases_lt, false≢true}
use Rattle.vq_ground.proofs.Lists.{only_one}
use Rattle.vq_model.specs.Plan.{Plan, signals_of}
use Rattle.vq_ground.specs.Lists.{has}
use Rattle.vq_board_laws.specs.declared.view.View.{View}
use Rattle.vq_board_laws.specs.declared.view.Fact.TheVariants.{Taken}
use Rattle.vq_board_laws.specs.Knowledge.{Knows}
use Rattle.vq_board_laws.specs.declared.view.JobState.TheVariants.{Submitted}
use Rattle.vq_board_laws.specs.May.{MaySubmit, MayRelease}
use Rattle.vq_board_laws.proofs.Cited.{knows_so_far}
use Rattle.vq_board_laws.specs.PointSteps.{sees}
use Rattle.vq_board_laws.specs.Steps.{submits, releases}
use Rattle.vq_board_laws.specs.Words.{Carries}
use Rattle.vq_board_bench.specs.Rows.{IsRow, IsHost, is_submitted}
use Rattle.vq_board_bench.proofs.Below.{has_below, not_below}
use Rattle.vq_board_bench.proofs.Facts.{known_next, sees_more, sees_taken}

module _ (p : Plan) (n c s : ℕ) (row : IsRow p n c s) (j : ℕ) where
  pub may_submit : (v : View) → j < n → IsHost v j 0 0 → MaySubmit p v j
  may_submit v exists h =
      record {
        host = h.role;
        batch = (row.linked j exists).batch;
        new = subst (λ (xs : List ℕ). has xs j ≡ false) (sym h.submitted) (not_below j j (omega arith));
        next = λ i l b. subst (λ (xs : List ℕ). has xs i ≡ true) (sym h.submitted) (has_below j i l);
        before = λ i l step. absurd (false≢true (sym (row.linked i (omega arith)).step ∙ step));
      }

  pub after_submit : (v w : View) → IsHost v j 0 0 → w ≡ submits v j → IsHost w (suc j) 0 0
  after_submit v w h is =
      subst (λ (x : View). IsHost x (suc j) 0 0) (sym is)
      record {
        role = h.role;
        submitted = ap (λ (xs : List ℕ). j ∷ xs) h.submitted;
        released = h.released;
        knows = known_next (submits v j).known is_submitted j (λ i l. inr (h.knows i l)) (inl refl);
        taken = λ i l. absurd (omega arith);
      }

  pub after_find : (v w : View) (m : ℕ) → Carries m j → IsHost v n j 0 → w ≡ sees v j m → IsHost w n (j + 1) 0
  after_find v w m carries h is =
      let next : suc j ≡ j + 1 = omega arith in
      subst (λ (k : ℕ). IsHost w n k 0) next (subst (λ (x : View). IsHost x n (suc j) 0) (sym is)
      record {
        role = h.role;
        submitted = h.submitted;
        released = h.released;
        knows = sees_more v j m is_submitted n h.knows;
        taken = known_next (sees v j m).known Taken j (sees_more v j m Taken j h.taken) (sees_taken v j m j carries);
      })

  -- a signal of the batch is that of its own number
  own_signal : j < n → (e : ℕ) → has (signals_of p j) e ≡ true → (j < s) × (j ≡ e)
  own_signal exists e m =
      let signals = (row.linked j exists).signals in
      ⊎_elim
      (λ (less : j < s). (less, only_one j e (subst (λ (xs : List ℕ). has xs e ≡ true) (signals.one less) m)))
      (λ more. absurd (false≢true (ap (λ (xs : List ℕ). has xs e) (sym (signals.none more)) ∙ m)))
      (cases_lt j s)

  pub may_release : (v : View) → j < n → IsHost v n s j → MayRelease p v j
  may_release v exists h =
      let link = row.linked j exists in
      record {
        submitter = link.submitter ∙ sym h.role;
        batch = link.batch;
        new = subst (λ (xs : List ℕ). has xs j ≡ false) (sym h.released) (not_below j j (omega arith));
        next = λ i l same. subst (λ (xs : List ℕ). has xs i ≡ true) (sym h.released) (has_below j i l);
        submitted = knows_so_far v.known j Submitted (h.knows j exists);
        bound = λ need place e get above resolves. let none = link.needs in absurd cc;
        taken = λ e m. let own = own_signal exists e m in inl (subst (λ (k : ℕ). Knows v.known (Taken k)) own.1 (h.taken j own.0));
      }

  pub after_release : (v w : View) → IsHost v n s j → w ≡ releases v j → IsHost w n s (suc j)
  after_release v w h is =
      subst (λ (x : View). IsHost x n s (suc j)) (sym is)
      record {
        role = h.role;
        submitted = h.submitted;
        released = ap (λ (xs : List ℕ). j ∷ xs) h.released;
        knows = λ i l. inr (h.knows i l);
        taken = λ i l. inr (h.taken i l);
      }
