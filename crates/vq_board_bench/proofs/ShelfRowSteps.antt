-- What the shelf's pass may do next in a row, and how far it is then.
use Rattle.std.proofs.Common.{ℕ, suc, ◌≡◌, ◌<◌, ◌≤◌, true, false, List, ◌∷◌, Some, length, refl, sym, ap, subst, ◌∙◌, inl, inr, arith}
use Rattle.std.proofs.lemmas.Bool.{false≢true}
use Rattle.vq_board_laws.proofs.Cited.{kept_listed}
use Rattle.vq_model.specs.Plan.{Plan, job_of, is_host_step}
use Rattle.vq_ground.specs.Lists.{has}
use Rattle.vq_board_laws.specs.declared.view.View.{View}
use Rattle.vq_board_laws.specs.declared.view.Fact.TheVariants.{Job}
use Rattle.vq_board_laws.specs.declared.view.JobState.{JobState}
use Rattle.vq_board_laws.specs.declared.view.JobState.TheVariants.{Released, Finished}
use Rattle.vq_board_laws.specs.declared.view.Reference.{Reference}
use Rattle.vq_board_laws.specs.Knowledge.{Knows, of_finished}
use Rattle.vq_board_laws.specs.MayPoints.{IsSmaller, MayMake, MayAssign, MayBind, MayComplete, MayRetire}
use Rattle.vq_board_laws.specs.Points.{reference, Lists}
use Rattle.vq_board_laws.specs.PointSteps.{makes, assigns, binds, completes, retires, sees}
use Rattle.vq_board_laws.specs.Roles.{share_of}
use Rattle.vq_board_laws.specs.Steps.{looks}
use Rattle.vq_board_bench.specs.Rows.{IsRow, IsShelf, IsEnding, is_released, is_finished}
use Rattle.vq_board_bench.proofs.Below.{has_below, not_below, length_below, pairs_list, point_beyond, op_beyond}
use Rattle.vq_board_bench.proofs.Facts.{known_next, sees_more}

module _ (p : Plan) (n c s : ℕ) (row : IsRow p n c s) (j : ℕ) where
  few : j < s → j < n
  few l = let h = row.few in omega arith

  pub may_make : (v : View) → j < s → IsShelf p v j 0 0 0 → MayMake p v
  may_make v exists h =
      let share = subst (λ (r : ℕ). s ≤ share_of p r) (sym h.role) row.share in
      let owned = ap (λ (xs : List ℕ). length xs) h.owned ∙ length_below j in
      omega arith

  pub after_make : (v w : View) (q : ℕ) → q ≡ j → IsShelf p v j 0 0 0 → w ≡ makes v q → IsShelf p w (suc j) 0 0 0
  after_make v w q same h is =
      subst (λ (x : View). IsShelf p x (suc j) 0 0 0) (sym (is ∙ ap (makes v) same))
      record {
        role = h.role;
        owned = ap (λ (xs : List ℕ). j ∷ xs) h.owned;
        carrying = h.carrying;
        knows = h.knows;
        bound = h.bound;
        past = h.past;
      }

  pub may_assign : (v : View) → j < s → IsShelf p v s j 0 0 → MayAssign p v j j
  may_assign v exists h =
      record {
        owned = subst (λ (xs : List ℕ). has xs j ≡ true) (sym h.owned) (has_below s j exists);
        shelf = record { chain = 0; in_chain = (row.linked j (few exists)).chain exists; shelf = sym h.role };
        free = λ f l. point_beyond j j f (omega arith) (subst (λ (rs : List Reference). Lists rs (reference j f)) h.carrying l);
        pointless = λ r l. op_beyond j r j (omega arith) (subst (λ (rs : List Reference). Lists rs (reference r j)) h.carrying l);
        unbound = subst (λ (xs : List ℕ). has xs j ≡ false) (sym h.bound) refl;
      }

  pub after_assign : (v w : View) → IsShelf p v s j 0 0 → w ≡ assigns v j j → IsShelf p w s (suc j) 0 0
  after_assign v w h is =
      subst (λ (x : View). IsShelf p x s (suc j) 0 0) (sym is)
      record {
        role = h.role;
        owned = h.owned;
        carrying = ap (λ (rs : List Reference). reference j j ∷ rs) h.carrying;
        knows = λ i l. absurd (omega arith);
        bound = h.bound;
        past = h.past;
      }

  pub after_know : (v w : View) (t : JobState) → t ≡ Released → IsShelf p v s s j 0 → w ≡ looks v j t → IsShelf p w s s (suc j) 0
  after_know v w t state h is =
      subst (λ (x : View). IsShelf p x s s (suc j) 0) (sym (is ∙ ap (looks v j) state))
      record {
        role = h.role;
        owned = h.owned;
        carrying = h.carrying;
        knows = known_next (looks v j Released).known is_released j (λ i l. inr (h.knows i l)) (inl refl);
        bound = h.bound;
        past = h.past;
      }

  -- the job of the operation is that of its number
  is_job : j < s → (i : ℕ) → job_of p j ≡ Some i → j ≡ i
  is_job exists i e = let own = (row.linked j (few exists)).job exists in cc

  smaller_below : (f : ℕ) → IsSmaller p f j → f < j
  smaller_below f less =
      let a = row.rising less.of_chain less.first f less.smaller in
      let b = row.rising less.of_chain less.second j less.greater in
      let order = less.order in
      omega arith

  pub may_bind : (v : View) → j < s → IsShelf p v s s s j → MayBind p v j j
  may_bind v exists h =
      record {
        carries = subst (λ (rs : List Reference). Lists rs (reference j j)) (sym h.carrying) (pairs_list s j exists);
        unbound = subst (λ (xs : List ℕ). has xs j ≡ false) (sym h.bound) (not_below j j (omega arith));
        smaller = λ f less. subst (λ (xs : List ℕ). has xs f ≡ true) (sym h.bound) (has_below j f (smaller_below f less));
        released = λ i e step. (Released, omega arith, subst (λ (k : ℕ). Knows v.known (Job k Released)) (is_job exists i e) (h.knows j exists));
        started = λ i e step. absurd (false≢true (sym (row.linked j (few exists)).step ∙ (ap (is_host_step p) (is_job exists i e) ∙ step)));
      }

  pub after_bind : (v w : View) → IsShelf p v s s s j → w ≡ binds v j j → IsShelf p w s s s (suc j)
  after_bind v w h is =
      subst (λ (x : View). IsShelf p x s s s (suc j)) (sym is)
      record {
        role = h.role;
        owned = h.owned;
        carrying = h.carrying;
        knows = λ i l. inr (inr (h.knows i l));
        bound = ap (λ (xs : List ℕ). j ∷ xs) h.bound;
        past = h.past;
      }

  -- all operations are bound
  pub is_ending : (v : View) → IsShelf p v s s s s → IsEnding p v s 0 0 0
  is_ending v h =
      record {
        role = h.role;
        carrying = λ i least l. subst (λ (rs : List Reference). Lists rs (reference i i)) (sym h.carrying) (pairs_list s i l);
        bound = h.bound;
        knows = λ i l. absurd (omega arith);
        past = h.past;
      }

  pub after_see : (v w : View) (t : JobState) → t ≡ Finished → IsEnding p v s j 0 0 → w ≡ looks v j t → IsEnding p w s (suc j) 0 0
  after_see v w t state h is =
      subst (λ (x : View). IsEnding p x s (suc j) 0 0) (sym (is ∙ ap (looks v j) state))
      record {
        role = h.role;
        carrying = h.carrying;
        bound = h.bound;
        knows = known_next (looks v j Finished).known is_finished j (λ i l. inr (h.knows i l)) (inl refl);
        past = h.past;
      }

  pub may_complete : (v : View) → j < s → IsEnding p v s s j 0 → MayComplete p v j
  may_complete v exists h =
      record {
        shelf = record { chain = 0; in_chain = (row.linked j (few exists)).chain exists; shelf = sym h.role };
        bound = subst (λ (xs : List ℕ). has xs j ≡ true) (sym h.bound) (has_below s j exists);
        pending = subst (λ (xs : List ℕ). has xs j ≡ false) (sym h.past) (not_below j j (omega arith));
        least = λ f less. subst (λ (xs : List ℕ). has xs f ≡ true) (sym h.past) (has_below j f (smaller_below f less));
        signaled = of_finished (h.knows j exists) ((row.linked j (few exists)).job exists);
      }

  pub after_complete : (v w : View) → IsEnding p v s s j 0 → w ≡ completes v j → IsEnding p w s s (suc j) 0
  after_complete v w h is =
      subst (λ (x : View). IsEnding p x s s (suc j) 0) (sym is)
      record {
        role = h.role;
        carrying = h.carrying;
        bound = h.bound;
        knows = λ i l. inr (h.knows i l);
        past = ap (λ (xs : List ℕ). j ∷ xs) h.past;
      }

  pub may_retire : (v : View) → j < s → IsEnding p v s s s j → MayRetire p v j j
  may_retire v exists h =
      record {
        carries = h.carrying j (omega arith) exists;
        past = subst (λ (xs : List ℕ). has xs j ≡ true) (sym h.past) (has_below s j exists);
      }

  pub after_retire : (v w : View) (m k : ℕ) → IsEnding p v s s s j → w ≡ retires (sees v j m) j k → IsEnding p w s s s (suc j)
  after_retire v w m k h is =
      subst (λ (x : View). IsEnding p x s s s (suc j)) (sym is)
      record {
        role = h.role;
        carrying = λ i least l. kept_listed j (reference i i) v.carrying (λ e. omega arith) (h.carrying i (omega arith) l);
        bound = h.bound;
        knows = sees_more v j m is_finished s h.knows;
        past = h.past;
      }
