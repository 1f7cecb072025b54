-- Places of started jobs: host steps, jobs without signals, and plans without held waits.
use Rattle.std.proofs.Common.{◌≡◌, ℕ, true, List, sym, false, [], Some, ap, ◌∙◌, Bool, ◌≤◌, Option, ◌⊎◌, inl, inr, subst, arith, ◌∷◌, fold}
use Rattle.vq_model.specs.Plan.{Plan, is_host_step, signals_of, job_of, value}
use Rattle.vq_ground.specs.Lists.{has}
use Rattle.vq_model.specs.Edges.{At, AtEnd, must_finish}
use Rattle.vq_model.specs.EdgeReasons.{HasNoHeldWait}
use Rattle.vq_model.specs.WellFormed.{IsWellFormed}
use Rattle.vq_model.specs.Machine.{Step, Run, state_after, are_reached, State, StartStep, ApplyStep, SignalStep, FinishStep, AnswerStep, put, after_step, with_signal, CanStep, RunFrom, opening_state}
use Rattle.vq_model.specs.Sure.{IsSure}
use Rattle.vq_model.specs.SureOrder.{KeepsChains}
use Rattle.vq_run_laws.proofs.KeptRuns.{run_keeps}
use Rattle.vq_run_laws.proofs.StateFacts.{by_start, HasCome, by_signal, by_finish}
use Rattle.vq_plan_laws.proofs.Cited.{same_sure, needs_alike, same_reached}
use Rattle.std.proofs.lemmas.Bool.{false≢true, and_parts, cases_eq}
use Rattle.vq_model.specs.HappensBefore.{HappensBefore}
use Rattle.std.specs.List.{list_all}
use Rattle.vq_model.proofs.Puts.{put_here, put_there, put_cases}
use Rattle.vq_order_laws.proofs.Cited.{are_reached_still}

-- Host steps

-- what is sure for a started host step is made
pub host_sure : (p : Plan) → IsWellFormed p → KeepsChains p → (steps : List Step) → Run p steps → (e j : ℕ) → is_host_step p j ≡ true → (state_after p steps).progress.started j ≡ true → IsSure p e j → (state_after p steps).progress.made e ≡ true
host_sure p w ch steps run e j host s q =
    (run_keeps p w ch steps run).sure e j (At 1) (by_start s) (same_sure p e j AtEnd (At 1) (sym (needs_alike p j 0 (w.host_waits j host))) q)

-- While a job without signals runs, no operation of a job after it is made.
pub none_after : (p : Plan) → IsWellFormed p → KeepsChains p → (steps : List Step) → Run p steps → (e i j : ℕ) → signals_of p i ≡ [] → (state_after p steps).progress.finished i ≡ false → HappensBefore p i j → job_of p e ≡ Some j → (state_after p steps).progress.made e ≡ true → ⊥
none_after p w ch steps run e i j none running b o m = at_end ((run_keeps p w ch steps run).before i j AtEnd (by_signal e o m) b)
  where
    at_end : HasCome p (state_after p steps).progress.started (state_after p steps).progress.finished (state_after p steps).progress.made (state_after p steps).progress.applied i AtEnd → ⊥
    at_end (by_signal f q h) = false≢true (ap (λ zs. has zs f) (sym none) ∙ w.in_job f i q)
    at_end (by_finish h) = false≢true (sym running ∙ h)

-- each started job has all its needs reached
abbrev Reached : Plan → (ℕ → ℕ) → (ℕ → Bool) → Type 0
Reached p payload started = (j : ℕ) → started j ≡ true → are_reached p payload j AtEnd ≡ true

reached_step : (p : Plan) → HasNoHeldWait p → (s : State) (x : Step) → Reached p s.progress.payload s.progress.started → CanStep p s x → Reached p (after_step p s x).progress.payload (after_step p s x).progress.started
reached_step p n s (StartStep j) r c = λ i h.
    elim (put_cases s.progress.started j i h) [
      | inl e ↦
          let ready = (and_parts (list_all s.progress.finished (must_finish p j)) (are_reached p s.progress.payload j (At 1)) c.ready).1 in
          subst (λ z. are_reached p s.progress.payload z AtEnd ≡ true) (sym e) (sym (same_reached p j (At 1) AtEnd (needs_alike p j 0 (n j)) s.progress.payload) ∙ ready)
      | inr o ↦ r i o
    ]
reached_step p n s (ApplyStep c) r g = r
reached_step p n s (SignalStep e) r g =
    let P : Option ℕ → Type 0 = λ o. Reached p (with_signal p s.progress e o).payload (with_signal p s.progress e o).started in
    subst P (sym g.in_chain) (λ i h. are_reached_still p s.progress.payload (put s.progress.payload g.chain (value p e)) (λ t. rises t (cases_eq t g.chain)) i AtEnd (r i h))
  where
    rises : (t : ℕ) → ((t ≡ g.chain) ⊎ (t ≡ g.chain → ⊥)) → s.progress.payload t ≤ put s.progress.payload g.chain (value p e) t
    rises t (inl q) =
        let a = ap s.progress.payload q in
        let b = ap (put s.progress.payload g.chain (value p e)) q ∙ put_here s.progress.payload g.chain (value p e) in
        let l = g.rises in
        omega arith
    rises t (inr q) = let b = put_there s.progress.payload g.chain (value p e) t q in omega arith
reached_step p n s (FinishStep j) r g = r
reached_step p n s (AnswerStep j a) r g = r

reached_run : (p : Plan) → HasNoHeldWait p → (s : State) (xs : List Step) → Reached p s.progress.payload s.progress.started → RunFrom p s xs → Reached p (fold (after_step p) s xs).progress.payload (fold (after_step p) s xs).progress.started
reached_run p n s [] r g = r
reached_run p n s (x ∷ xs) r g = reached_run p n (after_step p s x) xs (reached_step p n s x r g.0) g.1

-- so a started job's commands, signals and finish wait for nothing more
pub started_reached : (p : Plan) → HasNoHeldWait p → (steps : List Step) → Run p steps → (j : ℕ) → (state_after p steps).progress.started j ≡ true → are_reached p (state_after p steps).progress.payload j AtEnd ≡ true
started_reached p n steps run j h = reached_run p n (opening_state p) steps (λ i o. absurd (false≢true o)) run j h
