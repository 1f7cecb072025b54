-- The slow run is a run: the jobs of its order, each whole.
use Rattle.std.proofs.Common.{◌≡◌, ℕ, Bool, true, false, not, List, [], ◌∷◌, ◌++◌, Some, ap, ◌∙◌, ◌≤◌, max, map, filter, refl, sym, subst, fold, ◌⊎◌, ◌<◌, ◌&&◌, length, inl, inr, arith, append-nil}
use Rattle.std.proofs.lemmas.Bool.{cond-true, cond-false, and_parts, and_from, false≢true, cases_eq, cases_lt, not-true}
use Rattle.vq_model.specs.Plan.{Plan, value, commands_of, signals_of, chain, initial, job_of, chain_of}
use Rattle.vq_ground.specs.Lists.{has, AreRising}
use Rattle.vq_model.specs.Machine.{next, Progress, Step, after_progress, AreFinished, are_reached, can_start, StartStep, ApplyStep, SignalStep, FinishStep, put, with_signal, CanSignal, IsDone, opening_progress}
use Rattle.vq_model.specs.ProgressRuns.{ProgressFrom, CanProgress, ProgressRun, progress_after}
use Rattle.vq_ground.proofs.Lists.{has_here, has_there, has-append_left, has-append_right, list_all_has, list_all_from, split_at, pushed}
use Rattle.std.proofs.Math.Nat.{max-le}
use Rattle.vq_model.specs.SlowRun.{greatest, is_of, is_ready, payload_after, slow_order}
use Rattle.vq_model.specs.ProgressRuns.{steps_of_jobs}
use Rattle.vq_run_laws.proofs.StateFacts.{Invariant}
use Rattle.vq_run_laws.proofs.Payloads.{Raised, raised_progress, made_where_reached, above_initial}
use Rattle.vq_model.specs.Edges.{AtEnd, At, must_finish}
use Rattle.std.specs.List.{list_all}
use Rattle.std.proofs.lemmas.List.{append_assoc}
use Rattle.vq_model.specs.WellFormed.{IsWellFormed}
use Rattle.vq_model.specs.SureOrder.{KeepsChains, RisesFrom}
use Rattle.vq_run_laws.proofs.KeptRuns.{keep_progress, holds_at_opening}
use Rattle.vq_model.proofs.Puts.{put_here, put_there, put_cases, put_keeps}
use Rattle.vq_plan_laws.proofs.Cited.{reached_earlier}
use Rattle.vq_order_laws.proofs.Cited.{are_reached_still, op_chain, ReadyEach, is_of_job, slow_has, slow_adds}
use Rattle.vq_model.specs.SureOrder.{HasSureOrder}

-- the first that isn't done
pub next_at : (done : ℕ → Bool) (front : List ℕ) (c : ℕ) (back : List ℕ) → ((x : ℕ) → has front x ≡ true → done x ≡ true) → done c ≡ false → next done (front ++ c ∷ back) ≡ Some c
next_at done [] c back f n = cond-true (not (done c)) (Some c) (next done back) (ap not n)
next_at done (x ∷ front) c back f n =
    cond-false (not (done x)) (Some x) (next done (front ++ c ∷ back)) (ap not (f x (has_here x front))) ∙ next_at done front c back (λ y h. f y (has_there x front y h)) n

max_below : (a b m : ℕ) → a ≤ m → b ≤ m → max a b ≤ m
max_below a b m h k = max-le h k

greatest_below : (p : Plan) (done : List ℕ) (n m : ℕ) (es : List ℕ) → n ≤ m → ((e : ℕ) → has es e ≡ true → is_of p done e ≡ true → value p e ≤ m) → greatest n (map (value p) (filter (is_of p done) es)) ≤ m
greatest_below p done n m [] l f = l
greatest_below p done n m (e ∷ es) l f = by_test (is_of p done e) refl (λ k h. greatest_below p done k m es h (λ x i. f x (has_there e es x i)))
  where
    by_test : (b : Bool) → is_of p done e ≡ b → ((k : ℕ) → k ≤ m → greatest k (map (value p) (filter (is_of p done) es)) ≤ m) → greatest n (map (value p) (filter (is_of p done) (e ∷ es))) ≤ m
    by_test true q r =
        let a = ap (λ zs. greatest n (map (value p) zs)) (cond-true (is_of p done e) (e ∷ filter (is_of p done) es) (filter (is_of p done) es) q) in
        subst (λ z. z ≤ m) (sym a) (r (max n (value p e)) (max_below n (value p e) m l (f e (has_here e es) q)))
    by_test false q r =
        let a = ap (λ zs. greatest n (map (value p) zs)) (cond-false (is_of p done e) (e ∷ filter (is_of p done) es) (filter (is_of p done) es) q) in
        subst (λ z. z ≤ m) (sym a) (r n l)

-- steps that may come from here on, after which all jobs are finished
abbrev pub Result : Plan → Progress → List Step → Type 0
Result p s steps = ProgressFrom p s steps × AreFinished p (fold (after_progress p) s steps)

-- these jobs are done, and nothing else has happened
pub record Slow (p : Plan) (done : List ℕ) (s : Progress) : Type 0 where
  pub facts : Invariant p s
  pub raised : Raised p s.payload s.made
  pub finished_done : (i : ℕ) → has done i ≡ true → s.finished i ≡ true
  pub started_done : (i : ℕ) → s.started i ≡ true → has done i ≡ true

-- a job runs that had all its needs reached
record Runs (p : Plan) (done : List ℕ) (j : ℕ) (s : Progress) : Type 0 where
  pub facts : Invariant p s
  raised : Raised p s.payload s.made
  finished_done : (i : ℕ) → has done i ≡ true → s.finished i ≡ true
  started_done : (i : ℕ) → s.started i ≡ true → (has done i ≡ true) ⊎ (i ≡ j)
  started_now : s.started j ≡ true
  unfinished : s.finished j ≡ false
  reached : are_reached p s.payload j AtEnd ≡ true

module _ (p : Plan) (w : IsWellFormed p) (ch : KeepsChains p) where
  -- payloads have reached what the done jobs signal
  pub numbers : (done : List ℕ) (s : Progress) → Slow p done s → (t : ℕ) → payload_after p done t ≤ s.payload t
  numbers done s k t = greatest_below p done (initial p t) (s.payload t) (chain p t) first each
    where
      first : initial p t ≤ s.payload t
      first = elim (k.facts.raised t) [
        | inl e ↦ (let l : initial p t ≤ s.payload t = omega arith in l)
        | inr o ↦ (let f = split_at (chain p t) o.op o.in_chain in let a = above_initial p (initial p t) f.front f.back o.op (subst (RisesFrom p (initial p t)) f.whole (ch t)) in let v = o.sets in omega arith)
      ]

      each : (e : ℕ) → has (chain p t) e ≡ true → is_of p done e ≡ true → value p e ≤ s.payload t
      each e m i =
          let o = is_of_job p done e i in
          k.raised e t (w.of_chain e t m) (k.facts.finished_signals o.0 e (k.finished_done o.0 o.2) (w.in_job e o.0 o.1))

  module _ (done : List ℕ) (j : ℕ) where
    finish_step : (s : Progress) (steps : List Step) → Runs p done j s → ((c : ℕ) → has (commands_of p j) c ≡ true → has s.applied c ≡ true) → ((e : ℕ) → has (signals_of p j) e ≡ true → s.made e ≡ true) → ((t : Progress) → Slow p (done ++ j ∷ []) t → Result p t steps) → Result p s (FinishStep j ∷ steps)
    finish_step s steps k all made rest = ((g, r.0), r.1)
      where
        g : IsDone p s j
        g = record { started = k.started_now; unfinished = k.unfinished; commands = list_all_from (has s.applied) (commands_of p j) all; signals = list_all_from s.made (signals_of p j) made; ready = k.reached }

        after : Slow p (done ++ j ∷ []) (after_progress p s (FinishStep j))
        after =
            record {
              facts = keep_progress p w ch s (FinishStep j) k.facts g;
              raised = k.raised;
              finished_done = λ i h. elim (pushed done j i h) [ inl m ↦ put_keeps s.finished j i (k.finished_done i m) | inr e ↦ subst (λ z. put s.finished j true z ≡ true) e (put_here s.finished j true) ];
              started_done = λ i h. elim (k.started_done i h) [ inl m ↦ has-append_left done (j ∷ []) i m | inr e ↦ subst (λ z. has (done ++ j ∷ []) z ≡ true) (sym e) (has-append_right done (j ∷ []) j (has_here j [])) ];
            }

        r : Result p (after_progress p s (FinishStep j)) steps
        r = rest (after_progress p s (FinishStep j)) after

    signal_steps : (back front : List ℕ) (s : Progress) (steps : List Step) → signals_of p j ≡ front ++ back → AreRising back → Runs p done j s → ((c : ℕ) → has (commands_of p j) c ≡ true → has s.applied c ≡ true) → ((e : ℕ) → has front e ≡ true → s.made e ≡ true) → ((e : ℕ) → has back e ≡ true → s.made e ≡ false) → ((t : Progress) → Slow p (done ++ j ∷ []) t → Result p t steps) → Result p s (map SignalStep back ++ (FinishStep j ∷ steps))
    signal_steps [] front s steps whole rise k all made unmade rest = finish_step s steps k all (λ e h. made e (sym (ap (λ zs. has zs e) (whole ∙ append-nil front)) ∙ h)) rest
    signal_steps (e ∷ back) front s steps whole rise k all made unmade rest =
        from_next (λ t m a b c. signal_steps back (front ++ e ∷ []) t steps (whole ∙ sym (append_assoc front (e ∷ []) back)) rise.1 m a b c rest)
      where
        member : has (signals_of p j) e ≡ true
        member = ap (λ zs. has zs e) whole ∙ has-append_right front (e ∷ back) e (has_here e back)

        of_job : job_of p e ≡ Some j
        of_job = w.of_job e j member

        on : (t : ℕ) × (chain_of p e ≡ Some t)
        on = op_chain p e j of_job

        g : CanSignal p s e
        g =
            record {
              job = j;
              chain = on.0;
              in_chain = on.1;
              started = k.started_now;
              unfinished = k.unfinished;
              commands = list_all_from (has s.applied) (commands_of p j) all;
              next = ap (next s.made) whole ∙ next_at s.made front e back made (unmade e (has_here e back));
              ready = k.reached;
              rises = elim (cases_lt (s.payload on.0) (value p e)) [
                | inl l ↦ l
                | inr l ↦ absurd (false≢true (sym (unmade e (has_here e back)) ∙ made_where_reached p w ch s k.facts e on.0 on.1 l))
              ];
            }

        rises_at : (t : ℕ) → s.payload t ≤ put s.payload on.0 (value p e) t
        rises_at t = elim (cases_eq t on.0) [
          | inl q ↦ (let a = ap s.payload q in let b = ap (put s.payload on.0 (value p e)) q ∙ put_here s.payload on.0 (value p e) in let l = g.rises in omega arith)
          | inr q ↦ (let b = put_there s.payload on.0 (value p e) t q in omega arith)
        ]

        after : Runs p done j (with_signal p s e (Some on.0))
        after =
            record {
              facts = subst (λ o. Invariant p (with_signal p s e o)) on.1 (keep_progress p w ch s (SignalStep e) k.facts g);
              raised = subst (λ o. Raised p (with_signal p s e o).payload (with_signal p s e o).made) on.1 (raised_progress p s (SignalStep e) k.raised g);
              finished_done = k.finished_done;
              started_done = k.started_done;
              started_now = k.started_now;
              unfinished = k.unfinished;
              reached = are_reached_still p s.payload (put s.payload on.0 (value p e)) rises_at j AtEnd k.reached;
            }

        from_next : ((t : Progress) → Runs p done j t → ((c : ℕ) → has (commands_of p j) c ≡ true → has t.applied c ≡ true) → ((f : ℕ) → has (front ++ e ∷ []) f ≡ true → t.made f ≡ true) → ((f : ℕ) → has back f ≡ true → t.made f ≡ false) → Result p t (map SignalStep back ++ (FinishStep j ∷ steps))) → Result p s (SignalStep e ∷ (map SignalStep back ++ (FinishStep j ∷ steps)))
        from_next f =
            let r = f (with_signal p s e (Some on.0)) after all
            (λ x h. elim (pushed front e x h) [ inl m ↦ put_keeps s.made e x (made x m) | inr q ↦ subst (λ z. put s.made e true z ≡ true) q (put_here s.made e true) ])
            (λ x h. put_there s.made e true x (λ q. (let l = rise.0 x h in absurd (omega arith))) ∙ unmade x (has_there e back x h)) in
            let r' = subst (λ o. Result p (with_signal p s e o) (map SignalStep back ++ (FinishStep j ∷ steps))) (sym on.1) r in
            ((g, r'.0), r'.1)

    apply_steps : (back front : List ℕ) (s : Progress) (steps : List Step) → commands_of p j ≡ front ++ back → AreRising back → Runs p done j s → ((c : ℕ) → has front c ≡ true → has s.applied c ≡ true) → ((c : ℕ) → has back c ≡ true → has s.applied c ≡ false) → ((e : ℕ) → has (signals_of p j) e ≡ true → s.made e ≡ false) → ((t : Progress) → Slow p (done ++ j ∷ []) t → Result p t steps) → Result p s (map ApplyStep back ++ (map SignalStep (signals_of p j) ++ (FinishStep j ∷ steps)))
    apply_steps [] front s steps whole rise k applied unapplied unmade rest =
        signal_steps (signals_of p j) [] s steps refl (w.signals j) k (λ c h. applied c (sym (ap (λ zs. has zs c) (whole ∙ append-nil front)) ∙ h)) (λ e h. absurd (false≢true h)) unmade rest
    apply_steps (c ∷ back) front s steps whole rise k applied unapplied unmade rest =
        from_next (λ t m a b u. apply_steps back (front ++ c ∷ []) t steps (whole ∙ sym (append_assoc front (c ∷ []) back)) rise.1 m a b u rest)
      where
        g : CanProgress p s (ApplyStep c)
        g = (
          j,
          record {
            started = k.started_now;
            unfinished = k.unfinished;
            next = ap (next (has s.applied)) whole ∙ next_at (has s.applied) front c back applied (unapplied c (has_here c back));
            ready = reached_earlier p w s.payload j _ k.reached;
          },
        )

        after : Runs p done j (after_progress p s (ApplyStep c))
        after =
            record {
              facts = keep_progress p w ch s (ApplyStep c) k.facts g;
              raised = k.raised;
              finished_done = k.finished_done;
              started_done = k.started_done;
              started_now = k.started_now;
              unfinished = k.unfinished;
              reached = k.reached;
            }

        still_not : (x : ℕ) → has back x ≡ true → has (s.applied ++ c ∷ []) x ≡ false
        still_not x h = by_bool (has (s.applied ++ c ∷ []) x) refl
          where
            by_bool : (b : Bool) → has (s.applied ++ c ∷ []) x ≡ b → has (s.applied ++ c ∷ []) x ≡ false
            by_bool false e = e
            by_bool true e = absurd (elim (pushed s.applied c x e) [
              | inl m ↦ false≢true (sym (unapplied x (has_there c back x h)) ∙ m)
              | inr q ↦ (let l = rise.0 x h in absurd (omega arith))
            ])

        from_next : ((t : Progress) → Runs p done j t → ((x : ℕ) → has (front ++ c ∷ []) x ≡ true → has t.applied x ≡ true) → ((x : ℕ) → has back x ≡ true → has t.applied x ≡ false) → ((e : ℕ) → has (signals_of p j) e ≡ true → t.made e ≡ false) → Result p t (map ApplyStep back ++ (map SignalStep (signals_of p j) ++ (FinishStep j ∷ steps)))) → Result p s (ApplyStep c ∷ (map ApplyStep back ++ (map SignalStep (signals_of p j) ++ (FinishStep j ∷ steps))))
        from_next f =
            let r = f (after_progress p s (ApplyStep c)) after
            (λ x h. elim (pushed front c x h) [ inl m ↦ has-append_left s.applied (c ∷ []) x (applied x m) | inr q ↦ subst (λ z. has (s.applied ++ c ∷ []) z ≡ true) q (has-append_right s.applied (c ∷ []) c (has_here c [])) ])
            still_not unmade in
            ((g, r.0), r.1)

    start_step : (s : Progress) (steps : List Step) → is_ready p done j ≡ true → j < length p.jobs → Slow p done s → ((t : Progress) → Slow p (done ++ j ∷ []) t → Result p t steps) → Result p s (StartStep j ∷ (map ApplyStep (commands_of p j) ++ (map SignalStep (signals_of p j) ++ (FinishStep j ∷ steps))))
    start_step s steps ready l k rest = ((g, r.0), r.1)
      where
        both : ((not (has done j) && can_start p (has done) (payload_after p done) j) ≡ true) × (are_reached p (payload_after p done) j AtEnd ≡ true)
        both = and_parts (not (has done j) && can_start p (has done) (payload_after p done) j) (are_reached p (payload_after p done) j AtEnd) ready

        front : (not (has done j) ≡ true) × (can_start p (has done) (payload_after p done) j ≡ true)
        front = and_parts (not (has done j)) (can_start p (has done) (payload_after p done) j) both.0

        isnt_done : has done j ≡ false
        isnt_done = not-true (has done j) front.0

        parts : (list_all (has done) (must_finish p j) ≡ true) × (are_reached p (payload_after p done) j (At 1) ≡ true)
        parts = and_parts (list_all (has done) (must_finish p j)) (are_reached p (payload_after p done) j (At 1)) front.1

        unstarted : s.started j ≡ false
        unstarted = by_bool (s.started j) refl
          where
            by_bool : (b : Bool) → s.started j ≡ b → s.started j ≡ false
            by_bool false e = e
            by_bool true e = absurd (false≢true (sym isnt_done ∙ k.started_done j e))

        unfinished : s.finished j ≡ false
        unfinished = by_bool (s.finished j) refl
          where
            by_bool : (b : Bool) → s.finished j ≡ b → s.finished j ≡ false
            by_bool false e = e
            by_bool true e = absurd (false≢true (sym unstarted ∙ k.facts.finished_started j e))

        g : CanProgress p s (StartStep j)
        g =
            record {
              exists = l;
              waiting = unstarted;
              ready = and_from (list_all s.finished (must_finish p j)) (are_reached p s.payload j (At 1)) (list_all_from s.finished (must_finish p j) (λ i m. k.finished_done i (list_all_has (has done) (must_finish p j) i parts.0 m))) (are_reached_still p (payload_after p done) s.payload (numbers done s k) j (At 1) parts.1);
            }

        after : Runs p done j (after_progress p s (StartStep j))
        after =
            record {
              facts = keep_progress p w ch s (StartStep j) k.facts g;
              raised = k.raised;
              finished_done = k.finished_done;
              started_done = λ i h. elim (put_cases s.started j i h) [ inl e ↦ inr e | inr o ↦ inl (k.started_done i o) ];
              started_now = put_here s.started j true;
              unfinished = unfinished;
              reached = are_reached_still p (payload_after p done) s.payload (numbers done s k) j AtEnd both.1;
            }

        unapplied : (c : ℕ) → has (commands_of p j) c ≡ true → has s.applied c ≡ false
        unapplied c m = by_bool (has s.applied c) refl
          where
            by_bool : (b : Bool) → has s.applied c ≡ b → has s.applied c ≡ false
            by_bool false e = e
            by_bool true e =
                let o = k.facts.applied_job c e in
                absurd (false≢true (sym isnt_done ∙ subst (λ z. has done z ≡ true) (w.one_job c o.job j o.in_job m) (k.started_done o.job o.has_started)))

        unmade : (e : ℕ) → has (signals_of p j) e ≡ true → s.made e ≡ false
        unmade e m = by_bool (s.made e) refl
          where
            some_is : (a b : ℕ) → Some a ≡ Some b → a ≡ b
            some_is a b q = cc

            by_bool : (b : Bool) → s.made e ≡ b → s.made e ≡ false
            by_bool false q = q
            by_bool true q =
                let o = k.facts.made_job e q in
                absurd (false≢true (sym isnt_done ∙ subst (λ z. has done z ≡ true) (some_is o.job j (sym o.is ∙ w.of_job e j m)) (k.started_done o.job o.has_started)))

        r : Result p (after_progress p s (StartStep j)) (map ApplyStep (commands_of p j) ++ (map SignalStep (signals_of p j) ++ (FinishStep j ∷ steps)))
        r = apply_steps (commands_of p j) [] (after_progress p s (StartStep j)) steps refl (w.commands j) after (λ c h. absurd (false≢true h)) unapplied unmade rest

  pub walk : (rest done : List ℕ) → ReadyEach p done rest → ((i : ℕ) → i < length p.jobs → has (done ++ rest) i ≡ true) → (s : Progress) → Slow p done s → Result p s (steps_of_jobs p rest)
  walk [] done r all s k = (tt, λ i l. k.finished_done i (ap (λ zs. has zs i) (sym (append-nil done)) ∙ all i l))
  walk (j ∷ js) done r all s k = start_step done j s (steps_of_jobs p js) r.0 r.1 k (λ t m. walk js (done ++ j ∷ []) r.2 (λ i l. ap (λ zs. has zs i) (append_assoc done (j ∷ []) js) ∙ all i l) t m)

-- in a plan with a sure order the slow run is a finished run
pub slow_run_is_a_run : (p : Plan) → IsWellFormed p → HasSureOrder p → ProgressRun p (steps_of_jobs p (slow_order p)) × AreFinished p (progress_after p (steps_of_jobs p (slow_order p)))
slow_run_is_a_run p w o =
    let a = slow_adds p (length p.jobs) [] in
    subst (λ js. ProgressRun p (steps_of_jobs p js) × AreFinished p (progress_after p (steps_of_jobs p js))) (sym a.whole)
    (walk p w o.chains a.rest [] a.each (λ i l. ap (λ zs. has zs i) (sym a.whole) ∙ slow_has p o.reachable i l) (opening_progress p)
    (record { facts = holds_at_opening p; raised = λ e t c m. absurd (false≢true m); finished_done = λ i h. absurd (false≢true h); started_done = λ i h. absurd (false≢true h) }))
