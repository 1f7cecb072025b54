-- One job of a run that goes on: its start, its commands, its signals and its finish.
use Rattle.std.proofs.Common.{ℕ, Bool, true, false, List, [], ◌∷◌, ◌++◌, ◌≡◌, ◌≤◌, ◌<◌, Some, None, Option, eqb, leb, suc, refl, sym, ap, ◌∙◌, inl, inr, subst, arith, length, append-nil}
use Rattle.std.specs.List.{list_all, list_any, position_or_len, slice_get}
use Rattle.std.proofs.lemmas.Bool.{and_from, cases_lt, cond-false, false≢true, le-leb, leb-true, or_left}
use Rattle.std.proofs.lemmas.List.{append_assoc}
use Rattle.vq_ground.specs.Lists.{has}
use Rattle.vq_ground.proofs.Lists.{has_here, has_there, has-append_right, has-append_cases, list_all_from, split_at, only_one}
use Rattle.vq_ground.proofs.Searches.{find_fails, found_in}
use Rattle.vq_model.proofs.Puts.{put_here}
use Rattle.vq_model.specs.declared.plan.Need.{Need}
use Rattle.vq_model.specs.Plan.{Plan, chain, chain_of, commands_of, initial, is_silent, job_of, needs, question, resolver, signals_of, value, waits_for_any}
use Rattle.vq_model.specs.Edges.{At, AtEnd, awaited_at, must_finish}
use Rattle.vq_model.specs.Machine.{Progress, State, with_signal, StartStep, ApplyStep, SignalStep, FinishStep, CanStep, CanSignal, after_step, are_reached, is_reached, next}
use Rattle.vq_model.specs.SureOrder.{HasSureOrder, RisesFrom}
use Rattle.vq_model.specs.WellFormed.{IsWellFormed}
use Rattle.vq_order_laws.proofs.Cited.{are_reached_still, need_awaits, op_chain, ready_reached, signaled_earlier, waiter_exists}
use Rattle.vq_plan_laws.proofs.Cited.{reached_earlier}
use Rattle.vq_run_laws.proofs.Cited.{above_initial, made_where_reached, next_at}
use Rattle.vq_output_laws.proofs.Growing.{Sound, Grows, Brings, apply_grows, brings_here, brings_on, brings_step, finish_grows, signal_grows, sound_step, start_grows}

-- a test that passes at each place of a list passes for all
pub all_places : {A : Type 0} (test : A → Bool) (xs : List A) → ((k : ℕ) (x : A) → slice_get xs k ≡ Some x → test x ≡ true) → list_all test xs ≡ true
all_places test [] f = refl
all_places test (x ∷ xs) f = and_from (test x) (list_all test xs) (f 0 x refl) (all_places test xs (λ k y h. f (suc k) y h))

-- a job that has started and isn't finished, with all that it waits for reached
pub record Runs (p : Plan) (j : ℕ) (s : State) : Type 0 where
  pub started : s.progress.started j ≡ true
  pub unfinished : s.progress.finished j ≡ false
  pub reached : are_reached p s.progress.payload j AtEnd ≡ true

-- all commands of a job are applied
abbrev pub Applied : Plan → ℕ → State → Type 0
Applied p j s = (c : ℕ) → has (commands_of p j) c ≡ true → has s.progress.applied c ≡ true

module _ (p : Plan) (w : IsWellFormed p) (o : HasSureOrder p) where
  -- a payload isn't below its initial value
  pub low : (s : State) → Sound p s → (t : ℕ) → initial p t ≤ s.progress.payload t
  low s k t =
      elim (k.facts.raised t) [
        | inl e ↦ omega arith
        | inr r ↦
            (let f = split_at (chain p t) r.op r.in_chain in
            let a = above_initial p (initial p t) f.front f.back r.op (subst (RisesFrom p (initial p t)) f.whole (o.chains t)) in
            let b = r.sets in
            omega arith)
      ]

  -- a need above the initial value has an operation that resolves it
  pub resolved : (j k : ℕ) (n : Need) → waits_for_any p j ≡ false → slice_get (needs p j) k ≡ Some n → initial p n.chain < n.value → (r : ℕ) × (resolver p n.chain n.value ≡ Some r) × (has (awaited_at p j AtEnd) r ≡ true)
  resolved j k n any at above = by_search (resolver p n.chain n.value) refl
    where
      by_search : (q : Option ℕ) → resolver p n.chain n.value ≡ q → (r : ℕ) × (resolver p n.chain n.value ≡ Some r) × (has (awaited_at p j AtEnd) r ≡ true)
      by_search None e =
          let g = signaled_earlier p n.chain o.reachable j n.value (waiter_exists p w o j k n at) above (ready_reached p w o j k n any at) in
          absurd (false≢true (sym (find_fails (λ x. leb n.value (value p x)) (chain p n.chain) g.0 e g.2) ∙ le-leb n.value (value p g.0) g.3))
      by_search (Some r) e = (r, e, need_awaits p 0 j AtEnd n k r any at refl above e)

  -- what resolves a need stands in its chain, at or above its value
  pub found : (t v r : ℕ) → resolver p t v ≡ Some r → (has (chain p t) r ≡ true) × (v ≤ value p r)
  found t v r e = let f = found_in (λ x. leb v (value p x)) (chain p t) r e in (f.0, leb-true v (value p r) f.1)

  -- a need whose operation is made is reached
  pub reached_made : (s : State) → Sound p s → (n : Need) (r : ℕ) → resolver p n.chain n.value ≡ Some r → s.progress.made r ≡ true → is_reached s.progress.payload n ≡ true
  reached_made s k n r e m =
      let f = found n.chain n.value r e in
      let a = k.raised r n.chain (w.of_chain r n.chain f.0) m in
      let b = f.1 in
      le-leb n.value (s.progress.payload n.chain) (omega arith)

  -- all that a job waits for is reached where all awaited operations are made
  pub all_reached : (j : ℕ) (s : State) → Sound p s → waits_for_any p j ≡ false → ((r : ℕ) → has (awaited_at p j AtEnd) r ≡ true → s.progress.made r ≡ true) → are_reached p s.progress.payload j AtEnd ≡ true
  all_reached j s k any f =
      cond-false (waits_for_any p j) (list_any (is_reached s.progress.payload) (needs p j)) (list_all (is_reached s.progress.payload) (needs p j)) any
      ∙ all_places (is_reached s.progress.payload) (needs p j) (λ i n at. elim (cases_lt (initial p n.chain) n.value) [
        | inl above ↦ (let r = resolved j i n any at above in reached_made s k n r.0 r.1 (f r.0 r.2))
        | inr below ↦ (let l = low s k n.chain in le-leb n.value (s.progress.payload n.chain) (omega arith))
      ])

  module _ (MayRun MayMake : ℕ → Type 0) (j : ℕ) where
    -- Some of a job's signals are made, and it still runs.
    pub record Signaled (es : List ℕ) (s : State) : Type 0 where
      pub runs : Runs p j s
      pub applied : Applied p j s
      pub made : (e : ℕ) → has es e ≡ true → s.progress.made e ≡ true

    -- its start
    pub begin : (s : State) → Sound p s → MayRun j → j < length p.jobs → ((i : ℕ) → has (must_finish p j) i ≡ true → s.progress.finished i ≡ true) → are_reached p s.progress.payload j AtEnd ≡ true → s.progress.finished j ≡ false → Brings p MayRun MayMake s (Runs p j)
    begin s k may l first reached still = by_start (s.progress.started j) refl
      where
        by_start : (b : Bool) → s.progress.started j ≡ b → Brings p MayRun MayMake s (Runs p j)
        by_start true e = brings_here p w o.chains MayRun MayMake s (Runs p j) k (record { started = e; unfinished = still; reached = reached })
        by_start false e =
            let c : CanStep p s (StartStep j) = record {
              exists = l;
              waiting = e;
              ready = and_from (list_all s.progress.finished (must_finish p j)) (are_reached p s.progress.payload j (At 1)) (list_all_from s.progress.finished (must_finish p j) first) (reached_earlier p w s.progress.payload j 0 reached);
            } in
            brings_step p w o.chains MayRun MayMake s (StartStep j) (Runs p j) k c (start_grows MayRun MayMake p s j e may)
            (record { started = put_here s.progress.started j true; unfinished = still; reached = reached })

    -- its commands, in order
    apply_from : (front cs : List ℕ) → commands_of p j ≡ front ++ cs → (s : State) → Sound p s → Runs p j s → ((c : ℕ) → has front c ≡ true → has s.progress.applied c ≡ true) → Brings p MayRun MayMake s (λ u. Runs p j u × Applied p j u)
    apply_from front [] whole s k r done =
        brings_here p w o.chains MayRun MayMake s (λ u. Runs p j u × Applied p j u) k (r, λ c h. done c (subst (λ zs. has zs c ≡ true) (whole ∙ append-nil front) h))
    apply_from front (c ∷ cs) whole s k r done = by_applied (has s.progress.applied c) refl (apply_from (front ++ c ∷ []) cs longer)
      where
        longer : commands_of p j ≡ (front ++ c ∷ []) ++ cs
        longer = whole ∙ sym (append_assoc front (c ∷ []) cs)

        Rest : Type 0
        Rest = (u : State) → Sound p u → Runs p j u → ((d : ℕ) → has (front ++ c ∷ []) d ≡ true → has u.progress.applied d ≡ true) → Brings p MayRun MayMake u (λ v. Runs p j v × Applied p j v)

        by_applied : (b : Bool) → has s.progress.applied c ≡ b → Rest → Brings p MayRun MayMake s (λ u. Runs p j u × Applied p j u)
        by_applied true e rest = rest s k r (λ d h. elim (has-append_cases front (c ∷ []) d h) [
          | inl m ↦ done d m
          | inr m ↦ subst (λ z. has s.progress.applied z ≡ true) (only_one c d m) e
        ])
        by_applied false e rest =
            let x : CanStep p s (ApplyStep c) = (
              j,
              record {
                started = r.started;
                unfinished = r.unfinished;
                next = ap (next (has s.progress.applied)) whole ∙ next_at (has s.progress.applied) front c cs done e;
                ready = reached_earlier p w s.progress.payload j (position_or_len (λ d. eqb d c) (commands_of p j)) r.reached;
              },
            ) in
            let g : Grows MayRun MayMake s (after_step p s (ApplyStep c)) = apply_grows MayRun MayMake p s c in
            let k' : Sound p (after_step p s (ApplyStep c)) = sound_step p w o.chains s (ApplyStep c) k x in
            let r' : Runs p j (after_step p s (ApplyStep c)) = record { started = r.started; unfinished = r.unfinished; reached = r.reached } in
            brings_on p w o.chains MayRun MayMake s (λ u. u ≡ after_step p s (ApplyStep c)) (λ u. Runs p j u × Applied p j u)
            (brings_step p w o.chains MayRun MayMake s (ApplyStep c) (λ u. u ≡ after_step p s (ApplyStep c)) k x g refl)
            (λ u ku gu q. subst (λ z. Brings p MayRun MayMake z (λ v. Runs p j v × Applied p j v)) (sym q)
            (rest (after_step p s (ApplyStep c)) k' r' (λ d h. elim (has-append_cases front (c ∷ []) d h) [
              | inl m ↦ g.applied d (done d m)
              | inr m ↦ has-append_right s.progress.applied (c ∷ []) d m
            ])))

    pub apply_all : (s : State) → Sound p s → Runs p j s → Brings p MayRun MayMake s (λ u. Runs p j u × Applied p j u)
    apply_all s k r = apply_from [] (commands_of p j) refl s k r (λ c h. absurd (false≢true h))

    -- what a signal leaves
    left : (s : State) (e t : ℕ) → chain_of p e ≡ Some t → (P : Progress → Type 0) → P (with_signal p s.progress e (Some t)) → P (after_step p s (SignalStep e)).progress
    left s e t c P x = subst (λ q. P (with_signal p s.progress e q)) (sym c) x

    -- one of its signals
    signal_one : (front : List ℕ) (e : ℕ) (back : List ℕ) → signals_of p j ≡ front ++ e ∷ back → MayMake e → (s : State) → Sound p s → Signaled front s → Brings p MayRun MayMake s (Signaled (front ++ e ∷ []))
    signal_one front e back whole may s k r = by_made (s.progress.made e) refl
      where
        of_job : job_of p e ≡ Some j
        of_job = w.of_job e j (subst (λ zs. has zs e ≡ true) (sym whole) (has-append_right front (e ∷ back) e (has_here e back)))

        on : (t : ℕ) × (chain_of p e ≡ Some t)
        on = op_chain p e j of_job

        all : (u : State) → ((f : ℕ) → has front f ≡ true → u.progress.made f ≡ true) → u.progress.made e ≡ true → (f : ℕ) → has (front ++ e ∷ []) f ≡ true → u.progress.made f ≡ true
        all u a b f h = elim (has-append_cases front (e ∷ []) f h) [ inl m ↦ a f m | inr m ↦ subst (λ z. u.progress.made z ≡ true) (only_one e f m) b ]

        by_made : (b : Bool) → s.progress.made e ≡ b → Brings p MayRun MayMake s (Signaled (front ++ e ∷ []))
        by_made true q = brings_here p w o.chains MayRun MayMake s (Signaled (front ++ e ∷ [])) k (record { runs = r.runs; applied = r.applied; made = all s r.made q })
        by_made false q =
            let c : CanSignal p s.progress e = record {
              job = j;
              chain = on.0;
              in_chain = on.1;
              started = r.runs.started;
              unfinished = r.runs.unfinished;
              commands = list_all_from (has s.progress.applied) (commands_of p j) r.applied;
              next = ap (next s.progress.made) whole ∙ next_at s.progress.made front e back r.made q;
              ready = r.runs.reached;
              rises = elim (cases_lt (s.progress.payload on.0) (value p e)) [
                | inl l ↦ l
                | inr l ↦ absurd (false≢true (sym q ∙ made_where_reached p w o.chains s.progress k.facts e on.0 on.1 l))
              ];
            } in
            let g : Grows MayRun MayMake s (after_step p s (SignalStep e)) = signal_grows MayRun MayMake p s e c may in
            brings_step p w o.chains MayRun MayMake s (SignalStep e) (Signaled (front ++ e ∷ [])) k c g
            (record {
              runs = record { started = g.started j r.runs.started; unfinished = left s e on.0 on.1 (λ q. q.finished j ≡ false) r.runs.unfinished; reached = are_reached_still p s.progress.payload (after_step p s (SignalStep e)).progress.payload g.payload j AtEnd r.runs.reached };
              applied = λ d h. g.applied d (r.applied d h);
              made = all (after_step p s (SignalStep e)) (λ f h. g.made f (r.made f h)) (left s e on.0 on.1 (λ q. q.made e ≡ true) (put_here s.progress.made e true));
            })

    -- its signals behind these, in order
    pub signal_all : (front es back : List ℕ) → signals_of p j ≡ front ++ (es ++ back) → ((e : ℕ) → has es e ≡ true → MayMake e) → (s : State) → Sound p s → Signaled front s → Brings p MayRun MayMake s (Signaled (front ++ es))
    signal_all front [] back whole may s k r = brings_here p w o.chains MayRun MayMake s (Signaled (front ++ [])) k (subst (λ zs. Signaled zs s) (sym (append-nil front)) r)
    signal_all front (e ∷ es) back whole may s k r =
        brings_on p w o.chains MayRun MayMake s (Signaled (front ++ e ∷ [])) (Signaled (front ++ e ∷ es))
        (signal_one front e (es ++ back) whole (may e (has_here e es)) s k r)
        (λ u ku gu q. subst (λ zs. Brings p MayRun MayMake u (Signaled zs)) (append_assoc front (e ∷ []) es)
        (signal_all (front ++ e ∷ []) es back (whole ∙ sym (append_assoc front (e ∷ []) (es ++ back))) (λ f h. may f (has_there e es f h)) u ku q))

    -- its finish
    pub end_job : (s : State) → Sound p s → MayRun j → is_silent (question p j) ≡ true → Signaled (signals_of p j) s → Brings p MayRun MayMake s (λ u. u.progress.finished j ≡ true)
    end_job s k may silent r =
        let c : CanStep p s (FinishStep j) = record {
          done = record {
            started = r.runs.started;
            unfinished = r.runs.unfinished;
            commands = list_all_from (has s.progress.applied) (commands_of p j) r.applied;
            signals = list_all_from s.progress.made (signals_of p j) r.made;
            ready = r.runs.reached;
          };
          answered = or_left (is_silent (question p j)) _ silent;
        } in
        brings_step p w o.chains MayRun MayMake s (FinishStep j) (λ u. u.progress.finished j ≡ true) k c (finish_grows MayRun MayMake p s j may) (put_here s.progress.finished j true)
