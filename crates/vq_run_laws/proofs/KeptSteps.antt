-- Each step keeps what a state keeps.
use Rattle.std.proofs.lemmas.Option.{same_Some}
use Rattle.vq_order_laws.proofs.Cited.{rising_at}
use Rattle.std.proofs.Common.{◌≡◌, ℕ, ◌<◌, ◌≤◌, Bool, true, false, leb, List, [], ◌∷◌, ◌++◌, Some, refl, sym, ap, ◌∙◌, ◌⊎◌, inl, inr, subst, arith}
use Rattle.std.specs.List.{list_all, filter_map}
use Rattle.std.proofs.lemmas.Bool.{and_parts, false≢true, cases_eq, leb-false}
use Rattle.vq_model.specs.Plan.{Plan, commands_of, signals_of, chain, initial, value, job_of, chain_of}
use Rattle.vq_ground.specs.Lists.{has}
use Rattle.vq_model.specs.Edges.{Stage, At, AtEnd, stage_of, must_finish, awaited_at, edges_at}
use Rattle.vq_model.specs.WellFormed.{IsWellFormed}
use Rattle.vq_model.specs.Machine.{are_reached, can_start, put, next}
use Rattle.vq_model.specs.HappensBefore.{HappensBeforeAt, one, more}
use Rattle.vq_model.specs.Sure.{IsSureAt, finished_first, waited_for, passed_on}
use Rattle.vq_model.specs.SureOrder.{KeepsRising, RisesFrom, KeepsChains}
use Rattle.vq_ground.proofs.Lists.{has_cases, has-append_cases, has-append_left, list_all_has, distinct_push, pushed}
use Rattle.vq_run_laws.proofs.NextDone.{next_in, next_before}
use Rattle.vq_model.proofs.Puts.{put_here, put_there, put_cases, put_keeps}
use Rattle.vq_run_laws.proofs.StateFacts.{Must, RaisedTo, HasCome, by_start, by_command, by_signal, by_finish, Keeps, come_later}
use Rattle.vq_run_laws.proofs.NeedsMade.{IsNeed, awaited_need}
use Rattle.vq_ground.proofs.Searches.{find_splits}
use Rattle.vq_run_laws.proofs.Swaps.{extends_push}
use Rattle.vq_ground.proofs.Mapped.{mapped}

module _ (p : Plan) (w : IsWellFormed p) (chains : KeepsChains p) (payload : ℕ → ℕ) (started finished made : ℕ → Bool) (applied : List ℕ) (k : Keeps p payload started finished made applied) where
  -- a job that is at its end has all its commands applied
  pub end_commands : (j c : ℕ) → HasCome p started finished made applied j AtEnd → has (commands_of p j) c ≡ true → has applied c ≡ true
  end_commands j c (by_signal e i h) m = k.made_commands e j c h i m
  end_commands j c (by_finish h) m = k.finished_commands j c h m

  -- an operation below a made one of its chain is made
  pub made_below : (r : ℕ) (es : List ℕ) (e : ℕ) → KeepsRising p r es → has es e ≡ true → made e ≡ true → made r ≡ true
  made_below r [] e rise h m = absurd (false≢true h)
  made_below r (f ∷ fs) e rise h m =
      let made_f : made f ≡ true = elim (has_cases f fs e h) [ inl i ↦ subst (λ z. made z ≡ true) (sym i) m | inr i ↦ made_below f fs e rise.2 i m ] in
      let u = rise.1 in
      k.sure r u.0 AtEnd (by_signal f u.1 made_f) u.2

  -- the resolver of a need that is reached is made
  pub need_made : (r : ℕ) → IsNeed p payload r → made r ≡ true
  need_made r n =
      let f = find_splits (λ e. leb n.value (value p e)) (chain p n.chain) r n.resolves in
      elim (k.raised n.chain) [
        | inl e ↦ let a = n.above in let b = n.reached in absurd (omega arith)
        | inr o ↦
            let member = subst (λ zs. has zs o.op ≡ true) f.whole o.in_chain in
            let rise = rising_at p (initial p n.chain) f.front f.back r (subst (RisesFrom p (initial p n.chain)) f.whole (chains n.chain)) in
            elim (has-append_cases f.front (r ∷ f.back) o.op member) [
              | inl i ↦ let low = leb-false n.value (value p o.op) (f.fail o.op i) in let a = o.sets in let b = n.reached in absurd (omega arith)
              | inr i ↦ elim (has_cases r f.back o.op i) [
                | inl j ↦ subst (λ z. made z ≡ true) (sym j) o.was_made
                | inr j ↦ made_below r f.back o.op rise j o.was_made
              ]
            ]
      ]

  -- a job that may come to a place: what must be finished before it is, and the needs at the place are reached
  module _ (j : ℕ) (at : Stage) (ended : (i : ℕ) → has (must_finish p j) i ≡ true → finished i ≡ true) (reached : are_reached p payload j at ≡ true) where
    pub awaited_made : (r : ℕ) → has (awaited_at p j at) r ≡ true → made r ≡ true
    awaited_made r h = need_made r (awaited_need p payload j at r h reached)

    -- a job with an edge to the place is at its end
    pub edge_end : (i : ℕ) → has (edges_at p j at) i ≡ true → HasCome p started finished made applied i AtEnd
    edge_end i h =
        elim (has-append_cases (must_finish p j) (filter_map (job_of p) (awaited_at p j at)) i h) [
          | inl m ↦ by_finish (ended i m)
          | inr m ↦ let r = mapped (job_of p) (awaited_at p j at) i m in by_signal r.0 r.2 (awaited_made r.0 r.1)
        ]

    pub before_ready : (i : ℕ) → HappensBeforeAt p i j at → HasCome p started finished made applied i AtEnd
    before_ready i (one h) = edge_end i h.edge
    before_ready i (more {h = q} b h) = k.before i q AtEnd (edge_end q h.edge) b

    pub sure_ready : (e : ℕ) → IsSureAt p e j at → made e ≡ true
    sure_ready e (finished_first f) = k.finished_signals f.job e (ended f.job f.first) (w.in_job e f.job f.of_job)
    sure_ready e (waited_for f) = k.made_earlier e f.by_op f.job (awaited_made f.by_op f.waits) f.of_job f.same_job f.at_or_later
    sure_ready e (passed_on {i = i} s h) = k.sure e i AtEnd (edge_end i h.edge) s

    -- the places to which jobs have come, and this one
    abbrev Comes : ℕ → Stage → Type 0
    Comes i q = HasCome p started finished made applied i q ⊎ ((i ≡ j) × (q ≡ at))

    sure_next : (e i : ℕ) (q : Stage) → Comes i q → IsSureAt p e i q → made e ≡ true
    sure_next e i q (inl h) s = k.sure e i q h s
    sure_next e i q (inr h) s = sure_ready e (subst (λ z. IsSureAt p e j z) h.1 (subst (λ z. IsSureAt p e z q) h.0 s))

    before_next : (i h : ℕ) (q : Stage) → Comes h q → HappensBeforeAt p i h q → HasCome p started finished made applied i AtEnd
    before_next i h q (inl c) b = k.before i h q c b
    before_next i h q (inr c) b = before_ready i (subst (λ z. HappensBeforeAt p i j z) c.1 (subst (λ z. HappensBeforeAt p i z q) c.0 b))

  pub keep_start : (j : ℕ) → can_start p finished payload j ≡ true → Keeps p payload (put started j true) finished made applied
  keep_start j ready =
      record {
        finished_started = λ i h. grow i (k.finished_started i h);
        finished_commands = k.finished_commands;
        finished_signals = k.finished_signals;
        started_after = λ i h s m. elim (put_cases started j i s) [ inl e ↦ ended h (subst (λ z. has (must_finish p z) h ≡ true) e m) | inr o ↦ k.started_after i h o m ];
        made_job = λ e h. let o = k.made_job e h in record { job = o.job; is = o.is; has_started = grow o.job o.has_started };
        made_commands = k.made_commands;
        made_earlier = k.made_earlier;
        raised = k.raised;
        sure = λ e i q h s. sure_next j (At 1) ended parts.1 e i q (comes i q h) s;
        before = λ i h q c b. later i AtEnd (before_next j (At 1) ended parts.1 i h q (comes h q c) b);
        applied_job = λ c h. let o = k.applied_job c h in record { job = o.job; in_job = o.in_job; has_started = grow o.job o.has_started };
        applied_earlier = k.applied_earlier;
        distinct = k.distinct;
        extends = k.extends;
      }
    where
      parts : (list_all finished (must_finish p j) ≡ true) × (are_reached p payload j (At 1) ≡ true)
      parts = and_parts (list_all finished (must_finish p j)) (are_reached p payload j (At 1)) ready

      ended : (i : ℕ) → has (must_finish p j) i ≡ true → finished i ≡ true
      ended i m = list_all_has finished (must_finish p j) i parts.0 m

      grow : (i : ℕ) → started i ≡ true → put started j true i ≡ true
      grow i h = put_keeps started j i h

      later : (i : ℕ) (q : Stage) → HasCome p started finished made applied i q → HasCome p (put started j true) finished made applied i q
      later i q h = come_later p started finished made applied (put started j true) finished made applied grow (λ a b. b) (λ a b. b) (λ a b. b) i q h

      comes : (i : ℕ) (q : Stage) → HasCome p (put started j true) finished made applied i q → HasCome p started finished made applied i q ⊎ ((i ≡ j) × (q ≡ At 1))
      comes i q (by_start h) = elim (put_cases started j i h) [ inl e ↦ inr (e, refl) | inr o ↦ inl (by_start o) ]
      comes i q (by_command c m h) = inl (by_command c m h)
      comes i q (by_signal e m h) = inl (by_signal e m h)
      comes i q (by_finish h) = inl (by_finish h)

  pub keep_finish : (j : ℕ) → started j ≡ true → list_all (has applied) (commands_of p j) ≡ true → list_all made (signals_of p j) ≡ true → are_reached p payload j AtEnd ≡ true → Keeps p payload started (put finished j true) made applied
  keep_finish j s cs es reached =
      record {
        finished_started = λ i h. elim (put_cases finished j i h) [ inl e ↦ subst (λ z. started z ≡ true) (sym e) s | inr o ↦ k.finished_started i o ];
        finished_commands = λ i c h m. elim (put_cases finished j i h) [ inl e ↦ list_all_has (has applied) (commands_of p j) c cs (subst (λ z. has (commands_of p z) c ≡ true) e m) | inr o ↦ k.finished_commands i c o m ];
        finished_signals = λ i e h m. elim (put_cases finished j i h) [ inl q ↦ list_all_has made (signals_of p j) e es (subst (λ z. has (signals_of p z) e ≡ true) q m) | inr o ↦ k.finished_signals i e o m ];
        started_after = λ i h o m. grow h (k.started_after i h o m);
        made_job = k.made_job;
        made_commands = k.made_commands;
        made_earlier = k.made_earlier;
        raised = k.raised;
        sure = λ e i q h m. sure_next j AtEnd ended reached e i q (comes i q h) m;
        before = λ i h q c b. later i AtEnd (before_next j AtEnd ended reached i h q (comes h q c) b);
        applied_job = k.applied_job;
        applied_earlier = k.applied_earlier;
        distinct = k.distinct;
        extends = k.extends;
      }
    where
      ended : (i : ℕ) → has (must_finish p j) i ≡ true → finished i ≡ true
      ended i m = k.started_after j i s m

      grow : (i : ℕ) → finished i ≡ true → put finished j true i ≡ true
      grow i h = put_keeps finished j i h

      later : (i : ℕ) (q : Stage) → HasCome p started finished made applied i q → HasCome p started (put finished j true) made applied i q
      later i q h = come_later p started finished made applied started (put finished j true) made applied (λ a b. b) grow (λ a b. b) (λ a b. b) i q h

      comes : (i : ℕ) (q : Stage) → HasCome p started (put finished j true) made applied i q → HasCome p started finished made applied i q ⊎ ((i ≡ j) × (q ≡ AtEnd))
      comes i q (by_start h) = inl (by_start h)
      comes i q (by_command c m h) = inl (by_command c m h)
      comes i q (by_signal e m h) = inl (by_signal e m h)
      comes i q (by_finish h) = elim (put_cases finished j i h) [ inl e ↦ inr (e, refl) | inr o ↦ inl (by_finish o) ]

  pub keep_apply : (j c : ℕ) → started j ≡ true → next (has applied) (commands_of p j) ≡ Some c → are_reached p payload j (stage_of p j c) ≡ true → Keeps p payload started finished made (applied ++ c ∷ [])
  keep_apply j c s n reached =
      record {
        finished_started = k.finished_started;
        finished_commands = λ i x h m. grow x (k.finished_commands i x h m);
        finished_signals = k.finished_signals;
        started_after = k.started_after;
        made_job = k.made_job;
        made_commands = λ e i x h q m. grow x (k.made_commands e i x h q m);
        made_earlier = k.made_earlier;
        raised = k.raised;
        sure = λ e i q h m. sure_next j (stage_of p j c) ended reached e i q (comes i q h) m;
        before = λ i h q m b. later i AtEnd (before_next j (stage_of p j c) ended reached i h q (comes h q m) b);
        applied_job = λ x h. elim (pushed applied c x h) [
          | inl m ↦ k.applied_job x m
          | inr e ↦ record { job = j; in_job = subst (λ z. has (commands_of p j) z ≡ true) e fresh.0; has_started = s }
        ];
        applied_earlier = λ i d x md mx l h. elim (pushed applied c d h) [
          | inl m ↦ grow x (k.applied_earlier i d x md mx l m)
          | inr e ↦
              let here = w.one_job d i j md (subst (λ z. has (commands_of p j) z ≡ true) e fresh.0) in
              grow x (next_before (has applied) (commands_of p j) c x (w.commands j) n (subst (λ z. has (commands_of p z) x ≡ true) here mx) (subst (λ z. x < z) (sym e) l))
        ];
        distinct = distinct_push applied c k.distinct fresh.1;
        extends = extends_push (Must p) applied c k.extends (λ x h m. unapplied x h m);
      }
    where
      fresh : (has (commands_of p j) c ≡ true) × (has applied c ≡ false)
      fresh = next_in (has applied) (commands_of p j) c n

      ended : (i : ℕ) → has (must_finish p j) i ≡ true → finished i ≡ true
      ended i m = k.started_after j i s m

      grow : (x : ℕ) → has applied x ≡ true → has (applied ++ c ∷ []) x ≡ true
      grow x h = has-append_left applied (c ∷ []) x h

      later : (i : ℕ) (q : Stage) → HasCome p started finished made applied i q → HasCome p started finished made (applied ++ c ∷ []) i q
      later i q h = come_later p started finished made applied started finished made (applied ++ c ∷ []) (λ a b. b) (λ a b. b) (λ a b. b) grow i q h

      comes : (i : ℕ) (q : Stage) → HasCome p started finished made (applied ++ c ∷ []) i q → HasCome p started finished made applied i q ⊎ ((i ≡ j) × (q ≡ stage_of p j c))
      comes i q (by_start h) = inl (by_start h)
      comes i q (by_command d m h) =
          elim (pushed applied c d h) [
            | inl o ↦ inl (by_command d m o)
            | inr e ↦
                let here = w.one_job d i j m (subst (λ z. has (commands_of p j) z ≡ true) e fresh.0) in
                inr (here, ap (λ z. stage_of p z d) here ∙ ap (λ z. stage_of p j z) (sym e))
          ]
      comes i q (by_signal e m h) = inl (by_signal e m h)
      comes i q (by_finish h) = inl (by_finish h)

      unapplied : (x : ℕ) → has applied x ≡ true → Must p c x → ⊥
      unapplied x h m =
          elim m.order [
            | inl b ↦ false≢true (sym fresh.1 ∙ end_commands m.first_job c (k.before m.first_job m.second_job (stage_of p m.second_job x) (by_command x m.second h) b) m.first)
            | inr q ↦ false≢true (sym fresh.1 ∙ k.applied_earlier m.second_job x c m.second (subst (λ z. has (commands_of p z) c ≡ true) q.0 m.first) q.1 h)
          ]

  pub keep_signal : (j e t : ℕ) → started j ≡ true → list_all (has applied) (commands_of p j) ≡ true → next made (signals_of p j) ≡ Some e → are_reached p payload j AtEnd ≡ true → chain_of p e ≡ Some t → Keeps p (put payload t (value p e)) started finished (put made e true) applied
  keep_signal j e t s cs n reached i =
      record {
        finished_started = k.finished_started;
        finished_commands = k.finished_commands;
        finished_signals = λ q f h m. grow f (k.finished_signals q f h m);
        started_after = k.started_after;
        made_job = λ f h. elim (put_cases made e f h) [
          | inl q ↦ record { job = j; is = ap (job_of p) q ∙ of_job; has_started = s }
          | inr m ↦ k.made_job f m
        ];
        made_commands = λ f q c h is m. elim (put_cases made e f h) [
          | inl r ↦ list_all_has (has applied) (commands_of p j) c cs (subst (λ z. has (commands_of p z) c ≡ true) (same_Some q j (sym is ∙ (ap (job_of p) r ∙ of_job))) m)
          | inr o ↦ k.made_commands f q c o is m
        ];
        made_earlier = λ d f q h is is' l. elim (put_cases made e f h) [
          | inl r ↦ earlier d f q r is is' l
          | inr o ↦ grow d (k.made_earlier d f q o is is' l)
        ];
        raised = λ u. raised u (cases_eq u t);
        sure = λ f h q c m. grow f (sure_next j AtEnd ended reached f h q (comes h q c) m);
        before = λ f h q c b. later f AtEnd (before_next j AtEnd ended reached f h q (comes h q c) b);
        applied_job = k.applied_job;
        applied_earlier = k.applied_earlier;
        distinct = k.distinct;
        extends = k.extends;
      }
    where
      fresh : (has (signals_of p j) e ≡ true) × (made e ≡ false)
      fresh = next_in made (signals_of p j) e n

      of_job : job_of p e ≡ Some j
      of_job = w.of_job e j fresh.0

      ended : (h : ℕ) → has (must_finish p j) h ≡ true → finished h ≡ true
      ended h m = k.started_after j h s m

      grow : (f : ℕ) → made f ≡ true → put made e true f ≡ true
      grow f h = put_keeps made e f h

      later : (h : ℕ) (q : Stage) → HasCome p started finished made applied h q → HasCome p started finished (put made e true) applied h q
      later h q c = come_later p started finished made applied started finished (put made e true) applied (λ a b. b) (λ a b. b) grow (λ a b. b) h q c

      comes : (h : ℕ) (q : Stage) → HasCome p started finished (put made e true) applied h q → HasCome p started finished made applied h q ⊎ ((h ≡ j) × (q ≡ AtEnd))
      comes h q (by_start c) = inl (by_start c)
      comes h q (by_command d m c) = inl (by_command d m c)
      comes h q (by_signal f m c) = elim (put_cases made e f c) [ inl r ↦ inr (same_Some h j (sym m ∙ (ap (job_of p) r ∙ of_job)), refl) | inr o ↦ inl (by_signal f m o) ]
      comes h q (by_finish c) = inl (by_finish c)

      earlier : (d f q : ℕ) → f ≡ e → job_of p d ≡ Some q → job_of p f ≡ Some q → d ≤ f → put made e true d ≡ true
      earlier d f q r is is' l =
          elim (cases_eq d e) [
            | inl x ↦ subst (λ z. put made e true z ≡ true) (sym x) (put_here made e true)
            | inr x ↦
                let here = same_Some q j (sym is' ∙ (ap (job_of p) r ∙ of_job)) in
                put_keeps made e d (next_before made (signals_of p j) e d (w.signals j) n (w.in_job d j (is ∙ ap Some here)) (below d f r l x))
          ]
        where
          below : (d f : ℕ) → f ≡ e → d ≤ f → (d ≡ e → ⊥) → d < e
          below d f r l x = grind arith

      raised : (u : ℕ) → ((u ≡ t) ⊎ (u ≡ t → ⊥)) → (put payload t (value p e) u ≡ initial p u) ⊎ RaisedTo p (put made e true) u (put payload t (value p e) u)
      raised u (inl x) =
          inr (record {
            op = e;
            in_chain = w.in_chain e u (i ∙ ap Some (sym x));
            was_made = put_here made e true;
            sets = sym (ap (put payload t (value p e)) x ∙ put_here payload t (value p e));
          })
      raised u (inr x) =
          let stays = put_there payload t (value p e) u x in
          elim (k.raised u) [
            | inl o ↦ inl (stays ∙ o)
            | inr o ↦ inr (record { op = o.op; in_chain = o.in_chain; was_made = put_keeps made e o.op o.was_made; sets = o.sets ∙ sym stays })
          ]
