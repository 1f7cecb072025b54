-- Goals of a run that goes on: jobs and operations that need nothing but one another can be done.
use Rattle.std.proofs.Common.{ℕ, Bool, true, false, List, [], ◌∷◌, ◌++◌, ◌≡◌, ◌≤◌, ◌<◌, ◌⊎◌, Some, filter, ltb, zero, suc, refl, sym, ap, ◌∙◌, inl, inr, subst, arith, length, append-nil}
use Rattle.std.specs.List.{filter_map}
use Rattle.std.proofs.lemmas.Bool.{cond-false, cond-true, false≢true, ltb-true}
use Rattle.std.proofs.lemmas.List.{append_assoc}
use Rattle.vq_ground.specs.Lists.{has, AreRising}
use Rattle.vq_ground.proofs.Lists.{has_here, has_cases, has-append_left, has-append_right, Splits, pushed, split_at}
use Rattle.vq_ground.proofs.Mapped.{has_mapped, has_option}
use Rattle.vq_model.specs.declared.plan.Need.{Need}
use Rattle.vq_model.specs.Plan.{Plan, initial, is_silent, job_of, question, resolver, signals_of, waits_for_any}
use Rattle.vq_model.specs.Edges.{AtEnd, awaited_at, must_finish, needs_at}
use Rattle.vq_model.specs.Machine.{State, are_reached}
use Rattle.vq_model.specs.SureOrder.{HasSureOrder}
use Rattle.vq_model.specs.WellFormed.{IsWellFormed}
use Rattle.vq_model.specs.Outputs.{IsIn}
use Rattle.vq_order_laws.proofs.Cited.{edges_agree, finished_earlier, op_job, stands}
use Rattle.vq_output_laws.proofs.Growing.{Sound, Grows, Brings, brings_each, brings_here, brings_on, grows_on, is_in, of_in}
use Rattle.vq_output_laws.proofs.Jobs.{Applied, Runs, Signaled, all_reached, apply_all, begin, end_job, found, signal_all}

-- an awaited operation stands in a chain
awaited_from : (p : Plan) (ns : List Need) (r : ℕ) → has (filter_map (λ n. resolver p n.chain n.value) (filter (λ n. ltb (initial p n.chain) n.value) ns)) r ≡ true → (n : Need) × (resolver p n.chain n.value ≡ Some r)
awaited_from p [] r h = absurd (false≢true h)
awaited_from p (n ∷ ns) r h = by_test (ltb (initial p n.chain) n.value) refl (awaited_from p ns r)
  where
    rest : List ℕ
    rest = filter_map (λ n. resolver p n.chain n.value) (filter (λ n. ltb (initial p n.chain) n.value) ns)

    by_test : (b : Bool) → ltb (initial p n.chain) n.value ≡ b → (has rest r ≡ true → (m : Need) × (resolver p m.chain m.value ≡ Some r)) → (m : Need) × (resolver p m.chain m.value ≡ Some r)
    by_test true e f =
        elim (has_option (resolver p n.chain n.value) rest r (sym (ap (λ zs. has (filter_map (λ n. resolver p n.chain n.value) zs) r) (cond-true (ltb (initial p n.chain) n.value) (n ∷ filter (λ n. ltb (initial p n.chain) n.value) ns) (filter (λ n. ltb (initial p n.chain) n.value) ns) e)) ∙ h)) [
          | inl i ↦ (n, i)
          | inr m ↦ f m
        ]
    by_test false e f =
        f (sym (ap (λ zs. has (filter_map (λ n. resolver p n.chain n.value) zs) r) (cond-false (ltb (initial p n.chain) n.value) (n ∷ filter (λ n. ltb (initial p n.chain) n.value) ns) (filter (λ n. ltb (initial p n.chain) n.value) ns) e)) ∙ h)

-- in a list that rises what stands in front is less
front_less : (front back : List ℕ) (e f : ℕ) → AreRising (front ++ e ∷ back) → has front f ≡ true → f < e
front_less [] back e f r h = absurd (false≢true h)
front_less (x ∷ front) back e f r h =
    elim (has_cases x front f h) [
      | inl i ↦ subst (λ z. z < e) i (r.0 e (has-append_right front (e ∷ back) e (has_here e back)))
      | inr m ↦ front_less front back e f r.1 m
    ]

-- Jobs that may run and operations that may be made, each with all that it needs: what isn't among them is finished in
-- this state.
pub record IsClosed (p : Plan) (MayRun MayMake : ℕ → Type 0) (s : State) : Type 0 where
  pub silent : (j : ℕ) → MayRun j → is_silent (question p j) ≡ true
  pub for_all : (j : ℕ) → MayRun j → waits_for_any p j ≡ false
  pub exists : (j : ℕ) → MayRun j → j < length p.jobs
  pub first : (i j : ℕ) → MayRun j → has (must_finish p j) i ≡ true → (s.progress.finished i ≡ true) ⊎ (MayRun i × ((e : ℕ) → job_of p e ≡ Some i → MayMake e))
  pub awaited : (r j : ℕ) → MayRun j → has (awaited_at p j AtEnd) r ≡ true → MayMake r
  pub makes : (e j : ℕ) → MayMake e → job_of p e ≡ Some j → MayRun j
  pub earlier : (e f j : ℕ) → MayMake e → job_of p e ≡ Some j → job_of p f ≡ Some j → f < e → MayMake f

module _ (p : Plan) (w : IsWellFormed p) (o : HasSureOrder p) where
  pub awaited_job : (j r : ℕ) → has (awaited_at p j AtEnd) r ≡ true → (i : ℕ) × (job_of p r ≡ Some i)
  awaited_job j r h = by_any (waits_for_any p j) refl
    where
      all : List ℕ
      all = filter_map (λ n. resolver p n.chain n.value) (filter (λ n. ltb (initial p n.chain) n.value) (needs_at p j AtEnd))

      by_any : (b : Bool) → waits_for_any p j ≡ b → (i : ℕ) × (job_of p r ≡ Some i)
      by_any true e = absurd (false≢true (sym (ap (λ zs. has zs r) (cond-true (waits_for_any p j) [] all e)) ∙ h))
      by_any false e =
          let n = awaited_from p (needs_at p j AtEnd) r (sym (ap (λ zs. has zs r) (cond-false (waits_for_any p j) [] all e)) ∙ h) in
          let f = found p w o n.0.chain n.0.value r n.1 in
          op_job p r n.0.chain (w.of_chain r n.0.chain f.0)

  -- a job that is awaited stands earlier in the slow run
  awaited_stands : (i j r : ℕ) → j < length p.jobs → has (awaited_at p j AtEnd) r ≡ true → job_of p r ≡ Some i → stands p i < stands p j
  awaited_stands i j r l h q =
      ltb-true (stands p i) (stands p j) (edges_agree p w o i j l (has-append_right (must_finish p j) (filter_map (job_of p) (awaited_at p j AtEnd)) i (has_mapped (job_of p) (awaited_at p j AtEnd) r i h q)))

  first_stands : (i j : ℕ) → j < length p.jobs → has (must_finish p j) i ≡ true → stands p i < stands p j
  first_stands i j l h = ltb-true (stands p i) (stands p j) (finished_earlier p o.reachable i j l h)

  module _ (MayRun MayMake : ℕ → Type 0) (s : State) (c : IsClosed p MayRun MayMake s) where
    -- from each later state on
    abbrev From : (State → Type 0) → Type 0
    From Q = (u : State) → Sound p u → Grows MayRun MayMake s u → Brings p MayRun MayMake u Q

    -- what can be done of jobs that stand in front of a place of the slow run
    record Able (n : ℕ) : Type 0 where
      finish : (j : ℕ) → MayRun j → stands p j < n → ((e : ℕ) → job_of p e ≡ Some j → MayMake e) → From (λ v. v.progress.finished j ≡ true)
      make : (e j : ℕ) → MayMake e → job_of p e ≡ Some j → stands p j < n → From (λ v. v.progress.made e ≡ true)

    -- a job has all that it waits for
    record Ready (j : ℕ) (v : State) : Type 0 where
      first : (i : ℕ) → has (must_finish p j) i ≡ true → v.progress.finished i ≡ true
      reached : are_reached p v.progress.payload j AtEnd ≡ true

    ready : (n : ℕ) → Able n → (j : ℕ) → MayRun j → stands p j ≤ n → From (Ready j)
    ready n able j may l u k g =
        brings_on p w o.chains MayRun MayMake u (λ v. (i : ℕ) → IsIn i (must_finish p j) → v.progress.finished i ≡ true) (Ready j)
        (brings_each p w o.chains MayRun MayMake ℕ (λ i v. v.progress.finished i ≡ true) (λ i a b gab h. gab.finished i h) (must_finish p j) u k (λ i m v kv gv. one_first i (of_in (must_finish p j) i m) v kv (grows_on MayRun MayMake s u v g gv)))
        (λ v kv gv firsts.
        brings_on p w o.chains MayRun MayMake v (λ z. (r : ℕ) → IsIn r (awaited_at p j AtEnd) → z.progress.made r ≡ true) (Ready j)
        (brings_each p w o.chains MayRun MayMake ℕ (λ r z. z.progress.made r ≡ true) (λ r a b gab h. gab.made r h) (awaited_at p j AtEnd) v kv (λ r m z kz gz. one_awaited r (of_in (awaited_at p j AtEnd) r m) z kz (grows_on MayRun MayMake s v z (grows_on MayRun MayMake s u v g gv) gz)))
        (λ z kz gz mades. brings_here p w o.chains MayRun MayMake z (Ready j) kz (record {
          first = λ i m. gz.finished i (firsts i (is_in (must_finish p j) i m));
          reached = all_reached p w o j z kz (c.for_all j may) (λ r m. mades r (is_in (awaited_at p j AtEnd) r m));
        })))
      where
        one_first : (i : ℕ) → has (must_finish p j) i ≡ true → From (λ v. v.progress.finished i ≡ true)
        one_first i m v kv gv =
            elim (c.first i j may m) [
              | inl h ↦ brings_here p w o.chains MayRun MayMake v (λ z. z.progress.finished i ≡ true) kv (gv.finished i h)
              | inr h ↦ (let f = first_stands i j (c.exists j may) m in able.finish i h.0 (omega arith) h.1 v kv gv)
            ]

        one_awaited : (r : ℕ) → has (awaited_at p j AtEnd) r ≡ true → From (λ v. v.progress.made r ≡ true)
        one_awaited r m v kv gv =
            let i = awaited_job j r m in
            let f = awaited_stands i.0 j r (c.exists j may) m i.1 in
            able.make r i.0 (c.awaited r j may m) i.1 (omega arith) v kv gv

    -- a job that has all that it waits for runs through some of its signals
    runs_to : (j : ℕ) → MayRun j → (es back : List ℕ) → signals_of p j ≡ es ++ back → ((e : ℕ) → has es e ≡ true → MayMake e) → (u : State) → Sound p u → Ready j u → u.progress.finished j ≡ false → Brings p MayRun MayMake u (Signaled p w o MayRun MayMake j es)
    runs_to j may es back whole makes u k r h =
        brings_on p w o.chains MayRun MayMake u (Runs p j) (Signaled p w o MayRun MayMake j es)
        (begin p w o MayRun MayMake j u k may (c.exists j may) r.first r.reached h)
        (λ v kv gv rv. brings_on p w o.chains MayRun MayMake v (λ z. Runs p j z × Applied p j z) (Signaled p w o MayRun MayMake j es)
        (apply_all p w o MayRun MayMake j v kv rv)
        (λ z kz gz rz. signal_all p w o MayRun MayMake j [] es back whole makes z kz (record { runs = rz.0; applied = rz.1; made = λ e m. absurd (false≢true m) })))

    finish_next : (n : ℕ) → Able n → (j : ℕ) → MayRun j → stands p j ≤ n → ((e : ℕ) → job_of p e ≡ Some j → MayMake e) → From (λ v. v.progress.finished j ≡ true)
    finish_next n able j may l makes u k g =
        brings_on p w o.chains MayRun MayMake u (Ready j) (λ v. v.progress.finished j ≡ true) (ready n able j may l u k g)
        (λ v kv gv r. by_finished v kv r (v.progress.finished j) refl)
      where
        by_finished : (v : State) → Sound p v → Ready j v → (b : Bool) → v.progress.finished j ≡ b → Brings p MayRun MayMake v (λ z. z.progress.finished j ≡ true)
        by_finished v kv r true e = brings_here p w o.chains MayRun MayMake v (λ z. z.progress.finished j ≡ true) kv e
        by_finished v kv r false e =
            brings_on p w o.chains MayRun MayMake v (Signaled p w o MayRun MayMake j (signals_of p j)) (λ z. z.progress.finished j ≡ true)
            (runs_to j may (signals_of p j) [] (sym (append-nil (signals_of p j))) (λ e m. makes e (w.of_job e j m)) v kv r e)
            (λ z kz gz q. end_job p w o MayRun MayMake j z kz may (c.silent j may) q)

    make_next : (n : ℕ) → Able n → (e j : ℕ) → MayMake e → job_of p e ≡ Some j → stands p j ≤ n → From (λ v. v.progress.made e ≡ true)
    make_next n able e j may of_job l u k g =
        brings_on p w o.chains MayRun MayMake u (Ready j) (λ v. v.progress.made e ≡ true) (ready n able j (c.makes e j may of_job) l u k g)
        (λ v kv gv r. by_finished v kv r (v.progress.finished j) refl)
      where
        split : Splits (signals_of p j) e
        split = split_at (signals_of p j) e (w.in_job e j of_job)

        by_finished : (v : State) → Sound p v → Ready j v → (b : Bool) → v.progress.finished j ≡ b → Brings p MayRun MayMake v (λ z. z.progress.made e ≡ true)
        by_finished v kv r true q = brings_here p w o.chains MayRun MayMake v (λ z. z.progress.made e ≡ true) kv (kv.facts.finished_signals j e q (w.in_job e j of_job))
        by_finished v kv r false q =
            brings_on p w o.chains MayRun MayMake v (Signaled p w o MayRun MayMake j (split.front ++ e ∷ [])) (λ z. z.progress.made e ≡ true)
            (runs_to j (c.makes e j may of_job) (split.front ++ e ∷ []) split.back (split.whole ∙ sym (append_assoc split.front (e ∷ []) split.back)) one v kv r q)
            (λ z kz gz m. brings_here p w o.chains MayRun MayMake z (λ y. y.progress.made e ≡ true) kz (m.made e (has-append_right split.front (e ∷ []) e (has_here e []))))
          where
            one : (f : ℕ) → has (split.front ++ e ∷ []) f ≡ true → MayMake f
            one f m =
                elim (pushed split.front e f m) [
                  | inl i ↦ c.earlier e f j may of_job (w.of_job f j (subst (λ zs. has zs f ≡ true) (sym split.whole) (has-append_left split.front (e ∷ split.back) f i))) (front_less split.front split.back e f (subst AreRising split.whole (w.signals j)) i)
                  | inr i ↦ subst MayMake i may
                ]

    able : (n : ℕ) → Able n
    able zero = record { finish = λ j may l makes. absurd (let a : ⊥ = omega arith in a); make = λ e j may q l. absurd (let a : ⊥ = omega arith in a) }
    able (suc n) =
        record {
          finish = λ j may l makes. finish_next n (able n) j may (omega arith) makes;
          make = λ e j may q l. make_next n (able n) e j may q (omega arith);
        }

    -- each of these jobs can be finished, where all its signals may be made, and each of these operations can be made
    pub finishes : (j : ℕ) → MayRun j → ((e : ℕ) → job_of p e ≡ Some j → MayMake e) → From (λ v. v.progress.finished j ≡ true)
    finishes j may makes = (able (suc (stands p j))).finish j may (omega arith) makes

    pub makes : (e j : ℕ) → MayMake e → job_of p e ≡ Some j → From (λ v. v.progress.made e ≡ true)
    makes e j may q = (able (suc (stands p j))).make e j may q (omega arith)
