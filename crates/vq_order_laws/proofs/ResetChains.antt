-- The chain of a fence rises in a sure order: between two namings stands an effective reset, for
-- which the first naming's signal is sure, and so it is for the batch of the second. With those of
-- binary semaphores these are all chains but those of timelines.
use Rattle.std.proofs.Common.{◌≡◌, ℕ, ◌<◌, ◌≤◌, Bool, true, false, ◌≢◌, zero, suc, ◌+◌, ◌⊎◌, inl, inr, refl, sym, ap, ◌∙◌, arith, Some, eqb, Option, None, ◌++◌, length, ◌-◌, not, List, [], ◌∷◌, option_map, subst}
use Rattle.std.proofs.lemmas.Bool.{cases_eq, eqb-true, false≢true, eq-eqb, cases_lt}
use Rattle.std.specs.List.{slice_get}
use Rattle.vq_model.specs.declared.script.Script.{Script}
use Rattle.vq_model.specs.declared.script.Mark.{Mark}
use Rattle.vq_model.specs.declared.script.Batch.{Batch}
use Rattle.vq_model.specs.declared.script.Job.TheVariants.{Batch as BatchJob, Host}
use Rattle.std.specs.Option.{option_map_or, option_to_list}
use Rattle.vq_model.specs.declared.script.Job.{Job}
use Rattle.vq_model.specs.Lowering.{names_fence, resets_fence, plan_of, step_resets}
use Rattle.vq_model.specs.Checks.{names_at, resets_at, IsEffectiveReset, IsFenceBusyAt, IsUnordered, NoLine, NoLines}
use Rattle.vq_model.specs.Plan.{chain, initial, line_of_job}
use Rattle.vq_ground.specs.Lists.{has}
use Rattle.vq_model.specs.ValidScripts.{job_lines, IsValid, HasValidBatches, HasValidSteps, HasRisingLines, is_fence_at}
use Rattle.vq_ground.proofs.Gets.{get-append, get-map, get_some}
use Rattle.vq_order_laws.proofs.JobLines.{signal_line, lines_across}
use Rattle.vq_order_laws.proofs.ChainSignals.{mark_has, IsSignal}
use Rattle.vq_model.specs.declared.script.HostLine.{HostLine}
use Rattle.std.proofs.lemmas.List.{append_assoc}
use Rattle.vq_model.specs.declared.script.SemaphoreKind.{SemaphoreKind}
use Rattle.vq_model.specs.declared.script.SemaphoreKind.TheVariants.{Timeline, Binary, Fence}
use Rattle.vq_model.specs.declared.script.Semaphore.{Semaphore}
use Rattle.vq_model.specs.Context.{is_timeline, is_fence}
use Rattle.vq_model.specs.Edges.{AtEnd}
use Rattle.vq_model.specs.Signals.{initial_value, kind_of, is_timeline_at, is_counted_at}
use Rattle.vq_model.specs.LoweringFaults.{lowering_fault, uses, Use, Named, UseLine, FenceUsed}
use Rattle.vq_model.specs.FaultyUses.{LastIs}
use Rattle.vq_model.specs.SlowRun.{left_over}
use Rattle.vq_model.specs.Sure.{IsSure}
use Rattle.vq_model.specs.SureOrder.{IsSureForJobOf, KeepsRising, RisesFrom}
use Rattle.vq_ground.proofs.Lists.{has_here}
use Rattle.vq_plan_laws.proofs.Cited.{host_order, op_chain_is, no_fault_found}
use Rattle.vq_order_laws.proofs.Decides.{sure_decides}
use Rattle.vq_order_laws.proofs.HostOrder.{sure_for_batch}
use Rattle.vq_order_laws.proofs.UsesInOrder.{StandsIn, uses_rise}
use Rattle.vq_order_laws.proofs.UseKinds.{IsUse, IsReset, use_is, fence_is_use}
use Rattle.vq_order_laws.proofs.LastUses.{HasLastBefore, last_before}
use Rattle.vq_order_laws.proofs.CountedChains.{value_counts, values_rise, member, first_signal, next_signal, in_turn, line_before, is_fence_of, mark_line, wait_kind, signal_kind, binary_rises}

-- the first number of a range that passes a test
record IsFirstOf (test : ℕ → Bool) (i r : ℕ) : Type 0 where
  number : ℕ
  from : i ≤ number
  up_to : number ≤ r
  passes : test number ≡ true
  none_before : (m : ℕ) → i ≤ m → m < number → test m ≡ false

first_of : (test : ℕ → Bool) (n i r : ℕ) → i + n ≡ r → test r ≡ true → IsFirstOf test i r
first_of test zero i r e h =
    record {
      number = r;
      from = omega arith;
      up_to = omega arith;
      passes = h;
      none_before = λ m a b. absurd (omega arith);
    }
first_of test (suc n) i r e h = by_test (test i) refl (first_of test n (suc i) r (omega arith) h)
  where
    by_test : (b : Bool) → test i ≡ b → IsFirstOf test (suc i) r → IsFirstOf test i r
    by_test true q k =
        record {
          number = i;
          from = omega arith;
          up_to = omega arith;
          passes = q;
          none_before = λ m a b. absurd (omega arith);
        }
    by_test false q k =
        let l = k.from in
        record {
          number = k.number;
          from = omega arith;
          up_to = k.up_to;
          passes = k.passes;
          none_before = λ m a b. at m a b (cases_eq i m);
        }
      where
        at : (m : ℕ) → i ≤ m → m < k.number → (i ≡ m) ⊎ (i ≢ m) → test m ≡ false
        at m a b (inl s) = ap test (sym s) ∙ q
        at m a b (inr d) = k.none_before m (omega (arith, d)) b

-- a batch names a fence
record IsNaming (s : Script) (t j : ℕ) : Type 0 where
  batch : Batch
  at : slice_get s.jobs j ≡ Some (BatchJob batch)
  mark : Mark
  fence : batch.fence ≡ Some mark
  of_semaphore : mark.semaphore ≡ t

naming_is : (s : Script) (t j : ℕ) → names_at s t j ≡ true → IsNaming s t j
naming_is s t j h = by_job (slice_get s.jobs j) refl h
  where
    by_fence : (b : Batch) → slice_get s.jobs j ≡ Some (BatchJob b) → (o : Option Mark) → b.fence ≡ o →
        option_map_or (λ m. eqb m.semaphore t) o false ≡ true → IsNaming s t j
    by_fence b e None q g = absurd (false≢true g)
    by_fence b e (Some m) q g =
        record { batch = b; at = e; mark = m; fence = q; of_semaphore = eqb-true m.semaphore t g }

    by_job : (o : Option Job) → slice_get s.jobs j ≡ o → option_map_or (names_fence t) o false ≡ true →
        IsNaming s t j
    by_job None e g = absurd (false≢true g)
    by_job (Some (Host x)) e g = absurd (false≢true g)
    by_job (Some (BatchJob b)) e g = by_fence b e b.fence refl g

names_here : (s : Script) (t j : ℕ) → IsNaming s t j → names_at s t j ≡ true
names_here s t j n =
    ap (λ (o : Option Job). option_map_or (names_fence t) o false) n.at
    ∙ (ap (λ (o : Option Mark). option_map_or (λ m. eqb m.semaphore t) o false) n.fence
    ∙ eq-eqb n.mark.semaphore t n.of_semaphore)

-- the line of a naming is one of its batch
naming_line : (s : Script) (t j : ℕ) (n : IsNaming s t j) →
    has (job_lines (BatchJob n.batch)) n.mark.line ≡ true
naming_line s t j n =
    signal_line n.batch n.mark.line
    (mark_has (n.batch.signals ++ option_to_list n.batch.fence) (length n.batch.signals + 0) n.mark
    (get-append n.batch.signals (option_to_list n.batch.fence) 0
    ∙ ap (λ (o : Option Mark). slice_get (option_to_list o) 0) n.fence))

-- a job of a script that resets a fence is a host step
record IsHostAt (s : Script) (j : ℕ) : Type 0 where
  host : HostLine
  at : slice_get s.jobs j ≡ Some (Host host)

host_resets : (s : Script) (t j : ℕ) → resets_at s t j ≡ true → IsHostAt s j
host_resets s t j h = by_job (slice_get s.jobs j) refl h
  where
    by_job : (o : Option Job) → slice_get s.jobs j ≡ o → option_map_or (resets_fence t) o false ≡ true →
        IsHostAt s j
    by_job None e g = absurd (false≢true g)
    by_job (Some (Host x)) e g = record { host = x; at = e }
    by_job (Some (BatchJob b)) e g = absurd (false≢true g)

-- Where lowering finds no fault, ..
module _ (s : Script) (v : IsValid s) (bs : HasValidBatches s) (hs : HasValidSteps s)
    (r : HasRisingLines s) (faultless : lowering_fault s ≡ None) where
  module _ (t : ℕ) (counted : is_timeline_at s t ≡ false) (fence : is_fence_at s t ≡ true)
      (used : is_counted_at s t ≡ true) where
    -- a use of a fence names it or resets it
    fence_use : (x : UseLine) → StandsIn (uses s) x → x.semaphore ≡ t → (x.kind ≡ Named) ⊎ IsReset s x
    fence_use x i e = elim (use_is s x i) [ inl u ↦ inl (by_among u) | inr k ↦ inr k ]
      where
        wrong : (m : Mark) → x.semaphore ≡ m.semaphore → is_fence_at s m.semaphore ≡ false →
            x.kind ≡ Named
        wrong m q f = absurd (false≢true (sym f ∙ (ap (is_fence_at s) (sym q ∙ e) ∙ fence)))

        by_among : IsUse s x → x.kind ≡ Named
        by_among u = elim u.among [
          | inl k ↦ wrong k.mark k.of_semaphore
              (wait_kind s v bs hs r faultless u.batch u.job k.place k.mark u.at k.is)
          | inr o ↦ elim o [
            | inl k ↦ wrong k.mark k.of_semaphore
                (signal_kind s v bs hs r faultless u.batch u.job k.place k.mark u.at k.is)
            | inr k ↦ k.of_kind
          ]
        ]

    -- the use that a naming is
    abbrev use_of : (j : ℕ) → IsNaming s t j → UseLine
    use_of j n = record { line = n.mark.line; semaphore = n.mark.semaphore; kind = Named }

    naming_use : (j : ℕ) (n : IsNaming s t j) → StandsIn (uses s) (use_of j n)
    naming_use j n =
        fence_is_use s j n.batch n.mark n.at n.fence (ap (is_counted_at s) n.of_semaphore ∙ used)

    -- a reset between two jobs
    record IsResetBetween (i j : ℕ) : Type 0 where
      job : ℕ
      after : i < job
      before : job < j
      resets : resets_at s t job ≡ true

    reset_between : (i j : ℕ) → IsNaming s t i → IsNaming s t j → i < j → IsResetBetween i j
    reset_between i j a b l =
        by_use (fence_use before.last.last before.stands (before.last.of_semaphore ∙ a.of_semaphore))
        before.after
      where
        x : StandsIn (uses s) (use_of j b)
        x = naming_use j b

        rising : a.mark.line < b.mark.line
        rising =
            lines_across s.jobs i j (BatchJob a.batch) (BatchJob b.batch) a.mark.line b.mark.line r a.at
            b.at l (naming_line s t i a) (naming_line s t j b)

        before : HasLastBefore s x.front (use_of j b) (use_of i a)
        before =
            last_before s (use_of j b) (use_of i a) x.front x.back (uses_rise s r) x.whole
            (naming_use i a) rising

        same : a.mark.semaphore ≡ b.mark.semaphore
        same = a.of_semaphore ∙ sym b.of_semaphore

        not_named : before.last.last.kind ≡ Named → ⊥
        not_named q =
            no_fault_found s faultless x.front x.back (use_of j b) FenceUsed x.whole (
              refl,
              subst (λ (k : Use). LastIs x.front b.mark.semaphore k) (sym before.last.of_kind ∙ q)
                  (subst (λ (z : ℕ). LastIs x.front z before.kind) same before.last),
            )

        by_reset : IsReset s before.last.last → a.mark.line < before.last.last.line →
            IsResetBetween i j
        by_reset k m =
            record {
              job = k.job;
              after = elim (cases_lt i k.job) [
                | inl g ↦ g
                | inr g ↦ absurd (not_first g (cases_eq k.job i))
              ];
              before = elim (cases_lt k.job j) [
                | inl g ↦ g
                | inr g ↦ absurd (not_last g (cases_eq k.job j))
              ];
              resets =
                  ap (λ (o : Option Job). option_map_or (resets_fence t) o false) k.at
                  ∙ (ap (step_resets t) k.step
                  ∙ eq-eqb t before.last.last.semaphore
                  (sym (before.last.of_semaphore ∙ a.of_semaphore)));
            }
          where
            host_is_batch : (h : HostLine) (c : Batch) → Some (Host h) ≡ Some (BatchJob c) → ⊥
            host_is_batch h c q = cc

            not_first : k.job ≤ i → (k.job ≡ i) ⊎ (k.job ≢ i) → ⊥
            not_first g (inl q) =
                host_is_batch k.host a.batch (sym k.at ∙ (ap (slice_get s.jobs) q ∙ a.at))
            not_first g (inr d) =
                let o = lines_across s.jobs k.job i (Host k.host) (BatchJob a.batch) k.host.line
                a.mark.line r k.at a.at (omega (arith, d)) (has_here k.host.line [])
                (naming_line s t i a) in
                let here = k.of_line in
                omega arith

            not_last : j ≤ k.job → (k.job ≡ j) ⊎ (k.job ≢ j) → ⊥
            not_last g (inl q) =
                host_is_batch k.host b.batch (sym k.at ∙ (ap (slice_get s.jobs) q ∙ b.at))
            not_last g (inr d) =
                let o = lines_across s.jobs j k.job (BatchJob b.batch) (Host k.host) b.mark.line
                k.host.line r b.at k.at (omega (arith, d)) (naming_line s t j b)
                (has_here k.host.line []) in
                let here = k.of_line in
                let c = before.before in
                omega arith

        by_use : (before.last.last.kind ≡ Named) ⊎ IsReset s before.last.last →
            (before.last.last ≡ use_of i a) ⊎ (a.mark.line < before.last.last.line) →
            IsResetBetween i j
        by_use (inl q) o = absurd (not_named q)
        by_use (inr k) (inl q) = absurd (not_named (ap (λ (z : UseLine). z.kind) q))
        by_use (inr k) (inr m) = by_reset k m

    -- the first reset after a naming is effective
    record HasReset (i j : ℕ) : Type 0 where
      job : ℕ
      before : job < j
      effective : IsEffectiveReset s t i job

    effective_between : (i j : ℕ) → IsNaming s t i → IsNaming s t j → i < j → HasReset i j
    effective_between i j a b l =
        let up = k.up_to in
        let last = z.before in
        let from = k.from in
        record {
          job = k.number;
          before = omega arith;
          effective =
              record {
                earlier = omega arith;
                names = names_here s t i a;
                resets = k.passes;
                between = λ m x y. (
                  no_naming m x y (names_at s t m) refl,
                  k.none_before m (omega arith) y,
                );
              };
        }
      where
        z : IsResetBetween i j
        z = reset_between i j a b l

        k : IsFirstOf (resets_at s t) (suc i) z.job
        k =
            let c = z.after in
            first_of (resets_at s t) (z.job - suc i) (suc i) z.job (omega arith) z.resets

        no_naming : (m : ℕ) → i < m → m < k.number → (b : Bool) → names_at s t m ≡ b →
            names_at s t m ≡ false
        no_naming m x y false q = q
        no_naming m x y true q =
            let u = reset_between i m a (naming_is s t m q) x in
            let before = u.before in
            let after = u.after in
            absurd
            (false≢true (sym (k.none_before u.job (omega arith) (omega arith)) ∙ u.resets))

    -- the naming of an operation
    abbrev naming_of : (e : ℕ) (i : IsSignal s e t) → IsNaming s t i.signal.job
    naming_of e i =
        record {
          batch = i.batch;
          at = i.job_at;
          mark = i.mark;
          fence = is_fence_of s v bs hs r faultless e t i fence;
          of_semaphore = i.of_mark_chain;
        }

    -- Of two namings the first one's batch stands before the other's, ..
    job_before : (e f : ℕ) (i : IsSignal s e t) (j : IsSignal s f t) → i.mark.line < j.mark.line →
        i.signal.job < j.signal.job
    job_before e f i j l = elim (cases_lt i.signal.job j.signal.job) [
      | inl m ↦ m
      | inr m ↦ absurd (not_later m (cases_eq i.signal.job j.signal.job))
    ]
      where
        not_later : j.signal.job ≤ i.signal.job →
            (i.signal.job ≡ j.signal.job) ⊎ (i.signal.job ≢ j.signal.job) → ⊥
        not_later m (inl q) =
            let both : Some (BatchJob i.batch) ≡ Some (BatchJob j.batch) =
            sym i.job_at ∙ (ap (slice_get s.jobs) q ∙ j.job_at) in
            let batch : i.batch ≡ j.batch = cc in
            let marks : Some i.mark ≡ Some j.mark =
            sym (naming_of e i).fence ∙ (ap (λ (b : Batch). b.fence) batch ∙ (naming_of f j).fence) in
            let mark : i.mark ≡ j.mark = cc in
            let line : i.mark.line ≡ j.mark.line = ap (λ (x : Mark). x.line) mark in
            omega arith
        not_later m (inr d) =
            let o = lines_across s.jobs j.signal.job i.signal.job (BatchJob j.batch) (BatchJob i.batch)
            j.mark.line i.mark.line r j.job_at i.job_at (omega (arith, d))
            (naming_line s t j.signal.job (naming_of f j))
            (naming_line s t i.signal.job (naming_of e i)) in
            omega arith

    -- .. and its signal is sure for the other's batch.
    module _ (reach : left_over (plan_of s) ≡ []) (resettable : NoLine (IsFenceBusyAt (plan_of s))) where
      next_sure : (e f : ℕ) (i : IsSignal s e t) (j : IsSignal s f t) → i.mark.line < j.mark.line →
          IsSureForJobOf (plan_of s) e f
      next_sure e f i j l = (
        j.signal.job,
        j.of_job,
        sure_for_batch s reach (host_order s v) e h.job j.signal.job at.host j.batch at.at j.job_at
            h.before sure,
      )
        where
          h : HasReset i.signal.job j.signal.job
          h =
              effective_between i.signal.job j.signal.job (naming_of e i) (naming_of f j)
              (job_before e f i j l)

          at : IsHostAt s h.job
          at = host_resets s t h.job h.effective.resets

          sure : IsSure (plan_of s) e h.job
          sure = elim (sure_decides (plan_of s) e h.job AtEnd) [
            | inl q ↦ q
            | inr n ↦ absurd
                (resettable (line_of_job (plan_of s) h.job) (record {
                  job = h.job;
                  fence = t;
                  naming = i.signal.job;
                  effective = h.effective;
                  op = e;
                  in_chain =
                      op_chain_is s e ∙ (ap (option_map (λ y. y.semaphore)) i.at ∙ ap Some i.of_chain);
                  of_job = i.of_job;
                  unsure = n;
                  named = refl;
                }))
          ]

      rises_on : (front : List ℕ) (e : ℕ) (es : List ℕ) → chain (plan_of s) t ≡ front ++ e ∷ es →
          KeepsRising (plan_of s) e es
      rises_on front e [] q = tt
      rises_on front e (f ∷ es) q =
          let i = first_signal s v bs hs r faultless t counted front e f es q in
          let j = next_signal s v bs hs r faultless t counted front e f es q in
          let l = line_before s v bs hs r faultless t counted front e f es q in
          let a = mark_line s v bs hs r faultless e t i in
          let b = mark_line s v bs hs r faultless f t j in (
            values_rise s v bs hs r faultless t counted e f i j
                (in_turn s v bs hs r faultless t counted front e f es q),
            next_sure e f i j (omega arith),
            rises_on (front ++ e ∷ []) f es (q ∙ sym (append_assoc front (e ∷ []) (f ∷ es))),
          )

      fence_rises : initial (plan_of s) t ≡ 0 →
          RisesFrom (plan_of s) (initial (plan_of s) t) (chain (plan_of s) t)
      fence_rises z = by_chain (chain (plan_of s) t) refl
        where
          by_chain : (es : List ℕ) → chain (plan_of s) t ≡ es →
              RisesFrom (plan_of s) (initial (plan_of s) t) es
          by_chain [] q = tt
          by_chain (e ∷ es) q =
              let i = member s v bs hs r faultless t counted e
              (subst (λ (xs : List ℕ). has xs e ≡ true) (sym q) (has_here e es)) in
              let n = value_counts s v bs hs r faultless t counted e i in
              (omega arith, rises_on [] e es q)

  -- All chains but those of timelines

  none_there : (t : ℕ) → is_timeline_at s t ≡ false → slice_get s.semaphores t ≡ None →
      (es : List ℕ) → chain (plan_of s) t ≡ es → RisesFrom (plan_of s) (initial (plan_of s) t) es
  none_there t counted absent [] q = tt
  none_there t counted absent (e ∷ es) q =
      let i = member s v bs hs r faultless t counted e
      (subst (λ (xs : List ℕ). has xs e ≡ true) (sym q) (has_here e es)) in
      let l = v.signals e i.signal i.at in
      let g = get_some s.semaphores i.signal.semaphore l in
      let c : Some g.0 ≡ None =
      sym g.1 ∙ (ap (slice_get s.semaphores) i.of_chain ∙ absent) in
      absurd (cc)

  pub counted_rises : left_over (plan_of s) ≡ [] → NoLines (IsUnordered (plan_of s)) →
      NoLine (IsFenceBusyAt (plan_of s)) → (t : ℕ) → is_timeline_at s t ≡ false →
      RisesFrom (plan_of s) (initial (plan_of s) t) (chain (plan_of s) t)
  counted_rises reach unordered resettable t timeline = by_semaphore (slice_get s.semaphores t) refl
    where
      by_kind : (x : Semaphore) (k : SemaphoreKind) → slice_get s.semaphores t ≡ Some x →
          x.kind ≡ k → RisesFrom (plan_of s) (initial (plan_of s) t) (chain (plan_of s) t)
      by_kind x (Timeline n) e q =
          absurd
          (false≢true
          (sym timeline
          ∙ (ap (λ (o : Option Semaphore). option_map_or is_timeline (option_map (λ y. y.kind) o)
          false) e ∙ ap is_timeline q)))
      by_kind x Binary e q =
          binary_rises s v bs hs r faultless t (ap (option_map (λ y. y.kind)) e ∙ ap Some q) unordered
          reach
      by_kind x Fence e q =
          fence_rises t timeline
          (ap (λ (o : Option SemaphoreKind). option_map_or is_fence o false) k)
          (ap (λ (o : Option SemaphoreKind). option_map_or (λ z. not (is_timeline z)) o false) k)
          reach resettable
          (ap (λ (o : Option ℕ). option_map_or (λ n. n) o 0)
          (get-map (λ y. initial_value y.kind) s.semaphores t
          ∙ ap (option_map (λ y. initial_value y.kind)) e)
          ∙ ap initial_value q)
        where
          k : kind_of s t ≡ Some Fence
          k = ap (option_map (λ y. y.kind)) e ∙ ap Some q

      by_semaphore : (o : Option Semaphore) → slice_get s.semaphores t ≡ o →
          RisesFrom (plan_of s) (initial (plan_of s) t) (chain (plan_of s) t)
      by_semaphore None e = none_there t timeline e (chain (plan_of s) t) refl
      by_semaphore (Some x) e = by_kind x x.kind e refl
