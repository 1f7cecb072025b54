-- The chain of a binary semaphore rises in a sure order, where lowering finds no fault and no wait of
-- it may be overtaken by the next signal.
use Rattle.std.proofs.Common.{◌≡◌, ◌≢◌, ℕ, ◌+◌, ◌-◌, ◌<◌, ◌≤◌, Bool, true, false, not, ◌&&◌, eqb, ltb, leb, ◌⊎◌, List, [], ◌∷◌, ◌++◌, length, map, take, find, count_by, Option, Some, None, option_map, inl, inr, refl, sym, ap, ◌∙◌, subst, arith}
use Rattle.std.specs.List.{slice_get, list_all, list_any}
use Rattle.std.specs.Option.{option_map_or, option_to_list}
use Rattle.std.proofs.lemmas.Bool.{eqb-true, eq-eqb, false≢true, and_parts, cases_lt, cases_eq, cond-false, lt-ltb, ltb-true, le-leb, leb-true}
use Rattle.std.proofs.lemmas.List.{append_assoc}
use Rattle.vq_model.specs.declared.script.Script.{Script}
use Rattle.vq_model.specs.declared.script.SemaphoreKind.{SemaphoreKind}
use Rattle.vq_model.specs.declared.script.SemaphoreKind.TheVariants.{Binary}
use Rattle.vq_model.specs.declared.script.Mark.{Mark}
use Rattle.vq_model.specs.declared.script.Batch.{Batch}
use Rattle.vq_model.specs.declared.script.Job.{Job}
use Rattle.vq_model.specs.declared.script.Job.TheVariants.{Batch as BatchJob}
use Rattle.vq_model.specs.declared.plan.Need.{Need}
use Rattle.vq_model.specs.Context.{is_timeline, is_fence}
use Rattle.vq_model.specs.Plan.{chain, initial, value, job_of, chain_of, line_of_op, needs, waits_for_any, resolver}
use Rattle.vq_ground.specs.Lists.{has, AreRising}
use Rattle.vq_model.specs.Signals.{initial_value, Signaling, all_signals, kind_of, is_timeline_at, is_counted_at, signals_semaphore}
use Rattle.vq_model.specs.Lowering.{plan_of, of_wait, plan_job}
use Rattle.vq_model.specs.LoweringFaults.{lowering_fault, uses, Use, Waited, Signaled, UseLine, SignaledTwice}
use Rattle.vq_model.specs.FaultyUses.{LastIs}
use Rattle.vq_model.specs.ValidScripts.{IsValid, IsValidMark, IsValidBatch, HasValidBatches, HasValidSteps, HasRisingLines, job_lines, is_fence_at}
use Rattle.vq_model.specs.SureOrder.{RisesFrom}
use Rattle.vq_model.specs.Edges.{AtEnd}
use Rattle.vq_model.specs.Machine.{is_reached, are_reached, can_start}
use Rattle.vq_model.specs.SlowRun.{is_ready, payload_after, left_over}
use Rattle.vq_model.specs.HappensBefore.{HappensBefore}
use Rattle.vq_model.specs.Checks.{IsUnordered, IsNextSignal, NoLines, unawaited}
use Rattle.vq_model.specs.WellFormed.{IsWellFormed, AreInOrder}
use Rattle.vq_model.specs.Lanes.{HasLinesInOrder}
use Rattle.vq_ground.proofs.Lists.{has_here, has_there, has_cases, has-append_cases, has-append_right, has-append_left}
use Rattle.vq_plan_laws.proofs.Cited.{well_formed, op_chain_is, part_is, op_value_is, count_ops, count_jobs, lines_in_order, counted_value, no_fault_found}
use Rattle.vq_ground.proofs.Gets.{get-map, get_within, get-append, get-append_left, all_at, all_pass_at}
use Rattle.vq_ground.proofs.Options.{some_of}
use Rattle.vq_order_laws.proofs.RowLaws.{order_from}
use Rattle.vq_order_laws.proofs.Decides.{before_decides}
use Rattle.vq_order_laws.proofs.EdgeReasons.{need_awaits}
use Rattle.vq_order_laws.proofs.PassedOn.{IsPassedOn, ArePassedOn, passed_on_rises}
use Rattle.vq_order_laws.proofs.UsesInOrder.{StandsIn, uses_rise}
use Rattle.vq_order_laws.proofs.UseKinds.{IsUse, use_is, reset_fence, signal_is_use}
use Rattle.vq_order_laws.proofs.LastUses.{HasLastBefore, last_before}
use Rattle.vq_order_laws.proofs.JobLines.{lines_across, waits_first, wait_line, signal_line, job_rises, mark_lines}
use Rattle.vq_order_laws.proofs.ChainSignals.{count_take_more, count_to, IsSignal, signal_is, line_among, mark_has, only, find_here, order_across}

-- Where lowering finds no fault, ..
module _ (s : Script) (v : IsValid s) (bs : HasValidBatches s) (hs : HasValidSteps s)
    (r : HasRisingLines s) (faultless : lowering_fault s ≡ None) where
  lines : HasLinesInOrder (plan_of s)
  lines = lines_in_order s r

  formed : IsWellFormed (plan_of s)
  formed = well_formed s v

  use_lines : AreRising (map (λ (z : UseLine). z.line) (uses s))
  use_lines = uses_rise s r

  within : (e t : ℕ) → IsSignal s e t → e < length (plan_of s).ops
  within e t i =
      let l = get_within (all_signals s) e i.signal i.at in let n = count_ops s in omega arith

  module _ (t : ℕ) (counted : is_timeline_at s t ≡ false) where
    -- the value of a signal is the number of those before it, and one more
    pub value_counts : (e : ℕ) → IsSignal s e t →
        value (plan_of s) e ≡ count_by (signals_semaphore t) (take e (all_signals s)) + 1
    value_counts e i =
        op_value_is s e
        ∙ (counted_value s e i.signal i.at
        (ap (is_timeline_at s) i.of_chain ∙ counted)
        ∙ ap (λ (k : ℕ). count_by (signals_semaphore k) (take e (all_signals s)) + 1) i.of_chain)

    pub values_rise : (e f : ℕ) → IsSignal s e t → IsSignal s f t → e < f →
        value (plan_of s) e < value (plan_of s) f
    values_rise e f i j l =
        let a = value_counts e i in
        let b = value_counts f j in
        let c = count_take_more (signals_semaphore t) (all_signals s) e f i.signal i.at
        (eq-eqb i.signal.semaphore t i.of_chain) l in
        omega arith

    -- what stands earlier in the chain has a lesser number
    pub numbers_rise : (e f : ℕ) → IsSignal s e t → IsSignal s f t →
        (value (plan_of s) e < value (plan_of s) f)
        ⊎ ((value (plan_of s) e ≡ value (plan_of s) f) × (e < f)) → e < f
    numbers_rise e f i j (inr q) = q.1
    numbers_rise e f i j (inl l) = elim (cases_lt e f) [
      | inl m ↦ m
      | inr m ↦ by_equal m (cases_eq f e)
    ]
      where
        by_equal : f ≤ e → (f ≡ e) ⊎ (f ≢ e) → e < f
        by_equal m (inl q) =
            let a : value (plan_of s) f ≡ value (plan_of s) e = ap (value (plan_of s)) q in
            absurd (omega arith)
        by_equal m (inr n) =
            let k : f < e = omega (arith, n) in
            let a = values_rise f e j i k in
            absurd (omega arith)

    pub member : (e : ℕ) → has (chain (plan_of s) t) e ≡ true → IsSignal s e t
    member e h = signal_is s hs e t (formed.of_chain e t h) counted

    -- two operations that follow one another in the chain
    module _ (front : List ℕ) (e f : ℕ) (back : List ℕ)
        (split : chain (plan_of s) t ≡ front ++ e ∷ f ∷ back) where
      ordered : AreInOrder (plan_of s) (front ++ e ∷ f ∷ back)
      ordered = subst (AreInOrder (plan_of s)) split (formed.chain_order t)

      in_chain : (g : ℕ) → has (front ++ e ∷ f ∷ back) g ≡ true → IsSignal s g t
      in_chain g h = member g (subst (λ (xs : List ℕ). has xs g ≡ true) (sym split) h)

      pub first_signal : IsSignal s e t
      first_signal = in_chain e (has-append_right front (e ∷ f ∷ back) e (has_here e (f ∷ back)))

      pub next_signal : IsSignal s f t
      next_signal =
          in_chain f
          (has-append_right front (e ∷ f ∷ back) f (has_there e (f ∷ back) f (has_here f back)))

      pub in_turn : e < f
      in_turn =
          numbers_rise e f first_signal next_signal
          ((order_from (plan_of s) front (e ∷ f ∷ back) ordered).0 f (has_here f back))

      -- no operation of the chain is between them
      none_between : (g : ℕ) → chain_of (plan_of s) g ≡ Some t → e < g → f ≤ g
      none_between g c l =
          by_part
          (has-append_cases front (e ∷ f ∷ back) g
          (subst (λ (xs : List ℕ). has xs g ≡ true) split (formed.in_chain g t c)))
        where
          i : IsSignal s g t
          i = signal_is s hs g t c counted

          after_next : (has back g ≡ true) → f ≤ g
          after_next h =
              let m = numbers_rise f g next_signal i
              ((order_from (plan_of s) (front ++ e ∷ []) (f ∷ back)
              (subst (AreInOrder (plan_of s)) (sym (append_assoc front (e ∷ []) (f ∷ back))) ordered)).0
              g h) in
              omega arith

          by_part : (has front g ≡ true) ⊎ (has (e ∷ f ∷ back) g ≡ true) → f ≤ g
          by_part (inl h) =
              let m = numbers_rise g e i first_signal
              (order_across (plan_of s) front (e ∷ f ∷ back) g e ordered h (has_here e (f ∷ back))) in
              absurd (omega arith)
          by_part (inr h) = elim (has_cases e (f ∷ back) g h) [
            | inl q ↦ absurd (omega arith)
            | inr m ↦ elim (has_cases f back g m) [ inl q ↦ omega arith | inr n ↦ after_next n ]
          ]

      pub line_before : line_of_op (plan_of s) e < line_of_op (plan_of s) f
      line_before = lines.ops e f in_turn (within f t next_signal)

  -- Batches and their marks

  valid_batch : (i : Batch) (j : ℕ) → slice_get s.jobs j ≡ Some (BatchJob i) → IsValidBatch s i
  valid_batch b j e = bs j b e

  pub wait_kind : (b : Batch) (j k : ℕ) (m : Mark) → slice_get s.jobs j ≡ Some (BatchJob b) →
      slice_get b.waits k ≡ Some m → is_fence_at s m.semaphore ≡ false
  wait_kind b j k m e h = (all_at (IsValidMark s) b.waits k m (bs j b e).waits h).kind

  pub signal_kind : (b : Batch) (j k : ℕ) (m : Mark) → slice_get s.jobs j ≡ Some (BatchJob b) →
      slice_get b.signals k ≡ Some m → is_fence_at s m.semaphore ≡ false
  signal_kind b j k m e h = (all_at (IsValidMark s) b.signals k m (bs j b e).signals h).kind

  fence_kind : (b : Batch) (j k : ℕ) (m : Mark) → slice_get s.jobs j ≡ Some (BatchJob b) →
      slice_get (option_to_list b.fence) k ≡ Some m → is_fence_at s m.semaphore ≡ true
  fence_kind b j k m e h = ((bs j b e).fence m (only b.fence k m h)).kind

  -- a signal of a chain that is no fence's stands among the signals of its batch, ..
  among_signals : (e t : ℕ) (i : IsSignal s e t) → is_fence_at s t ≡ false →
      slice_get i.batch.signals i.place ≡ Some i.mark
  among_signals e t i apart = elim (cases_lt i.place (length i.batch.signals)) [
    | inl l ↦ sym (get-append_left i.batch.signals (option_to_list i.batch.fence) i.place l) ∙ i.among
    | inr l ↦
        (let k : ℕ = i.place - length i.batch.signals in
        let q : length i.batch.signals + k ≡ i.place = omega arith in
        let m = sym (get-append i.batch.signals (option_to_list i.batch.fence) k)
        ∙ (ap (slice_get (i.batch.signals ++ option_to_list i.batch.fence)) q ∙ i.among) in
        let y = fence_kind i.batch i.signal.job k i.mark i.job_at m in
        absurd (false≢true (sym apart ∙ (ap (is_fence_at s) (sym i.of_mark_chain) ∙ y))))
  ]

  -- .. and one of a fence's chain is the fence of its batch
  pub is_fence_of : (e t : ℕ) (i : IsSignal s e t) → is_fence_at s t ≡ true →
      i.batch.fence ≡ Some i.mark
  is_fence_of e t i fence = elim (cases_lt i.place (length i.batch.signals)) [
    | inl l ↦
        (let m = sym (get-append_left i.batch.signals (option_to_list i.batch.fence) i.place l)
        ∙ i.among in
        let n = signal_kind i.batch i.signal.job i.place i.mark i.job_at m in
        absurd (false≢true (sym n ∙ (ap (is_fence_at s) i.of_mark_chain ∙ fence))))
    | inr l ↦
        (let k : ℕ = i.place - length i.batch.signals in
        let q : length i.batch.signals + k ≡ i.place = omega arith in
        only i.batch.fence k i.mark
        (sym (get-append i.batch.signals (option_to_list i.batch.fence) k)
        ∙ (ap (slice_get (i.batch.signals ++ option_to_list i.batch.fence)) q ∙ i.among)))
  ]

  -- the line of an operation
  pub mark_line : (e t : ℕ) (i : IsSignal s e t) → line_of_op (plan_of s) e ≡ i.mark.line
  mark_line e t i = i.line_is ∙ i.of_line

  -- its use
  abbrev use_of : (e t : ℕ) → IsSignal s e t → Use → UseLine
  use_of e t i kind = record { line = i.mark.line; semaphore = i.mark.semaphore; kind = kind }

  -- Binary semaphores

  -- A wait of a binary semaphore, by its line.
  record IsWait (t line : ℕ) : Type 0 where
    job : ℕ
    batch : Batch
    at : slice_get s.jobs job ≡ Some (BatchJob batch)
    place : ℕ
    mark : Mark
    is : slice_get batch.waits place ≡ Some mark
    of_line : line ≡ mark.line
    of_semaphore : mark.semaphore ≡ t

  module _ (t : ℕ) (binary : kind_of s t ≡ Some Binary) where
    counted : is_timeline_at s t ≡ false
    counted = ap (λ (o : Option SemaphoreKind). option_map_or is_timeline o false) binary

    apart : is_fence_at s t ≡ false
    apart = ap (λ (o : Option SemaphoreKind). option_map_or is_fence o false) binary

    used : is_counted_at s t ≡ true
    used = ap (λ (o : Option SemaphoreKind). option_map_or (λ k. not (is_timeline k)) o false) binary

    signal_use : (e : ℕ) (i : IsSignal s e t) → StandsIn (uses s) (use_of e t i Signaled)
    signal_use e i =
        signal_is_use s i.signal.job i.batch i.place i.mark i.job_at (among_signals e t i apart)
        (ap (is_counted_at s) i.of_mark_chain ∙ used)

    -- each use of it signals it or waits for it
    binary_use : (x : UseLine) → StandsIn (uses s) x → x.semaphore ≡ t →
        (x.kind ≡ Signaled) ⊎ ((x.kind ≡ Waited) × IsWait t x.line)
    binary_use x i e = elim (use_is s x i) [
      | inl u ↦ by_among u
      | inr k ↦ absurd (false≢true (sym apart ∙ (ap (is_fence_at s) (sym e) ∙ reset_fence s hs x k)))
    ]
      where
        by_among : IsUse s x → (x.kind ≡ Signaled) ⊎ ((x.kind ≡ Waited) × IsWait t x.line)
        by_among u = elim u.among [
          | inl k ↦ inr (
            k.of_kind,
            record {
              job = u.job;
              batch = u.batch;
              at = u.at;
              place = k.place;
              mark = k.mark;
              is = k.is;
              of_line = k.of_line;
              of_semaphore = sym k.of_semaphore ∙ e;
            },
          )
          | inr o ↦ elim o [
            | inl k ↦ inl k.of_kind
            | inr k ↦ absurd (false≢true (sym apart ∙ (ap (is_fence_at s) (sym e ∙ k.of_semaphore)
                ∙ fence_kind u.batch u.job k.place k.mark u.at k.is)))
          ]
        ]

    -- Between two signals that follow one another stands a wait.
    record IsBetween (e f : ℕ) : Type 0 where
      line : ℕ
      wait : IsWait t line
      after : line_of_op (plan_of s) e < line
      before : line < line_of_op (plan_of s) f

    between : (e f : ℕ) (i : IsSignal s e t) (j : IsSignal s f t) →
        line_of_op (plan_of s) e < line_of_op (plan_of s) f → IsBetween e f
    between e f i j l =
        by_use
        (binary_use before.last.last before.stands (before.last.of_semaphore ∙ i.of_mark_chain))
        before.after
      where
        a : line_of_op (plan_of s) e ≡ i.mark.line
        a = mark_line e t i

        b : line_of_op (plan_of s) f ≡ j.mark.line
        b = mark_line f t j

        x : StandsIn (uses s) (use_of f t j Signaled)
        x = signal_use f j

        before : HasLastBefore s x.front (use_of f t j Signaled) (use_of e t i Signaled)
        before =
            last_before s (use_of f t j Signaled) (use_of e t i Signaled) x.front x.back use_lines
            x.whole (signal_use e i) (omega arith)

        same : i.mark.semaphore ≡ j.mark.semaphore
        same = i.of_mark_chain ∙ sym j.of_mark_chain

        not_signaled : before.last.last.kind ≡ Signaled → ⊥
        not_signaled q =
            no_fault_found s faultless x.front x.back (use_of f t j Signaled) SignaledTwice x.whole (
              refl,
              subst (λ (k : Use). LastIs x.front j.mark.semaphore k)
                  (sym before.last.of_kind ∙ q)
                  (subst (λ (z : ℕ). LastIs x.front z before.kind) same before.last),
            )

        by_use : (before.last.last.kind ≡ Signaled)
            ⊎ ((before.last.last.kind ≡ Waited) × IsWait t before.last.last.line) →
            (before.last.last ≡ use_of e t i Signaled)
            ⊎ (i.mark.line < before.last.last.line) → IsBetween e f
        by_use (inl q) o = absurd (not_signaled q)
        by_use (inr q) (inl r) = absurd (not_signaled (ap (λ (z : UseLine). z.kind) r))
        by_use (inr q) (inr l) =
            let m = before.before in
            record {
              line = before.last.last.line;
              wait = q.1;
              after = omega arith;
              before = omega arith;
            }

    -- the wait asks for the value of the first of the two
    asks_value : (front : List ℕ) (e f : ℕ) (back : List ℕ)
        (split : chain (plan_of s) t ≡ front ++ e ∷ f ∷ back) → (x : IsBetween e f) →
        (of_wait s x.wait.job x.wait.mark).value ≡ value (plan_of s) e
    asks_value front e f back split x =
        cond-false (is_timeline_at s m.semaphore) m.value (count_by asked (all_signals s))
        (ap (is_timeline_at s) x.wait.of_semaphore ∙ counted)
        ∙ (count_to asked (signals_semaphore t) (all_signals s) e i.signal i.at
        (eq-eqb i.signal.semaphore t i.of_chain) same none
        ∙ sym (value_counts t counted e i))
      where
        m : Mark
        m = x.wait.mark

        a : ℕ
        a = x.wait.job

        asked : Signaling → Bool
        asked y = eqb y.semaphore x.wait.mark.semaphore && ltb y.job x.wait.job

        i : IsSignal s e t
        i = first_signal t counted front e f back split

        rising : AreRising (job_lines (BatchJob x.wait.batch))
        rising = job_rises s.jobs a (BatchJob x.wait.batch) r x.wait.at

        wait_here : has (mark_lines x.wait.batch.waits) x.line ≡ true
        wait_here =
            subst (λ (l : ℕ). has (mark_lines x.wait.batch.waits) l ≡ true) (sym x.wait.of_line)
            (mark_has x.wait.batch.waits x.wait.place m x.wait.is)

        -- a signal of the chain stands in an earlier job exactly where its line does
        line_is_signal : (k : ℕ) (y : IsSignal s k t) → line_of_op (plan_of s) k ≡ y.signal.line
        line_is_signal k y = y.line_is

        earlier_job : (k : ℕ) (y : IsSignal s k t) → line_of_op (plan_of s) k < x.line →
            y.signal.job < a
        earlier_job k y l = elim (cases_lt y.signal.job a) [
          | inl n ↦ n
          | inr n ↦ absurd (not_later n (cases_eq y.signal.job a))
        ]
          where
            here : line_of_op (plan_of s) k ≡ y.signal.line
            here = y.line_is

            not_later : a ≤ y.signal.job → (y.signal.job ≡ a) ⊎ (y.signal.job ≢ a) → ⊥
            not_later n (inl q) =
                let same_job : Some (BatchJob x.wait.batch) ≡ Some (BatchJob y.batch) =
                sym x.wait.at ∙ (ap (slice_get s.jobs) (sym q) ∙ y.job_at) in
                let b : x.wait.batch ≡ y.batch = cc in
                let o = waits_first x.wait.batch x.line y.signal.line rising wait_here
                (subst (λ (z : Batch). has (mark_lines (z.signals ++ option_to_list z.fence))
                y.signal.line ≡ true) (sym b) (line_among s k t y)) in
                omega arith
            not_later n (inr d) =
                let o = lines_across s.jobs a y.signal.job (BatchJob x.wait.batch) (BatchJob y.batch)
                x.line y.signal.line r x.wait.at y.job_at (omega (arith, d))
                (wait_line x.wait.batch x.line wait_here)
                (signal_line y.batch y.signal.line (line_among s k t y)) in
                omega arith

        later_job : (k : ℕ) (y : IsSignal s k t) → x.line < line_of_op (plan_of s) k →
            a ≤ y.signal.job
        later_job k y l = elim (cases_lt y.signal.job a) [
          | inl n ↦
              (let here : line_of_op (plan_of s) k ≡ y.signal.line = y.line_is in
              let o = lines_across s.jobs y.signal.job a (BatchJob y.batch) (BatchJob x.wait.batch)
              y.signal.line x.line r y.job_at x.wait.at n
              (signal_line y.batch y.signal.line (line_among s k t y))
              (wait_line x.wait.batch x.line wait_here) in
              absurd (omega arith))
          | inr n ↦ n
        ]

        of_chain : (k : ℕ) (y : Signaling) → slice_get (all_signals s) k ≡ Some y →
            y.semaphore ≡ t → chain_of (plan_of s) k ≡ Some t
        of_chain k y h q =
            op_chain_is s k ∙ (ap (option_map (λ (z : Signaling). z.semaphore)) h ∙ ap Some q)

        same_signal : (k : ℕ) (y : Signaling) (z : IsSignal s k t) →
            slice_get (all_signals s) k ≡ Some y → z.signal ≡ y
        same_signal k y z h = let q : Some z.signal ≡ Some y = sym z.at ∙ h in cc

        same : (k : ℕ) (y : Signaling) → slice_get (all_signals s) k ≡ Some y → k ≤ e →
            asked y ≡ signals_semaphore t y
        same k y h l = by_test (eqb y.semaphore t) refl
          where
            by_test : (b : Bool) → eqb y.semaphore t ≡ b → asked y ≡ b
            by_test false q =
                ap (λ (z : ℕ). eqb y.semaphore z && ltb y.job a) x.wait.of_semaphore
                ∙ ap (λ (b : Bool). b && ltb y.job a) q
            by_test true q =
                let c = of_chain k y h (eqb-true y.semaphore t q) in
                let z = signal_is s hs k t c counted in
                let first = before_or_at k z l in
                let g = x.after in
                let n = earlier_job k z (omega arith) in
                let job : z.signal.job ≡ y.job =
                ap (λ (u : Signaling). u.job) (same_signal k y z h) in
                ap (λ (u : ℕ). eqb y.semaphore u && ltb y.job a) x.wait.of_semaphore
                ∙ (ap (λ (b : Bool). b && ltb y.job a) q ∙ lt-ltb y.job a (omega arith))
              where
                before_or_at : (k : ℕ) → IsSignal s k t → k ≤ e →
                    line_of_op (plan_of s) k ≤ line_of_op (plan_of s) e
                before_or_at k z l = elim (cases_eq k e) [
                  | inl u ↦
                      (let g : line_of_op (plan_of s) k ≡ line_of_op (plan_of s) e =
                      ap (line_of_op (plan_of s)) u in omega arith)
                  | inr d ↦
                      (let g = lines.ops k e (omega (arith, d)) (within e t i) in omega arith)
                ]

        none : (k : ℕ) (y : Signaling) → slice_get (all_signals s) k ≡ Some y → e < k →
            asked y ≡ false
        none k y h l = by_test (eqb y.semaphore t) refl
          where
            by_test : (b : Bool) → eqb y.semaphore t ≡ b → asked y ≡ false
            by_test false q =
                ap (λ (z : ℕ). eqb y.semaphore z && ltb y.job a) x.wait.of_semaphore
                ∙ ap (λ (b : Bool). b && ltb y.job a) q
            by_test true q =
                let c = of_chain k y h (eqb-true y.semaphore t q) in
                let z = signal_is s hs k t c counted in
                let g = none_between t counted front e f back split k c l in
                let o = at_or_after k z g in
                let b = x.before in
                let n = later_job k z (omega arith) in
                let job : z.signal.job ≡ y.job =
                ap (λ (u : Signaling). u.job) (same_signal k y z h) in
                ap (λ (u : ℕ). eqb y.semaphore u && ltb y.job a) x.wait.of_semaphore
                ∙ (ap (λ (b : Bool). b && ltb y.job a) q ∙ not_less y.job a (omega arith))
              where
                not_less : (u v : ℕ) → v ≤ u → ltb u v ≡ false
                not_less u v l = by_case (ltb u v) refl
                  where
                    by_case : (b : Bool) → ltb u v ≡ b → ltb u v ≡ false
                    by_case false q = q
                    by_case true q = let m = ltb-true u v q in absurd (omega arith)

                at_or_after : (k : ℕ) → IsSignal s k t → f ≤ k →
                    line_of_op (plan_of s) f ≤ line_of_op (plan_of s) k
                at_or_after k z l = elim (cases_eq f k) [
                  | inl u ↦
                      (let g : line_of_op (plan_of s) f ≡ line_of_op (plan_of s) k =
                      ap (line_of_op (plan_of s)) u in omega arith)
                  | inr d ↦
                      (let g = lines.ops f k (omega (arith, d)) (within k t z) in omega arith)
                ]

    -- the initial value
    starts_at_zero : initial (plan_of s) t ≡ 0
    starts_at_zero =
        let x = some_of (λ y. y.kind) (slice_get s.semaphores t) Binary binary in
        ap (λ (o : Option ℕ). option_map_or (λ n. n) o 0)
        (get-map (λ y. initial_value y.kind) s.semaphores t
        ∙ ap (option_map (λ y. initial_value y.kind)) x.1)
        ∙ ap initial_value x.2

    above_zero : (e : ℕ) → IsSignal s e t → initial (plan_of s) t < value (plan_of s) e
    above_zero e i =
        let z = starts_at_zero in let n = value_counts t counted e i in omega arith

    module _ (unordered : NoLines (IsUnordered (plan_of s))) (front : List ℕ) (e f : ℕ)
        (back : List ℕ) (split : chain (plan_of s) t ≡ front ++ e ∷ f ∷ back) where
      now : IsSignal s e t
      now = first_signal t counted front e f back split

      next : IsSignal s f t
      next = next_signal t counted front e f back split

      x : IsBetween e f
      x = between e f now next (line_before t counted front e f back split)

      a : ℕ
      a = x.wait.job

      n : Need
      n = of_wait s x.wait.job x.wait.mark

      need_at : slice_get (needs (plan_of s) x.wait.job) x.wait.place ≡ Some (of_wait s x.wait.job x.wait.mark)
      need_at =
          ap (λ (ns : List Need). slice_get ns x.wait.place)
          (part_is (λ z. z.needs) [] s x.wait.job
          ∙ ap (λ (o : Option Job). option_map_or (λ job. (plan_job s (x.wait.job, job)).needs) o [])
          x.wait.at)
          ∙ (get-map (of_wait s x.wait.job) x.wait.batch.waits x.wait.place
          ∙ ap (option_map (of_wait s x.wait.job)) x.wait.is)

      waits_for_all : waits_for_any (plan_of s) x.wait.job ≡ false
      waits_for_all =
          part_is (λ z. z.any) false s x.wait.job
          ∙ ap (λ (o : Option Job). option_map_or (λ job. (plan_job s (x.wait.job, job)).any) o false)
          x.wait.at

      asks : (of_wait s x.wait.job x.wait.mark).value ≡ value (plan_of s) e
      asks = asks_value front e f back split x

      exists : x.wait.job < length (plan_of s).jobs
      exists =
          let l = get_within s.jobs x.wait.job (BatchJob x.wait.batch) x.wait.at in
          let c = count_jobs s in
          omega arith

      is_next : IsNextSignal (plan_of s) x.wait.mark.semaphore x.wait.mark.line f
      is_next =
          let b = x.before in
          let l = x.wait.of_line in
          record {
            in_chain =
                op_chain_is s f
                ∙ (ap (option_map (λ (y : Signaling). y.semaphore)) next.at
                ∙ ap Some (next.of_chain ∙ sym x.wait.of_semaphore));
            later = omega arith;
            first = λ g c m. later_line g (c ∙ ap Some x.wait.of_semaphore) m;
          }
        where
          later_line : (g : ℕ) → chain_of (plan_of s) g ≡ Some t →
              x.wait.mark.line < line_of_op (plan_of s) g →
              line_of_op (plan_of s) f ≤ line_of_op (plan_of s) g
          later_line g c m = elim (cases_lt e g) [
            | inl l ↦
                (let k = none_between t counted front e f back split g c l in
                by_equal (cases_eq f g) k)
            | inr l ↦ absurd (not_earlier (cases_eq g e) l)
          ]
            where
              i : IsSignal s g t
              i = signal_is s hs g t c counted

              by_equal : (f ≡ g) ⊎ (f ≢ g) → f ≤ g →
                  line_of_op (plan_of s) f ≤ line_of_op (plan_of s) g
              by_equal (inl q) k =
                  let u : line_of_op (plan_of s) f ≡ line_of_op (plan_of s) g =
                  ap (line_of_op (plan_of s)) q in omega arith
              by_equal (inr d) k =
                  let u = lines.ops f g (omega (arith, d)) (within g t i) in omega arith

              not_earlier : (g ≡ e) ⊎ (g ≢ e) → g ≤ e → ⊥
              not_earlier (inl q) l =
                  let u : line_of_op (plan_of s) g ≡ line_of_op (plan_of s) e =
                  ap (line_of_op (plan_of s)) q in
                  let o = x.wait.of_line in
                  let b = x.after in
                  omega arith
              not_earlier (inr d) l =
                  let u = lines.ops g e (omega (arith, d)) (within e t now) in
                  let o = x.wait.of_line in
                  let b = x.after in
                  omega arith

      follows : (x.wait.job ≡ next.signal.job) ⊎ HappensBefore (plan_of s) x.wait.job next.signal.job
      follows = elim (cases_eq x.wait.job next.signal.job) [
        | inl q ↦ inl q
        | inr d ↦ by_order d (before_decides (plan_of s) x.wait.job next.signal.job AtEnd)
      ]
        where
          by_order : x.wait.job ≢ next.signal.job →
              HappensBefore (plan_of s) x.wait.job next.signal.job
              ⊎ (HappensBefore (plan_of s) x.wait.job next.signal.job → ⊥) →
              (x.wait.job ≡ next.signal.job)
              ⊎ HappensBefore (plan_of s) x.wait.job next.signal.job
          by_order d (inl h) = inr h
          by_order d (inr not) =
              absurd
              (unordered x.wait.mark.line (line_of_op (plan_of s) f)
              (unawaited (of_wait s x.wait.job x.wait.mark) f x.wait.job next.signal.job x.wait.place
              need_at (ap (kind_of s) x.wait.of_semaphore ∙ binary) is_next next.of_job d not))

      resolves : resolver (plan_of s) x.wait.mark.semaphore
          (of_wait s x.wait.job x.wait.mark).value ≡ Some e
      resolves =
          (λ i. resolver (plan_of s) (x.wait.of_semaphore i) (asks i))
          ∙ (ap (find (λ g. leb (value (plan_of s) e) (value (plan_of s) g))) split
          ∙ find_here (λ g. leb (value (plan_of s) e) (value (plan_of s) g)) front e (f ∷ back) fails
          (le-leb (value (plan_of s) e) (value (plan_of s) e) (omega arith)))
        where
          fails : (g : ℕ) → has front g ≡ true → leb (value (plan_of s) e) (value (plan_of s) g) ≡ false
          fails g h = by_case (leb (value (plan_of s) e) (value (plan_of s) g)) refl
            where
              i : IsSignal s g t
              i =
                  in_chain t counted front e f back split g
                  (has-append_left front (e ∷ f ∷ back) g h)

              lesser : g < e
              lesser =
                  numbers_rise t counted g e i now
                  (order_across (plan_of s) front (e ∷ f ∷ back) g e
                  (ordered t counted front e f back split) h (has_here e (f ∷ back)))

              by_case : (b : Bool) → leb (value (plan_of s) e) (value (plan_of s) g) ≡ b → b ≡ false
              by_case false q = refl
              by_case true q =
                  let m = leb-true (value (plan_of s) e) (value (plan_of s) g) q in
                  let r = values_rise t counted g e i now lesser in
                  absurd (omega arith)

      reached : (done : List ℕ) → is_ready (plan_of s) done x.wait.job ≡ true →
          value (plan_of s) e ≤ payload_after (plan_of s) done t
      reached done ready =
          let both = and_parts
          (not (has done x.wait.job)
          && can_start (plan_of s) (has done) (payload_after (plan_of s) done) x.wait.job)
          (are_reached (plan_of s) (payload_after (plan_of s) done) x.wait.job AtEnd) ready in
          let all = sym (cond-false (waits_for_any (plan_of s) x.wait.job)
          (list_any (is_reached (payload_after (plan_of s) done)) (needs (plan_of s) x.wait.job))
          (list_all (is_reached (payload_after (plan_of s) done)) (needs (plan_of s) x.wait.job))
          waits_for_all) ∙ both.1 in
          let one = all_pass_at (is_reached (payload_after (plan_of s) done))
          (needs (plan_of s) x.wait.job) x.wait.place (of_wait s x.wait.job x.wait.mark) all need_at in
          let l = leb-true (of_wait s x.wait.job x.wait.mark).value
          (payload_after (plan_of s) done x.wait.mark.semaphore) one in
          let c = ap (payload_after (plan_of s) done) x.wait.of_semaphore in
          let k = asks in
          omega arith

      passed_on_to : IsPassedOn (plan_of s) t e f
      passed_on_to =
          record {
            rises = values_rise t counted e f now next (in_turn t counted front e f back split);
            waiter = x.wait.job;
            exists = exists;
            awaits =
                need_awaits (plan_of s) 0 x.wait.job AtEnd (of_wait s x.wait.job x.wait.mark)
                x.wait.place e waits_for_all need_at refl above resolves;
            reached = reached;
            next_job = next.signal.job;
            of_next = next.of_job;
            follows = follows;
          }
        where
          above : initial (plan_of s) x.wait.mark.semaphore < (of_wait s x.wait.job x.wait.mark).value
          above =
              let c = ap (initial (plan_of s)) x.wait.of_semaphore in
              let k = asks in
              let z = above_zero e now in
              omega arith

    module _ (unordered : NoLines (IsUnordered (plan_of s))) where
      all_passed_on : (front es : List ℕ) → chain (plan_of s) t ≡ front ++ es →
          ArePassedOn (plan_of s) t es
      all_passed_on front [] q = tt
      all_passed_on front (e ∷ []) q = tt
      all_passed_on front (e ∷ f ∷ es) q = (
        passed_on_to unordered front e f es q,
        all_passed_on (front ++ e ∷ []) (f ∷ es) (q ∙ sym (append_assoc front (e ∷ []) (f ∷ es))),
      )

      pub binary_rises : left_over (plan_of s) ≡ [] →
          RisesFrom (plan_of s) (initial (plan_of s) t) (chain (plan_of s) t)
      binary_rises reach =
          passed_on_rises (plan_of s) t reach jobs_exist (all_passed_on [] (chain (plan_of s) t) refl)
          (λ e h. above_zero e (member t counted e h))
        where
          jobs_exist : (e : ℕ) → has (chain (plan_of s) t) e ≡ true →
              (j : ℕ) × (job_of (plan_of s) e ≡ Some j) × (j < length (plan_of s).jobs)
          jobs_exist e h =
              let i = member t counted e h in
              let l = get_within s.jobs i.signal.job (BatchJob i.batch) i.job_at in
              let c = count_jobs s in
              (i.signal.job, i.of_job, omega arith)
