-- The jobs of a compiled plan: those of the threads, and those of the rest.
use Rattle.std.proofs.Common.{◌≡◌, ℕ, ◌+◌, ◌-◌, ◌<◌, ◌≤◌, ◌⊎◌, inl, inr, Bool, true, false, ◌&&◌, cond, List, [], ◌∷◌}
use Rattle.std.proofs.Common.{◌++◌, map, length, take, fold, filter, count_by, Option, Some, None, option_map, refl}
use Rattle.std.proofs.Common.{sym, ap, ◌∙◌, zero, suc, arith, length-append}
use Rattle.std.specs.Prelude.{◌==◌, nat_le, nat_lt}
use Rattle.std.specs.List.{slice_get, list_all, list_any, range_with_len}
use Rattle.std.specs.Option.{option_map_or}
use Rattle.std.proofs.lemmas.List.Sums.{fold-append}
use Rattle.std.proofs.lemmas.List.Elements.{filter-append}
use Rattle.std.proofs.lemmas.Bool.{false≢true, cases_lt, cond-true, eqb-true, eq-eqb, ne_eqb}
use Rattle.vq_model.specs.declared.plan.Lane.TheVariants.{Host as HostLane, Queue as QueueLane}
use Rattle.vq_model.specs.declared.plan.Need.{Need}
use Rattle.vq_model.specs.declared.plan.PlanJob.{PlanJob}
use Rattle.vq_model.specs.declared.plan.Question.TheVariants.{Silent}
use Rattle.vq_model.specs.declared.script.HostStep.{HostStep}
use Rattle.vq_model.specs.declared.script.HostStep.TheVariants.{FenceWait, FencePoll}
use Rattle.vq_model.specs.declared.script.Job.{Job}
use Rattle.vq_model.specs.declared.script.Job.TheVariants.{Host, Batch as BatchJob}
use Rattle.vq_model.specs.declared.script.Mark.{Mark}
use Rattle.vq_model.specs.declared.script.Pair.{Pair}
use Rattle.vq_model.specs.declared.script.Script.{Script}
use Rattle.vq_model.specs.Edges.{At, AtEnd, needs_at}
use Rattle.vq_model.specs.Lowering.{plan_of, plan_job, job_ops, commands_in, effective_resets, fence_value, of_wait}
use Rattle.vq_model.specs.Lowering.{step_needs, step_asked}
use Rattle.vq_model.specs.Machine.{are_reached, is_reached}
use Rattle.vq_model.specs.Plan.{Plan, of_job, previous, host_before, needs, asked, waits_for_any, commands_of}
use Rattle.vq_ground.specs.Lists.{has}
use Rattle.vq_model.specs.Plan.{signals_of, question}
use Rattle.vq_model.specs.ScriptOfLines.{mark}
use Rattle.vq_model.specs.Signals.{Signaling, all_signals, is_timeline_at}
use Rattle.vq_ground.proofs.Filters.{filter-has_cases, filter-has, filter_empty}
use Rattle.vq_ground.proofs.Gets.{get_within}
use Rattle.vq_ground.proofs.Numbers.{has_range, has-range_cases, range-append}
use Rattle.vq_plan_laws.proofs.Cited.{count_jobs, part_is}
use Rattle.vq_blocks.specs.declared.block.HostThread.{HostThread}
use Rattle.vq_blocks.specs.declared.block.ThreadStep.{ThreadStep}
use Rattle.vq_blocks.specs.declared.block.ThreadStep.TheVariants.{Signal}
use Rattle.vq_blocks.specs.Blocks.{waited_by}
use Rattle.vq_blocks.specs.HostsRuns.{steps_in_order, signals_in_order}
use Rattle.vq_hosts_laws.proofs.PlainScripts.{plain_batch, plain_batches, plain_script}
use Rattle.vq_hosts_laws.proofs.SameLines.{map_alike}
use Rattle.vq_hosts_laws.proofs.StepSignals.{Steps, signal_place, signal_by, IsSignalAt, AreTimelines, later_by}
use Rattle.vq_hosts_laws.proofs.CompiledSignals.{AreFit, count_batches, count_all, thread_signal, step_signal}
use Rattle.vq_hosts_laws.proofs.CompiledSignals.{rest_signal, rest_count, same_shift}
use Rattle.vq_hosts_laws.proofs.CompiledLasts.{thread_job, rest_job, rest_taken, rest_last, other_queue}

-- Lists

range_shift : (m a n : ℕ) → range_with_len (m + a) n ≡ map (λ e. m + e) (range_with_len a n)
range_shift m a zero = refl
range_shift m a (suc n) =
    let z : (m + a) + 1 ≡ m + (a + 1) = omega arith in
    ap (λ xs. (m + a) ∷ xs) (ap (λ b. range_with_len b n) z ∙ range_shift m (a + 1) n)

filter_shift : (m : ℕ) (test other : ℕ → Bool) → ((e : ℕ) → test (m + e) ≡ other e) → (xs : List ℕ) →
    filter test (map (λ e. m + e) xs) ≡ map (λ e. m + e) (filter other xs)
filter_shift m test other same [] = refl
filter_shift m test other same (x ∷ xs) =
    ap (λ b. cond b ((m + x) ∷ filter test (map (λ e. m + e) xs)) (filter test (map (λ e. m + e) xs))) (same x)
    ∙ (ap (λ ys. cond (other x) ((m + x) ∷ ys) ys) (filter_shift m test other same xs) ∙ by_test (other x))
  where
    by_test : (b : Bool) → cond b ((m + x) ∷ map (λ e. m + e) (filter other xs)) (map (λ e. m + e) (filter other xs))
        ≡ map (λ e. m + e) (cond b (x ∷ filter other xs) (filter other xs))
    by_test true = refl
    by_test false = refl

no_resets : (first f : ℕ) (steps : Steps) (jobs : List Job) →
    effective_resets f false (map (plain_batch first) steps ++ jobs) ≡ effective_resets f false jobs
no_resets first f [] jobs = refl
no_resets first f (y ∷ steps) jobs = no_resets first f steps jobs

no_commands : (first n : ℕ) (steps : Steps) → fold (λ k x. k + commands_in x) n (map (plain_batch first) steps) ≡ n
no_commands first n [] = refl
no_commands first n (y ∷ steps) =
    let z : n + 0 ≡ n = omega arith in
    ap (λ m. fold (λ k x. k + commands_in x) m (map (plain_batch first) steps)) z ∙ no_commands first n steps

-- pairs are reached by payloads
abbrev pub pairs_reached : (ℕ → ℕ) → List Pair → Bool
pairs_reached payload pairs = list_all (λ pair. nat_le pair.value (payload pair.semaphore)) pairs

module _ (s : Script) (threads : List HostThread) (fit : AreFit s threads) where
  abbrev script : Script
  script = plain_script s threads

  abbrev plan : Plan
  plan = plan_of script

  abbrev batches : ℕ
  batches = length (steps_in_order threads)

  abbrev signals : ℕ
  signals = length (signals_in_order threads)

  abbrev first : ℕ
  first = length s.queues

  pub count_plan : length plan.jobs ≡ batches + length (plan_of s).jobs
  count_plan =
      let a = count_jobs script in
      let b = count_jobs s in
      let c = length-append (plain_batches first threads) s.jobs in
      let d = count_batches s threads fit in
      omega arith

  -- Jobs of threads

  pub thread_part : {B : Type 0} (part : PlanJob → B) (none : B) (j : ℕ) (y : ℕ × ThreadStep) →
      slice_get (steps_in_order threads) j ≡ Some y → of_job part none plan j
      ≡ part (plan_job script (j, plain_batch first y))
  thread_part part none j y e =
      part_is part none script j ∙ ap (λ o. option_map_or (λ job. part (plan_job script (j, job))) o none)
      (thread_job s threads fit j y e)

  pub thread_commands : (j : ℕ) (y : ℕ × ThreadStep) → slice_get (steps_in_order threads) j ≡ Some y →
      commands_of plan j ≡ []
  thread_commands j y e = thread_part (λ x. x.commands) [] j y e

  pub thread_question : (j : ℕ) (y : ℕ × ThreadStep) → slice_get (steps_in_order threads) j ≡ Some y → question plan j
      ≡ Silent
  thread_question j y e = thread_part (λ x. x.question) Silent j y e

  -- the needs of a batch of a thread are the pairs of its step
  reached_at_start : (payload : ℕ → ℕ) (j : ℕ) (pairs : List Pair) → AreTimelines s pairs →
      list_all (is_reached payload) (filter (λ n. nat_le n.from 1)
      (map (of_wait script j) (map (λ pair. mark 0 pair 1) pairs))) ≡ pairs_reached payload pairs
  reached_at_start payload j [] h = refl
  reached_at_start payload j (x ∷ pairs) h =
      ap (λ b. nat_le (cond b x.value (count_by (λ y. (y.semaphore == x.semaphore) && nat_lt y.job j)
      (all_signals script))) (payload x.semaphore)
      && list_all (is_reached payload)
      (filter (λ n. nat_le n.from 1) (map (of_wait script j) (map (λ pair. mark 0 pair 1) pairs)))) h.0
      ∙ ap (λ b. nat_le x.value (payload x.semaphore) && b) (reached_at_start payload j pairs h.1)

  reached_at_end : (payload : ℕ → ℕ) (j : ℕ) (pairs : List Pair) → AreTimelines s pairs →
      list_all (is_reached payload) (map (of_wait script j) (map (λ pair. mark 0 pair 1) pairs))
      ≡ pairs_reached payload pairs
  reached_at_end payload j [] h = refl
  reached_at_end payload j (x ∷ pairs) h =
      ap (λ b. nat_le (cond b x.value (count_by (λ y. (y.semaphore == x.semaphore) && nat_lt y.job j)
      (all_signals script))) (payload x.semaphore)
      && list_all (is_reached payload) (map (of_wait script j) (map (λ pair. mark 0 pair 1) pairs))) h.0
      ∙ ap (λ b. nat_le x.value (payload x.semaphore) && b) (reached_at_end payload j pairs h.1)

  pub thread_starts : (payload : ℕ → ℕ) (j t : ℕ) (step : ThreadStep) → slice_get (steps_in_order threads) j
      ≡ Some (t, step) → are_reached plan payload j (At 1) ≡ pairs_reached payload (waited_by step)
  thread_starts payload j t step e =
      ap (λ b. cond b (list_any (is_reached payload) (needs_at plan j (At 1)))
      (list_all (is_reached payload) (needs_at plan j (At 1)))) (thread_part (λ x. x.any) false j (t, step) e)
      ∙ (ap (λ ns. list_all (is_reached payload) (filter (λ n. nat_le n.from 1) ns))
      (thread_part (λ x. x.needs) [] j (t, step) e)
      ∙ reached_at_start payload j (waited_by step) (fit.timelines j t step e).0)

  pub thread_ends : (payload : ℕ → ℕ) (j t : ℕ) (step : ThreadStep) → slice_get (steps_in_order threads) j
      ≡ Some (t, step) → are_reached plan payload j AtEnd ≡ pairs_reached payload (waited_by step)
  thread_ends payload j t step e =
      ap (λ b. cond b (list_any (is_reached payload) (needs plan j)) (list_all (is_reached payload) (needs plan j)))
      (thread_part (λ x. x.any) false j (t, step) e)
      ∙ (ap (list_all (is_reached payload)) (thread_part (λ x. x.needs) [] j (t, step) e)
      ∙ reached_at_end payload j (waited_by step) (fit.timelines j t step e).0)

  -- what a job of a thread signals
  abbrev is_of : ℕ → ℕ → Bool
  is_of j e = option_map_or (λ x. x.job == j) (slice_get (all_signals script) e) false

  -- a signal of a batch of a thread is that of its step
  pub thread_signals_are : (j t : ℕ) (step : ThreadStep) (e : ℕ) → slice_get (steps_in_order threads) j
      ≡ Some (t, step) → has (signals_of plan j) e ≡ true →
      (pair : Pair) × (step ≡ Signal pair) × (e ≡ signal_place (steps_in_order threads) j)
  thread_signals_are j t step e h g =
      let ops = ap (λ xs. has xs e) (sym (thread_part (λ x. x.signals) [] j (t, step) h)) ∙ g in
      let c = filter-has_cases (λ f. option_map_or (λ x. x.job == j) (slice_get (all_signals script) f) false)
      (range_with_len 0 (length (all_signals script))) e ops in
      by_get (slice_get (all_signals script) e) refl c.1
    where
      within : j < batches
      within = get_within (steps_in_order threads) j (t, step) h

      of_thread : (x : Signaling) → IsSignalAt 0 (steps_in_order threads) e x → x.job ≡ j → (pair : Pair)
          × (step ≡ Signal pair) × (e ≡ signal_place (steps_in_order threads) j)
      of_thread x k same =
          let n = ap (λ (y : Signaling). y.job) k.is in
          let z : k.place ≡ j = omega arith in
          let both : Some (t, step) ≡ Some (k.thread, Signal k.pair) = sym h
          ∙ (ap (slice_get (steps_in_order threads)) (sym z) ∙ k.of_step) in
          let pairs : (t, step) ≡ (k.thread, Signal k.pair) = cc in
          (k.pair, ap (λ (y : ℕ × ThreadStep). y.1) pairs, k.number ∙ ap (signal_place (steps_in_order threads)) z)

      of_rest : (x : Signaling) → signals ≤ e → slice_get (all_signals script) e ≡ Some x → x.job ≡ j → ⊥
      of_rest x l i same = by_rest (slice_get (all_signals s) (e - signals))
          (sym (rest_signal s threads fit (e - signals)) ∙ (ap (slice_get (all_signals script)) z ∙ i))
        where
          z : signals + (e - signals) ≡ e
          z = omega arith

          by_rest : (o : Option Signaling) → option_map (later_by batches) o ≡ Some x → ⊥
          by_rest None c = let d : None ≡ Some x = c in cc
          by_rest (Some y) c =
              let d : later_by batches y ≡ x = cc in
              let n = ap (λ (y : Signaling). y.job) d in
              let w = within in
              omega arith

      by_get : (o : Option Signaling) → slice_get (all_signals script) e ≡ o → option_map_or (λ x. x.job == j) o false
          ≡ true → (pair : Pair) × (step ≡ Signal pair) × (e ≡ signal_place (steps_in_order threads) j)
      by_get None i c = absurd (false≢true c)
      by_get (Some x) i c = by_place (cases_lt e signals)
        where
          by_place : ((e < signals) ⊎ (signals ≤ e)) → (pair : Pair) × (step ≡ Signal pair)
              × (e ≡ signal_place (steps_in_order threads) j)
          by_place (inl l) = of_thread x (thread_signal s threads fit e x l i) (eqb-true x.job j c)
          by_place (inr l) = absurd (of_rest x l i (eqb-true x.job j c))

  pub thread_signals : (j t : ℕ) (pair : Pair) → slice_get (steps_in_order threads) j ≡ Some (t, Signal pair) →
      has (signals_of plan j) (signal_place (steps_in_order threads) j) ≡ true
  thread_signals j t pair h =
      let g = step_signal s threads fit j t pair h in
      let w = get_within (all_signals script) (signal_place (steps_in_order threads) j) (signal_by j pair) g.1 in
      ap (λ xs. has xs (signal_place (steps_in_order threads) j)) (thread_part (λ x. x.signals) [] j (t, Signal pair) h)
      ∙ filter-has (λ f. option_map_or (λ x. x.job == j) (slice_get (all_signals script) f) false)
      (range_with_len 0 (length (all_signals script))) (signal_place (steps_in_order threads) j)
      (has_range (length (all_signals script)) 0 (signal_place (steps_in_order threads) j) (omega arith) (omega arith))
      (ap (λ o. option_map_or (λ x. x.job == j) o false) g.1 ∙ eq-eqb j j refl)

  -- Jobs of the rest

  pub rest_part : {B : Type 0} (part : PlanJob → B) (none : B) (g : B → B) (k : ℕ) → g none ≡ none →
      ((job : Job) → slice_get s.jobs k ≡ Some job → part (plan_job script (batches + k, job))
      ≡ g (part (plan_job s (k, job)))) →
      of_job part none plan (batches + k) ≡ g (of_job part none (plan_of s) k)
  rest_part {B} part none g k nothing each =
      part_is part none script (batches + k)
      ∙ (ap (λ o. option_map_or (λ job. part (plan_job script (batches + k, job))) o none) (rest_job s threads fit k)
      ∙ (by_get (slice_get s.jobs k) refl ∙ ap g (sym (part_is part none s k))))
    where
      by_get : (o : Option Job) → slice_get s.jobs k ≡ o →
          option_map_or (λ job. part (plan_job script (batches + k, job))) o none
          ≡ g (option_map_or (λ job. part (plan_job s (k, job))) o none)
      by_get None e = sym nothing
      by_get (Some job) e = each job e

  rest_fence : (k f : ℕ) → fence_value script (batches + k) f ≡ fence_value s k f
  rest_fence k f =
      ap (λ (jobs : List Job). effective_resets f false jobs + 1) (rest_taken s threads fit k)
      ∙ ap (λ n. n + 1) (no_resets first f (steps_in_order threads) (take k s.jobs))

  rest_wait : (k : ℕ) (m : Mark) → of_wait script (batches + k) m ≡ of_wait s k m
  rest_wait k m = by_kind (is_timeline_at s m.semaphore) refl
    where
      by_kind : (b : Bool) → is_timeline_at s m.semaphore ≡ b → of_wait script (batches + k) m ≡ of_wait s k m
      by_kind true i =
          let a = cond-true (is_timeline_at s m.semaphore) m.value (count_by (λ x. (x.semaphore == m.semaphore)
          && nat_lt x.job (batches + k)) (all_signals script)) i in
          let b = cond-true (is_timeline_at s m.semaphore) m.value (count_by (λ x. (x.semaphore == m.semaphore)
          && nat_lt x.job k) (all_signals s)) i in
          ap (λ (v : ℕ). record { line = m.line; chain = m.semaphore; value = v; from = m.from }) (a ∙ sym b)
      by_kind false i =
          ap (λ (n : ℕ). record {
            line = m.line;
            chain = m.semaphore;
            value =
                cond (is_timeline_at s m.semaphore) m.value n;
            from = m.from;
          }) (rest_count s threads fit m.semaphore k i)

  -- what waits for a fence needs
  abbrev fence_needs : ℕ → ℕ → ℕ → List Need
  fence_needs line f v = record { line = line; chain = f; value = v; from = 1 } ∷ []

  rest_step_needs : (k line : ℕ) (t : HostStep) → step_needs script (batches + k) line t ≡ step_needs s k line t
  rest_step_needs k line (FenceWait f) = ap (fence_needs line f) (rest_fence k f)
  rest_step_needs k line other = refl

  rest_step_asked : (k line : ℕ) (t : HostStep) → step_asked script (batches + k) line t ≡ step_asked s k line t
  rest_step_asked k line (FencePoll f) = ap (fence_needs line f) (rest_fence k f)
  rest_step_asked k line other = refl

  pub rest_needs : (k : ℕ) → needs plan (batches + k) ≡ needs (plan_of s) k
  rest_needs k = rest_part (λ x. x.needs) [] (λ x. x) k refl each
    where
      each : (job : Job) → slice_get s.jobs k ≡ Some job → (plan_job script (batches + k, job)).needs
          ≡ (plan_job s (k, job)).needs
      each (Host h) e = rest_step_needs k h.line h.step
      each (BatchJob b) e = map_alike (of_wait script (batches + k)) (of_wait s k) b.waits (rest_wait k)

  pub rest_asked : (k : ℕ) → asked plan (batches + k) ≡ asked (plan_of s) k
  rest_asked k = rest_part (λ x. x.asked) [] (λ x. x) k refl each
    where
      each : (job : Job) → slice_get s.jobs k ≡ Some job → (plan_job script (batches + k, job)).asked
          ≡ (plan_job s (k, job)).asked
      each (Host h) e = rest_step_asked k h.line h.step
      each (BatchJob b) e = refl

  pub rest_any : (k : ℕ) → waits_for_any plan (batches + k) ≡ waits_for_any (plan_of s) k
  rest_any k = rest_part (λ x. x.any) false (λ x. x) k refl each
    where
      each : (job : Job) → slice_get s.jobs k ≡ Some job → (plan_job script (batches + k, job)).any
          ≡ (plan_job s (k, job)).any
      each (Host h) e = refl
      each (BatchJob b) e = refl

  pub rest_question : (k : ℕ) → question plan (batches + k) ≡ question (plan_of s) k
  rest_question k = rest_part (λ x. x.question) Silent (λ x. x) k refl each
    where
      each : (job : Job) → slice_get s.jobs k ≡ Some job → (plan_job script (batches + k, job)).question
          ≡ (plan_job s (k, job)).question
      each (Host h) e = refl
      each (BatchJob b) e = refl

  pub rest_commands : (k : ℕ) → commands_of plan (batches + k) ≡ commands_of (plan_of s) k
  rest_commands k = rest_part (λ x. x.commands) [] (λ x. x) k refl each
    where
      each : (job : Job) → slice_get s.jobs k ≡ Some job → (plan_job script (batches + k, job)).commands
          ≡ (plan_job s (k, job)).commands
      each (Host h) e = refl
      each (BatchJob b) e =
          ap (λ n. range_with_len n (length b.commands))
          (ap (λ (jobs : List Job). fold (λ n x. n + commands_in x) 0 jobs) (rest_taken s threads fit k)
          ∙ (fold-append (λ n x. n + commands_in x) 0 (plain_batches first threads) (take k s.jobs)
          ∙ ap (λ m. fold (λ n x. n + commands_in x) m (take k s.jobs)) (no_commands first 0 (steps_in_order threads))))

  -- what a job of the rest signals
  rest_ops : (k : ℕ) → job_ops script (batches + k) ≡ map (λ e. signals + e) (job_ops s k)
  rest_ops k =
      ap (λ xs. filter (is_of (batches + k)) xs) ranges
      ∙ (filter-append (is_of (batches + k)) (range_with_len 0 signals)
      (map (λ e. signals + e) (range_with_len 0 (length (all_signals s))))
      ∙ (ap (λ xs. xs ++ filter (is_of (batches + k))
      (map (λ e. signals + e) (range_with_len 0 (length (all_signals s)))))
      (filter_empty (is_of (batches + k)) (range_with_len 0 signals) none)
      ∙ filter_shift signals (is_of (batches + k)) (λ e. option_map_or (λ x. x.job == k) (slice_get (all_signals s) e)
      false) each (range_with_len 0 (length (all_signals s)))))
    where
      ranges : range_with_len 0 (length (all_signals script))
          ≡ range_with_len 0 signals ++ map (λ e. signals + e) (range_with_len 0 (length (all_signals s)))
      ranges =
          let z : 0 + signals ≡ signals + 0 = omega arith in
          ap (range_with_len 0) (count_all s threads fit)
          ∙ (range-append 0 signals (length (all_signals s))
          ∙ ap (λ xs. range_with_len 0 signals ++ xs) (ap (λ n. range_with_len n (length (all_signals s))) z
          ∙ range_shift signals 0 (length (all_signals s))))

      none : (e : ℕ) → has (range_with_len 0 signals) e ≡ true → is_of (batches + k) e ≡ false
      none e h = by_get (slice_get (all_signals script) e) refl
        where
          by_get : (o : Option Signaling) → slice_get (all_signals script) e ≡ o →
              option_map_or (λ x. x.job == batches + k) o false ≡ false
          by_get None i = refl
          by_get (Some x) i =
              let r = has-range_cases signals 0 e h in
              let l = r.1 in
              let q = thread_signal s threads fit e x (omega arith) i in
              let w = get_within (steps_in_order threads) q.place (q.thread, Signal q.pair) q.of_step in
              let n = ap (λ (y : Signaling). y.job) q.is in
              ne_eqb x.job (batches + k) (λ c. omega arith)

      each : (e : ℕ) → (is_of (batches + k)) (signals + e)
          ≡ option_map_or (λ x. x.job == k) (slice_get (all_signals s) e) false
      each e = ap (λ o. option_map_or (λ x. x.job == batches + k) o false) (rest_signal s threads fit e)
          ∙ by_get (slice_get (all_signals s) e)
        where
          by_get : (o : Option Signaling) →
              option_map_or (λ x. x.job == batches + k) (option_map (later_by batches) o) false
              ≡ option_map_or (λ x. x.job == k) o false
          by_get None = refl
          by_get (Some x) = same_shift batches x.job k

  pub rest_signals : (k : ℕ) → signals_of plan (batches + k) ≡ map (λ e. signals + e) (signals_of (plan_of s) k)
  rest_signals k = rest_part (λ x. x.signals) [] (map (λ e. signals + e)) k refl each
    where
      each : (job : Job) → slice_get s.jobs k ≡ Some job → (plan_job script (batches + k, job)).signals
          ≡ map (λ e. signals + e) ((plan_job s (k, job)).signals)
      each (Host h) e = rest_ops k
      each (BatchJob b) e = rest_ops k

  pub rest_previous : (k : ℕ) → previous plan (batches + k) ≡ option_map (λ i. batches + i) (previous (plan_of s) k)
  rest_previous k = rest_part (λ x. x.previous) None (option_map (λ i. batches + i)) k refl each
    where
      each : (job : Job) → slice_get s.jobs k ≡ Some job → (plan_job script (batches + k, job)).previous
          ≡ option_map (λ i. batches + i) ((plan_job s (k, job)).previous)
      each (Host h) e = rest_last s threads fit HostLane k (λ y. refl)
      each (BatchJob b) e = rest_last s threads fit (QueueLane b.queue) k
          (other_queue s threads fit b.queue (fit.queues k b e))

  pub rest_host_before : (k : ℕ) → host_before plan (batches + k)
      ≡ option_map (λ i. batches + i) (host_before (plan_of s) k)
  rest_host_before k = rest_part (λ x. x.host_before) None (option_map (λ i. batches + i)) k refl each
    where
      each : (job : Job) → slice_get s.jobs k ≡ Some job → (plan_job script (batches + k, job)).host_before
          ≡ option_map (λ i. batches + i) ((plan_job s (k, job)).host_before)
      each (Host h) e = refl
      each (BatchJob b) e = rest_last s threads fit HostLane k (λ y. refl)
