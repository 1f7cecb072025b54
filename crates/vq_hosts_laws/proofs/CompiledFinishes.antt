-- What must be finished before a job of a compiled plan.
use Rattle.std.proofs.Common.{◌≡◌, ℕ, ◌+◌, ◌-◌, ◌<◌, ◌≤◌, ◌⊎◌, inl, inr, Bool, true, false, List, [], ◌++◌, map}
use Rattle.std.proofs.Common.{length, Option, Some, None, option_map, refl, sym, ap, ◌∙◌, suc, subst, arith}
use Rattle.std.proofs.Common.{length-append}
use Rattle.std.specs.List.{slice_get, range_with_len, filter_map}
use Rattle.std.specs.Option.{option_map_or, option_to_list}
use Rattle.std.proofs.lemmas.List.{length-map, append_assoc}
use Rattle.std.proofs.lemmas.Bool.{false≢true, cases_lt}
use Rattle.std.proofs.lemmas.Option.{same_Some}
use Rattle.vq_model.specs.declared.plan.Lane.TheVariants.{Queue as QueueLane}
use Rattle.vq_model.specs.declared.script.HostStep.{HostStep}
use Rattle.vq_model.specs.declared.script.HostStep.TheVariants.{Idle}
use Rattle.vq_model.specs.declared.script.Job.{Job}
use Rattle.vq_model.specs.declared.script.Job.TheVariants.{Host, Batch as BatchJob}
use Rattle.vq_model.specs.declared.script.Script.{Script}
use Rattle.vq_model.specs.Edges.{must_finish}
use Rattle.vq_model.specs.Lowering.{plan_of, plan_job, step_idle, last_before, lane_of}
use Rattle.vq_model.specs.Plan.{Plan, previous, host_before, idle_after, same_lane}
use Rattle.vq_ground.specs.Lists.{has}
use Rattle.vq_ground.proofs.Gets.{get_within}
use Rattle.vq_ground.proofs.Lists.{has_here, has-append_cases, has-append_left, has-append_right, in_option}
use Rattle.vq_ground.proofs.Mapped.{has_mapped, mapped}
use Rattle.vq_ground.proofs.Numbers.{has-range_cases, range-has}
use Rattle.vq_ground.proofs.Options.{some_of}
use Rattle.vq_plan_laws.proofs.Cited.{part_is}
use Rattle.vq_blocks.specs.declared.block.HostThread.{HostThread}
use Rattle.vq_blocks.specs.declared.block.ThreadStep.{ThreadStep}
use Rattle.vq_blocks.specs.Compiled.{queue_of_thread}
use Rattle.vq_blocks.specs.HostsMachine.{is_idle, is_idle_step}
use Rattle.vq_blocks.specs.HostsRuns.{steps_in_order}
use Rattle.vq_hosts_laws.proofs.PlainScripts.{plain_script}
use Rattle.vq_hosts_laws.proofs.StepPlaces.{first_of, IsThreadStep, batch_of_place, earlier_step, step_within, step_at}
use Rattle.vq_hosts_laws.proofs.CompiledSignals.{AreFit}
use Rattle.vq_hosts_laws.proofs.CompiledLasts.{rest_job, rest_last, other_queue, last_comes, last_is, no_host}
use Rattle.vq_hosts_laws.proofs.CompiledJobs.{thread_part, rest_previous, rest_host_before}

-- whether a job of a script is an idle step
abbrev pub is_idle_in : Script → ℕ → Bool
is_idle_in s k = option_map_or is_idle (slice_get s.jobs k) false

-- the last batches of all queues before a job
abbrev lasts : Script → ℕ → List ℕ
lasts s n = filter_map (λ q. last_before s n (λ x. same_lane (QueueLane q) (lane_of x)))
    (range_with_len 0 (length s.queues))

-- what must be finished before a job, by its three reasons
in_parts : (p : Plan) (j x : ℕ) → has (must_finish p j) x
    ≡ has (option_to_list (previous p j) ++ (option_to_list (host_before p j) ++ idle_after p j)) x
in_parts p j x =
    ap (λ xs. has xs x) (append_assoc (option_to_list (previous p j)) (option_to_list (host_before p j))
    (idle_after p j))

module _ (s : Script) (threads : List HostThread) (fit : AreFit s threads) where
  abbrev script : Script
  script = plain_script s threads

  abbrev plan : Plan
  plan = plan_of script

  abbrev batches : ℕ
  batches = length (steps_in_order threads)

  abbrev first : ℕ
  first = length s.queues

  -- Batches of threads

  -- the batch before one of a thread
  pub must_before : (t i j : ℕ) (step : ThreadStep) → IsThreadStep threads t (suc i) j step →
      has (must_finish plan j) (first_of threads t + i) ≡ true
  must_before t i j step k =
      let number = k.number in
      let e = earlier_step threads t (suc i) i j step k (omega arith) in
      let last = last_is s threads fit j t i e.0 e.1 (omega arith) (λ m other l g. omega arith) in
      ap (λ o. has (option_to_list o ++ option_to_list (host_before plan j) ++ idle_after plan j)
      (first_of threads t + i))
      (thread_part s threads fit (λ x. x.previous) None j (t, step) (batch_of_place threads t (suc i) j step k) ∙ last)
      ∙ has_here (first_of threads t + i) (option_to_list (host_before plan j) ++ idle_after plan j)

  -- nothing but earlier batches of its thread
  pub must_are : (t i j : ℕ) (step : ThreadStep) (x : ℕ) → IsThreadStep threads t i j step →
      has (must_finish plan j) x ≡ true → (m : ℕ) × (other : ThreadStep) × (m < i) × IsThreadStep threads t m x other
  must_are t i j step x k h =
      elim (has-append_cases (option_to_list (previous plan j))
      (option_to_list (host_before plan j) ++ idle_after plan j) x (sym (in_parts plan j x) ∙ h)) [
        | inl a ↦ of_previous (in_option (previous plan j) x a)
        | inr b ↦ elim (has-append_cases (option_to_list (host_before plan j)) (idle_after plan j) x b) [
          | inl c ↦ absurd (of_host (in_option (host_before plan j) x c))
          | inr d ↦ absurd (false≢true (sym
              (ap (λ xs. has xs x) (thread_part s threads fit (λ y. y.idle_after) [] j (t, step) here)) ∙ d))
        ]
      ]
    where
      here : slice_get (steps_in_order threads) j ≡ Some (t, step)
      here = batch_of_place threads t i j step k

      of_previous : previous plan j ≡ Some x → (m : ℕ) × (other : ThreadStep) × (m < i)
          × IsThreadStep threads t m x other
      of_previous e =
          let l = last_comes s threads fit j t x
          (sym (thread_part s threads fit (λ y. y.previous) None j (t, step) here) ∙ e) in
          let a = l.3.number in
          let b = k.number in
          let c = l.2 in
          let d : l.0 < i = omega arith in
          (l.0, l.1, d, l.3)

      of_host : host_before plan j ≡ Some x → ⊥
      of_host e =
          let w = step_within threads t i j step k in
          let c : None ≡ Some x = sym (thread_part s threads fit (λ y. y.host_before) None j (t, step) here
          ∙ no_host s threads fit j (omega arith)) ∙ e in
          cc

  -- Idle steps

  count_queues : length script.queues ≡ first + length threads
  count_queues =
      let a = length-append s.queues (map queue_of_thread threads) in
      let b = length-map threads queue_of_thread in
      omega arith

  lasts_cases : (k x : ℕ) → has (lasts script (batches + k)) x ≡ true →
      ((y : ℕ) × (x ≡ batches + y) × (has (lasts s k) y ≡ true)) ⊎ (x < batches)
  lasts_cases k x h =
      let m = mapped (λ q. last_before script (batches + k) (λ y. same_lane (QueueLane q) (lane_of y)))
      (range_with_len 0 (length script.queues)) x h in
      by_queue m.0 m.2 (cases_lt m.0 first)
    where
      by_queue : (q : ℕ) → last_before script (batches + k) (λ y. same_lane (QueueLane q) (lane_of y)) ≡ Some x →
          ((q < first) ⊎ (first ≤ q)) → ((y : ℕ) × (x ≡ batches + y) × (has (lasts s k) y ≡ true)) ⊎ (x < batches)
      by_queue q e (inl l) =
          let o = some_of (λ (i : ℕ). batches + i) (last_before s k (λ y. same_lane (QueueLane q) (lane_of y))) x
          (sym (rest_last s threads fit (QueueLane q) k (other_queue s threads fit q l)) ∙ e) in
          inl (
            o.0,
            sym o.2,
            has_mapped (λ q. last_before s k (λ y. same_lane (QueueLane q) (lane_of y)))
                (range_with_len 0 first) q o.0 (range-has first 0 q (omega arith) (omega arith)) o.1,
          )
      by_queue q e (inr l) =
          let z : q ≡ first + (q - first) = omega arith in
          let c = last_comes s threads fit (batches + k) (q - first) x
          (subst (λ (p : ℕ). last_before script (batches + k) (λ y. same_lane (QueueLane p) (lane_of y))
          ≡ Some x) z e) in
          inr (step_within threads (q - first) c.0 x c.1 c.3)

  lasts_rest : (k y : ℕ) → has (lasts s k) y ≡ true → has (lasts script (batches + k)) (batches + y) ≡ true
  lasts_rest k y h =
      let m = mapped (λ q. last_before s k (λ y. same_lane (QueueLane q) (lane_of y))) (range_with_len 0 first) y h in
      let r = has-range_cases first 0 m.0 m.1 in
      let l = r.1 in
      let c = count_queues in
      has_mapped (λ q. last_before script (batches + k) (λ y. same_lane (QueueLane q) (lane_of y)))
      (range_with_len 0 (length script.queues)) m.0 (batches + y)
      (range-has (length script.queues) 0 m.0 (omega arith) (omega arith))
      (rest_last s threads fit (QueueLane m.0) k (other_queue s threads fit m.0 (omega arith))
      ∙ ap (option_map (λ i. batches + i)) m.2)

  lasts_thread : (k t m : ℕ) (x : HostThread) → slice_get threads t ≡ Some x → length x.steps ≡ suc m →
      has (lasts script (batches + k)) (first_of threads t + m) ≡ true
  lasts_thread k t m x e many =
      let c = count_queues in
      let l = get_within threads t x e in
      let here = step_at threads t x m e (omega arith) in
      let w = step_within threads t m (first_of threads t + m) here.0 here.1 in
      has_mapped (λ q. last_before script (batches + k) (λ y. same_lane (QueueLane q) (lane_of y)))
      (range_with_len 0 (length script.queues)) (first + t) (first_of threads t + m)
      (range-has (length script.queues) 0 (first + t) (omega arith) (omega arith))
      (last_is s threads fit (batches + k) t m here.0 here.1 (omega arith) none_later)
    where
      none_later : (n : ℕ) (other : ThreadStep) → m < n → IsThreadStep threads t n (first_of threads t + n) other →
          batches + k ≤ first_of threads t + n
      none_later n other l g =
          let same : x ≡ g.steps = same_Some x g.steps (sym e ∙ g.of_thread) in
          let w = get_within g.steps.steps n g.line g.at_place in
          let v = ap (λ (y : HostThread). length y.steps) same in
          absurd (omega arith)

  -- the parts of one job
  idle_cases : (k x : ℕ) (job : Job) → has ((plan_job script (batches + k, job)).idle_after) x ≡ true →
      ((y : ℕ) × (x ≡ batches + y) × (has ((plan_job s (k, job)).idle_after) y ≡ true)) ⊎ ((x < batches)
      × (is_idle job ≡ true))
  idle_cases k x (Host h) g = by_step h.step g
    where
      by_step : (t : HostStep) → has (step_idle script (batches + k) t) x ≡ true →
          ((y : ℕ) × (x ≡ batches + y) × (has (step_idle s k t) y ≡ true)) ⊎ ((x < batches) × (is_idle_step t ≡ true))
      by_step Idle g = elim (lasts_cases k x g) [ inl a ↦ inl a | inr b ↦ inr (b, refl) ]
      by_step t g = absurd (false≢true g)
  idle_cases k x (BatchJob b) g = absurd (false≢true g)

  idle_rest : (k y : ℕ) (job : Job) → has ((plan_job s (k, job)).idle_after) y ≡ true →
      has ((plan_job script (batches + k, job)).idle_after) (batches + y) ≡ true
  idle_rest k y (Host h) g = by_step h.step g
    where
      by_step : (t : HostStep) → has (step_idle s k t) y ≡ true → has (step_idle script (batches + k) t) (batches + y)
          ≡ true
      by_step Idle g = lasts_rest k y g
      by_step t g = absurd (false≢true g)
  idle_rest k y (BatchJob b) g = absurd (false≢true g)

  idle_thread : (k t m : ℕ) (x : HostThread) (job : Job) → is_idle job ≡ true → slice_get threads t ≡ Some x →
      length x.steps ≡ suc m → has ((plan_job script (batches + k, job)).idle_after) (first_of threads t + m) ≡ true
  idle_thread k t m x (Host h) i e many = by_step h.step i
    where
      by_step : (u : HostStep) → is_idle_step u ≡ true →
          has (step_idle script (batches + k) u) (first_of threads t + m) ≡ true
      by_step Idle g = lasts_thread k t m x e many
      by_step u g = absurd (false≢true g)
  idle_thread k t m x (BatchJob b) i e many = absurd (false≢true i)

  rest_idle_is : (k : ℕ) → idle_after plan (batches + k)
      ≡ option_map_or (λ job. (plan_job script (batches + k, job)).idle_after) (slice_get s.jobs k) []
  rest_idle_is k =
      part_is (λ x. x.idle_after) [] script (batches + k)
      ∙ ap (λ o. option_map_or (λ job. (plan_job script (batches + k, job)).idle_after) o []) (rest_job s threads fit k)

  idle_is : (k : ℕ) → idle_after (plan_of s) k
      ≡ option_map_or (λ job. (plan_job s (k, job)).idle_after) (slice_get s.jobs k) []
  idle_is k = part_is (λ x. x.idle_after) [] s k

  -- Jobs of the rest

  -- a job of the rest waits for what it waits for without threads
  pub rest_must : (k y : ℕ) → has (must_finish (plan_of s) k) y ≡ true →
      has (must_finish plan (batches + k)) (batches + y) ≡ true
  rest_must k y h =
      in_parts plan (batches + k) (batches + y)
      ∙ elim (has-append_cases (option_to_list (previous (plan_of s) k))
      (option_to_list (host_before (plan_of s) k) ++ idle_after (plan_of s) k) y (sym (in_parts (plan_of s) k y)
      ∙ h)) [
        | inl a ↦ has-append_left (option_to_list (previous plan (batches + k)))
            (option_to_list (host_before plan (batches + k)) ++ idle_after plan (batches + k)) (batches + y)
            (one (previous plan (batches + k)) (previous (plan_of s) k) (rest_previous s threads fit k)
            (in_option (previous (plan_of s) k) y a))
        | inr b ↦ has-append_right (option_to_list (previous plan (batches + k)))
            (option_to_list (host_before plan (batches + k)) ++ idle_after plan (batches + k)) (batches + y)
            (elim (has-append_cases (option_to_list (host_before (plan_of s) k)) (idle_after (plan_of s) k) y b) [
              | inl c ↦ has-append_left (option_to_list (host_before plan (batches + k)))
                  (idle_after plan (batches + k)) (batches + y)
                  (one (host_before plan (batches + k)) (host_before (plan_of s) k) (rest_host_before s threads fit k)
                  (in_option (host_before (plan_of s) k) y c))
              | inr d ↦ has-append_right (option_to_list (host_before plan (batches + k)))
                  (idle_after plan (batches + k)) (batches + y)
                  (ap (λ xs. has xs (batches + y)) (rest_idle_is k)
                  ∙ by_job (slice_get s.jobs k) (ap (λ xs. has xs y) (sym (idle_is k)) ∙ d))
            ])
      ]
    where
      one : (o p : Option ℕ) → o ≡ option_map (λ i. batches + i) p → p ≡ Some y → has (option_to_list o) (batches + y)
          ≡ true
      one o p e f = ap (λ q. has (option_to_list q) (batches + y)) (e ∙ ap (option_map (λ i. batches + i)) f)
          ∙ has_here (batches + y) []

      by_job : (o : Option Job) → has (option_map_or (λ job. (plan_job s (k, job)).idle_after) o []) y ≡ true →
          has (option_map_or (λ job. (plan_job script (batches + k, job)).idle_after) o []) (batches + y) ≡ true
      by_job None g = absurd (false≢true g)
      by_job (Some job) g = idle_rest k y job g

  -- .. and for nothing else, but that an idle step waits for batches of threads
  pub rest_must_cases : (k x : ℕ) → has (must_finish plan (batches + k)) x ≡ true →
      ((y : ℕ) × (x ≡ batches + y) × (has (must_finish (plan_of s) k) y ≡ true)) ⊎ ((x < batches)
      × (is_idle_in s k ≡ true))
  rest_must_cases k x h =
      elim (has-append_cases (option_to_list (previous plan (batches + k)))
      (option_to_list (host_before plan (batches + k)) ++ idle_after plan (batches + k)) x
      (sym (in_parts plan (batches + k) x) ∙ h)) [
        | inl a ↦ (let o = one (previous plan (batches + k)) (previous (plan_of s) k) (rest_previous s threads fit k)
            (in_option (previous plan (batches + k)) x a) in
            inl (
              o.0,
              o.1,
              in_parts (plan_of s) k o.0
                  ∙ has-append_left (option_to_list (previous (plan_of s) k))
                  (option_to_list (host_before (plan_of s) k) ++ idle_after (plan_of s) k) o.0 o.2,
            ))
        | inr b ↦ elim (has-append_cases (option_to_list (host_before plan (batches + k)))
            (idle_after plan (batches + k)) x b) [
              | inl c ↦ (let o = one (host_before plan (batches + k)) (host_before (plan_of s) k)
                  (rest_host_before s threads fit k) (in_option (host_before plan (batches + k)) x c) in
                  inl (
                    o.0,
                    o.1,
                    in_parts (plan_of s) k o.0 ∙ has-append_right (option_to_list (previous (plan_of s) k))
                        (option_to_list (host_before (plan_of s) k) ++ idle_after (plan_of s) k) o.0
                        (has-append_left (option_to_list (host_before (plan_of s) k)) (idle_after (plan_of s) k) o.0
                        o.2),
                  ))
              | inr d ↦ elim (by_job (slice_get s.jobs k) (ap (λ xs. has xs x) (sym (rest_idle_is k)) ∙ d)) [
                | inl o ↦ inl (
                  o.0,
                  o.1,
                  in_parts (plan_of s) k o.0 ∙ has-append_right (option_to_list (previous (plan_of s) k))
                      (option_to_list (host_before (plan_of s) k) ++ idle_after (plan_of s) k) o.0
                      (has-append_right (option_to_list (host_before (plan_of s) k)) (idle_after (plan_of s) k) o.0
                      (ap (λ xs. has xs o.0) (idle_is k) ∙ o.2)),
                )
                | inr o ↦ inr o
              ]
            ]
      ]
    where
      one : (o p : Option ℕ) → o ≡ option_map (λ i. batches + i) p → o ≡ Some x → (y : ℕ) × (x ≡ batches + y)
          × (has (option_to_list p) y ≡ true)
      one o p e f =
          let m = some_of (λ (i : ℕ). batches + i) p x (sym e ∙ f) in
          (m.0, sym m.2, ap (λ q. has (option_to_list q) m.0) m.1 ∙ has_here m.0 [])

      by_job : (o : Option Job) → has (option_map_or (λ job. (plan_job script (batches + k, job)).idle_after) o []) x
          ≡ true →
          ((y : ℕ) × (x ≡ batches + y) × (has (option_map_or (λ job. (plan_job s (k, job)).idle_after) o []) y
          ≡ true)) ⊎ ((x < batches) × (option_map_or is_idle o false ≡ true))
      by_job None g = absurd (false≢true g)
      by_job (Some job) g = idle_cases k x job g

  -- an idle step waits for the last batch of each thread
  pub idle_must : (k t m : ℕ) (x : HostThread) → is_idle_in s k ≡ true → slice_get threads t ≡ Some x → length x.steps
      ≡ suc m → has (must_finish plan (batches + k)) (first_of threads t + m) ≡ true
  idle_must k t m x i e many =
      in_parts plan (batches + k) (first_of threads t + m)
      ∙ has-append_right (option_to_list (previous plan (batches + k)))
      (option_to_list (host_before plan (batches + k)) ++ idle_after plan (batches + k)) (first_of threads t + m)
      (has-append_right (option_to_list (host_before plan (batches + k))) (idle_after plan (batches + k))
      (first_of threads t + m)
      (ap (λ xs. has xs (first_of threads t + m)) (rest_idle_is k) ∙ by_job (slice_get s.jobs k) i))
    where
      by_job : (o : Option Job) → option_map_or is_idle o false ≡ true →
          has (option_map_or (λ job. (plan_job script (batches + k, job)).idle_after) o []) (first_of threads t + m)
          ≡ true
      by_job None g = absurd (false≢true g)
      by_job (Some job) g = idle_thread k t m x job g e many
