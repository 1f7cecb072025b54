-- One job more is lowered.
use Rattle.vq_model.specs.declared.script.HostLine.{HostLine}
use Rattle.std.proofs.Common.{◌≡◌, ℕ, suc, ◌+◌, ◌-◌, ◌^◌, ◌<◌, ◌≤◌, Bool, true, false, subst, cond, List, [], ◌∷◌, ◌++◌, length, get_or, map, take, All, Option, Some, None, refl, sym, ap, ◌∙◌, arith}
use Rattle.std.proofs.Math.ListN.{set}
use Rattle.std.specs.List.{count_by, sum_by, slice_get, range_with_len, enumerate_from, flat_map, AllByRecursion}
use Rattle.std.proofs.lemmas.Bool.{eq-eqb, ne_eqb}
use Rattle.std.proofs.lemmas.List.{length-append, map-append, length-take-le}
use Rattle.std.proofs.lemmas.List.Elements.{recursion_from_All}
use Rattle.std.proofs.lemmas.List.FromFn.{length-map-range_with_len}
use Rattle.std.proofs.lemmas.List.Sums.{sum_by-cons}
use Rattle.vq_model.specs.declared.script.Script.{Script}
use Rattle.vq_model.specs.declared.script.Mark.{Mark}
use Rattle.vq_model.specs.declared.script.Batch.{Batch}
use Rattle.vq_model.specs.declared.script.Job.{Job}
use Rattle.vq_model.specs.declared.script.Job.TheVariants.{Host, Batch as BatchJob}
use Rattle.vq_model.specs.declared.script.HostStep.TheVariants.{FenceWait, FencePoll, FenceReset}
use Rattle.vq_model.specs.declared.plan.Need.{Need}
use Rattle.vq_model.specs.declared.plan.PlanJob.{PlanJob}
use Rattle.vq_model.specs.declared.plan.Lane.TheVariants.{Queue as QueueLane}
use Rattle.vq_model.specs.declared.plan.Question.TheVariants.{Silent}
use Rattle.vq_model.specs.Lowering.{batch_commands, commands_in, plan_job, last_from, last_before, of_wait}
use Rattle.vq_model.specs.Context.{is_fence}
use Rattle.vq_model.specs.SameScript.{IsRead}
use Rattle.vq_model.specs.Signals.{job_signals, all_signals, signals_semaphore}
use Rattle.vq_model.specs.ValidScripts.{is_fence_at, IsValidBatch, IsValidMark, IsValidStep}
use Rattle.vq_plan_laws.proofs.Cited.{length-batch_commands}
use Rattle.vq_ground.proofs.Gets.{get_within}
use Rattle.vq_model.specs.Limits.{limits_of}
use Rattle.vq_reading_laws.proofs.Cited.{kind_exists, read_batches, read_steps}
use Rattle.vq_spec.specs.declared.lowering.Lowered.{Lowered}
use Rattle.vq_spec.specs.Counts.{signals_before, AreSignals, AreLowered, need_by, value_by, batch_job, in_queue, is_step, last_of_queues}
use Rattle.vq_spec.specs.Fences.{after_batch, after_step}
use Rattle.vq_spec.proofs.FenceStates.{states_length, resets_few, fences_batch, fences_step}
use Rattle.vq_spec.proofs.Lowered.{commands_push, few_up_to}
use Rattle.vq_spec.proofs.Ranges.{take_push, enumerate-append, map_range-set, get_map_range}
use Rattle.vq_spec.proofs.SignalOrder.{signals_before-push, earlier_count, take_before, job_ops_are, count_at}

-- The last job of a queue

last_from-push : (n : ℕ) (test : Job → Bool) (jobs : List Job) (job : Job) (found : Option ℕ) →
    last_from n test (jobs ++ job ∷ []) found
    ≡ cond (test job) (Some (n + length jobs)) (last_from n test jobs found)
last_from-push n test [] job found =
    ap (λ k. cond (test job) (Some k) found) (let e : n ≡ n + 0 = omega arith in e)
last_from-push n test (x ∷ jobs) job found =
    last_from-push (n + 1) test jobs job (cond (test x) (Some n) found)
    ∙ ap (λ k. cond (test job) (Some k) (last_from (n + 1) test jobs (cond (test x) (Some n) found)))
    (let e : (n + 1) + length jobs ≡ n + suc (length jobs) = omega arith in e)

last_before-push : (s : Script) (j : ℕ) (job : Job) → slice_get s.jobs j ≡ Some job →
    (test : Job → Bool) →
    last_before s (j + 1) test ≡ cond (test job) (Some j) (last_before s j test)
last_before-push s j job at test =
    let inside = get_within s.jobs j job at in
    let e : 0 + length (take j s.jobs) ≡ j = omega (arith, length-take-le j s.jobs (omega arith)) in
    ap (λ jobs. last_from 0 test jobs None) (take_push s.jobs j job at)
    ∙ (last_from-push 0 test (take j s.jobs) job None
    ∙ ap (λ k. cond (test job) (Some k) (last_before s j test)) e)

-- One job more

module _ (s : Script) (j : ℕ) (job : Job) (at : slice_get s.jobs j ≡ Some job) where
  jobs_push : map (plan_job s) (enumerate_from 0 (take (j + 1) s.jobs))
      ≡ map (plan_job s) (enumerate_from 0 (take j s.jobs)) ++ plan_job s (j, job) ∷ []
  jobs_push =
      let inside = get_within s.jobs j job at in
      let e : 0 + length (take j s.jobs) ≡ j = omega
      (arith, length-take-le j s.jobs (omega arith)) in
      ap (λ jobs. map (plan_job s) (enumerate_from 0 jobs)) (take_push s.jobs j job at)
      ∙ (ap (map (plan_job s)) (enumerate-append 0 (take j s.jobs) (job ∷ [])
      ∙ ap (λ n. enumerate_from 0 (take j s.jobs) ++ (n, job) ∷ []) e)
      ∙ map-append (plan_job s) (enumerate_from 0 (take j s.jobs)) ((j, job) ∷ []))

-- Commands

commands_total : (jobs : List Job) → length (flat_map batch_commands jobs) ≡ sum_by commands_in jobs
commands_total [] = refl
commands_total (job ∷ jobs) =
    let a = length-append (batch_commands job) (flat_map batch_commands jobs) in
    let b = length-batch_commands job in
    let c = commands_total jobs in
    let d = sum_by-cons commands_in job jobs in
    omega arith

-- A batch

module _ (s : Script) (i : IsRead s) (j : ℕ) (b : Batch) (at : slice_get s.jobs j ≡ Some (BatchJob b))
    (x : Lowered) (k : AreLowered s j x) where
  pub is_valid : IsValidBatch s b
  is_valid = read_batches s i j b at

  pub waits_exist : All (λ m. m.semaphore < length s.semaphores) b.waits
  waits_exist n d l = (is_valid.waits n d l).exists

  pub last_length : length x.last.items ≡ length s.queues
  last_length = ap length k.last ∙ length-map-range_with_len
      (λ q. last_before s j (in_queue q)) 0 (length s.queues)

  pub commands_fit : x.commands + length b.commands ≤ (limits_of s.version).commands
  commands_fit = let n = k.commands in let m = few_up_to s i j (BatchJob b) at in omega arith

  -- the value of a wait
  wait_is : (m : Mark) → IsValidMark s m → need_by s x.signals.counts.items m ≡ of_wait s j m
  wait_is m v =
      let count : get_or x.signals.counts.items m.semaphore 0
      ≡ count_by (signals_semaphore m.semaphore) (signals_before s j) = count_at s x.signals k.signals
      m.semaphore 0 v.exists ∙ ap (λ n. count_by (signals_semaphore m.semaphore)
      (take n (all_signals s))) k.operations
      ∙ ap (count_by (signals_semaphore m.semaphore)) (take_before s j (BatchJob b) at) in
      λ t. record {
        line = m.line;
        chain = m.semaphore;
        value = value_by s m ((count ∙ sym (earlier_count s j (BatchJob b) at m.semaphore)) t);
        from = m.from;
      }

  needs_are : map (need_by s x.signals.counts.items) b.waits ≡ map (of_wait s j) b.waits
  needs_are = each b.waits (recursion_from_All (IsValidMark s) b.waits is_valid.waits)
    where
      each : (ms : List Mark) → AllByRecursion (IsValidMark s) ms →
          map (need_by s x.signals.counts.items) ms ≡ map (of_wait s j) ms
      each [] v = refl
      each (m ∷ ms) v = λ t. wait_is m v.0 t ∷ each ms v.1 t

  -- the job of the plan, by its parts
  job_is : (previous host : Option ℕ) (needs : List Need) (commands signals : List ℕ) →
      previous ≡ last_before s j (in_queue b.queue) → host ≡ last_before s j is_step →
      needs ≡ map (need_by s x.signals.counts.items) b.waits →
      commands ≡ range_with_len x.commands (length b.commands) →
      signals ≡ range_with_len (length (signals_before s j)) (length (job_signals (j, BatchJob b))) →
      batch_job b previous host needs commands signals ≡ plan_job s (j, BatchJob b)
  job_is previous host needs commands signals e_previous e_host e_needs e_commands e_signals =
      let e : x.commands ≡ sum_by commands_in (take j s.jobs) = k.commands
      ∙ commands_total (take j s.jobs) in
      λ t. record {
        line = b.line;
        lane = QueueLane b.queue;
        previous = e_previous t;
        host_before = e_host t;
        any = false;
        needs = (e_needs ∙ needs_are) t;
        asked = [];
        idle_after = [];
        commands = (e_commands ∙ ap (λ n. range_with_len n (length b.commands)) e) t;
        signals = (e_signals ∙ sym (job_ops_are s j (BatchJob b) at)) t;
        question = Silent;
      }

  last_push : last_of_queues s (j + 1) ≡ set (last_of_queues s j) b.queue (Some j)
  last_push =
      map_range-set (λ q. last_before s j (in_queue q)) (λ q. last_before s (j + 1) (in_queue q))
      (length s.queues) b.queue (Some j)
      (last_before-push s j (BatchJob b) at (in_queue b.queue)
      ∙ ap (λ t. cond t (Some j) (last_before s j (in_queue b.queue))) (eq-eqb b.queue b.queue refl))
      (λ q ne. last_before-push s j (BatchJob b) at (in_queue q)
      ∙ ap (λ t. cond t (Some j) (last_before s j (in_queue q))) (ne_eqb q b.queue ne))

  pub previous_is : (d : Option ℕ) → get_or x.last.items b.queue d
      ≡ last_before s j (in_queue b.queue)
  previous_is d = get_map_range (λ q. last_before s j (in_queue q)) (length s.queues) b.queue
      x.last.items d k.last is_valid.queue

  pub signal_count : (n m : ℕ) → n ≡ length (signals_before s j) →
      m ≡ length (signals_before s (j + 1)) → m - n ≡ length (job_signals (j, BatchJob b))
  signal_count n m e f =
      let a = ap length (signals_before-push s j (BatchJob b) at) in
      let c = length-append (signals_before s j) (job_signals (j, BatchJob b)) in
      omega arith

  pub lowered_push : (new : Lowered) (previous d : Option ℕ) (needs : List Need)
      (commands signals : List ℕ) → previous ≡ get_or x.last.items b.queue d →
      needs ≡ map (need_by s x.signals.counts.items) b.waits →
      commands ≡ range_with_len x.commands (length b.commands) →
      signals ≡ range_with_len (length (signals_before s j)) (length (job_signals (j, BatchJob b))) →
      new.jobs.items ≡ x.jobs.items ++ batch_job b previous x.host needs commands signals ∷ [] →
      new.commands ≡ x.commands + length b.commands →
      new.last.items ≡ set x.last.items b.queue (Some j) → new.host ≡ x.host →
      new.fences.items ≡ after_batch x.fences.items b → AreSignals s new.signals →
      length new.signals.ops.items ≡ length (signals_before s (j + 1)) → AreLowered s (j + 1) new
  lowered_push new previous d needs commands signals e_previous e_needs e_commands e_signals new_jobs
      new_commands new_last new_host new_fences new_signals new_count =
      let count = ap length (commands_push s.jobs j (BatchJob b) at) in
      let sum = length-append (flat_map batch_commands (take j s.jobs)) b.commands in
      let was = k.commands in
      record {
        jobs = new_jobs ∙ ((λ t. k.jobs t
            ++ job_is previous x.host needs commands signals (e_previous ∙ previous_is d) k.host
            e_needs e_commands e_signals t ∷ []) ∙ sym (jobs_push s j (BatchJob b) at));
        commands = omega arith;
        last = new_last ∙ (ap (λ ls. set ls b.queue (Some j)) k.last ∙ sym last_push);
        host = new_host ∙ (k.host ∙ sym (last_before-push s j (BatchJob b) at is_step));
        fences = new_fences
            ∙ fences_batch s j x.fences.items k.fences b at (λ m e. (is_valid.fence m e).exists);
        signals = new_signals;
        operations = new_count;
      }

-- A host step

module _ (s : Script) (i : IsRead s) (j : ℕ) (h : HostLine) (at : slice_get s.jobs j ≡ Some (Host h))
    (x : Lowered) (k : AreLowered s j x) where
  step_is_valid : IsValidStep s h.step
  step_is_valid = read_steps s i j h at

  fences_length : length x.fences.items ≡ length s.semaphores
  fences_length = states_length s j x.fences.items k.fences

  fence_within : (f : ℕ) → is_fence_at s f ≡ true → f < length x.fences.items
  fence_within f e = let l = kind_exists s is_fence f e in let n = fences_length in omega arith

  pub waited_exist : (f : ℕ) → h.step ≡ FenceWait f → f < length x.fences.items
  waited_exist f e = fence_within f (subst (IsValidStep s) e step_is_valid)

  pub polled_exist : (f : ℕ) → h.step ≡ FencePoll f → f < length x.fences.items
  polled_exist f e = fence_within f (subst (IsValidStep s) e step_is_valid)

  pub reset_within : (f : ℕ) → h.step ≡ FenceReset f → f < length x.fences.items
  reset_within f e = fence_within f (subst (IsValidStep s) e step_is_valid)

  pub few_fence_resets : All (λ y. y.resets < 2 ^ 32) x.fences.items
  few_fence_resets =
      let inside = get_within s.jobs j (Host h) at in
      resets_few s j x.fences.items k.fences i (omega arith)

  pub lowered_step : (new : Lowered) (job : PlanJob) → job ≡ plan_job s (j, Host h) →
      new.jobs.items ≡ x.jobs.items ++ job ∷ [] → new.commands ≡ x.commands →
      new.last.items ≡ x.last.items → new.host ≡ Some j →
      new.fences.items ≡ after_step x.fences.items h.step → AreSignals s new.signals →
      length new.signals.ops.items ≡ length (signals_before s (j + 1)) → AreLowered s (j + 1) new
  lowered_step new job e_job new_jobs new_commands new_last new_host new_fences new_signals new_count =
      let count = ap length (commands_push s.jobs j (Host h) at) in
      let sum = length-append (flat_map batch_commands (take j s.jobs)) (batch_commands (Host h)) in
      let was = k.commands in
      record {
        jobs = new_jobs ∙ ((λ t. k.jobs t ++ e_job t ∷ []) ∙ sym (jobs_push s j (Host h) at));
        commands = omega arith;
        last = new_last ∙ (k.last ∙ λ t. map
            (λ q. sym (last_before-push s j (Host h) at (in_queue q)) t)
            (range_with_len 0 (length s.queues)));
        host = new_host ∙ sym (last_before-push s j (Host h) at is_step);
        fences = new_fences ∙ fences_step s j x.fences.items k.fences h at
            (λ f e. let l = reset_within f e in let n = fences_length in omega arith);
        signals = new_signals;
        operations = new_count;
      }
