-- The plan of a script depends on the numbers of its lines in nothing but the lines that it names, and its runs in
-- nothing at all.
use Rattle.std.proofs.Common.{◌≡◌, ℕ, ◌+◌, Bool, false, ◌&&◌, ◌||◌, cond, List, [], ◌∷◌, ◌++◌, map, length, take}
use Rattle.std.proofs.Common.{fold, filter, count_by, Option, Some, None, option_map, refl, sym, ap, ◌∙◌}
use Rattle.std.specs.Prelude.{nat_lt, nat_le, ◌==◌}
use Rattle.std.specs.List.{slice_get, flat_map, enumerate_from, range_with_len, filter_map, cons_option}
use Rattle.std.specs.List.{position_or_len}
use Rattle.std.specs.Option.{option_map_or, option_to_list}
use Rattle.std.proofs.lemmas.List.{take-map, length-map, map-append}
use Rattle.vq_model.specs.declared.plan.Need.{Need}
use Rattle.vq_model.specs.declared.plan.Op.{Op}
use Rattle.vq_model.specs.declared.plan.PlanJob.{PlanJob}
use Rattle.vq_model.specs.declared.plan.Lane.{Lane}
use Rattle.vq_model.specs.declared.plan.Lane.TheVariants.{Host as HostLane, Queue as QueueLane}
use Rattle.vq_model.specs.declared.script.HostStep.{HostStep}
use Rattle.vq_model.specs.declared.script.HostStep.TheVariants.{Signal, WaitAll, WaitAny, PollAll, PollAny, Read}
use Rattle.vq_model.specs.declared.script.HostStep.TheVariants.{FenceWait, FencePoll, Idle}
use Rattle.vq_model.specs.declared.script.Job.{Job}
use Rattle.vq_model.specs.declared.script.Job.TheVariants.{Host, Batch as BatchJob}
use Rattle.vq_model.specs.declared.script.Mark.{Mark}
use Rattle.vq_model.specs.declared.script.Pair.{Pair}
use Rattle.vq_model.specs.declared.script.Script.{Script}
use Rattle.vq_model.specs.declared.script.Semaphore.{Semaphore}
use Rattle.vq_model.specs.Context.{is_timeline}
use Rattle.vq_model.specs.Lowering.{names_fence, resets_fence, effective_resets, fence_value, of_pair, of_wait}
use Rattle.vq_model.specs.Lowering.{step_needs, step_asked, lane_of, last_from, last_before, commands_in}
use Rattle.vq_model.specs.Lowering.{job_commands, job_ops, step_idle, plan_job, batch_commands, plan_of}
use Rattle.vq_model.specs.Plan.{Plan, same_lane}
use Rattle.vq_model.specs.SameScript.{mark_without_line, command_without_line, job_without_lines}
use Rattle.vq_model.specs.SameScript.{semaphore_without_line, buffer_without_line, queue_without_line, without_lines}
use Rattle.vq_model.specs.Signals.{is_timeline_at, initial_value, Signaling, of_mark, step_signals, job_signals}
use Rattle.vq_model.specs.Signals.{all_signals, signals_semaphore, signal_value, values_from, value_at, insert_op}
use Rattle.vq_model.specs.Signals.{chain_ops, op_at}
use Rattle.vq_ground.proofs.Gets.{get-map}

-- Lists

pub map_map : {A B C : Type 0} (f : B → C) (g : A → B) (xs : List A) → map f (map g xs) ≡ map (λ x. f (g x)) xs
map_map f g [] = refl
map_map f g (x ∷ xs) = ap (λ ys. f (g x) ∷ ys) (map_map f g xs)

pub map_alike : {A B : Type 0} (f g : A → B) (xs : List A) → ((x : A) → f x ≡ g x) → map f xs ≡ map g xs
map_alike f g [] same = refl
map_alike f g (x ∷ xs) same = ap (λ y. y ∷ map f xs) (same x) ∙ ap (λ ys. g x ∷ ys) (map_alike f g xs same)

pub same_kept : (f g : ℕ → Bool) (xs : List ℕ) → ((x : ℕ) → f x ≡ g x) → filter f xs ≡ filter g xs
same_kept f g [] same = refl
same_kept f g (x ∷ xs) same =
    ap (λ b. cond b (x ∷ filter f xs) (filter f xs)) (same x)
    ∙ ap (λ ys. cond (g x) (x ∷ ys) ys) (same_kept f g xs same)

pub filter_mapped_alike : {B : Type 0} (f g : ℕ → Option B) (xs : List ℕ) → ((x : ℕ) → f x ≡ g x) → filter_map f xs
    ≡ filter_map g xs
filter_mapped_alike f g [] same = refl
filter_mapped_alike f g (x ∷ xs) same =
    ap (λ o. cons_option o (filter_map f xs)) (same x)
    ∙ ap (λ ys. cons_option (g x) ys) (filter_mapped_alike f g xs same)

-- Plans without the numbers of lines

abbrev pub need_without_line : Need → Need
need_without_line n = record n { line = 0 }

abbrev pub op_without_line : Op → Op
op_without_line o = record o { line = 0 }

abbrev pub plan_job_without_lines : PlanJob → PlanJob
plan_job_without_lines x =
    record x { line = 0; needs = map need_without_line x.needs; asked = map need_without_line x.asked }

abbrev pub plan_without_lines : Plan → Plan
plan_without_lines p =
    record {
      script = without_lines p.script;
      sizes = p.sizes;
      commands = map command_without_line p.commands;
      jobs = map plan_job_without_lines p.jobs;
      ops = map op_without_line p.ops;
      initials = p.initials;
      chains = p.chains;
    }

abbrev signal_without_line : Signaling → Signaling
signal_without_line x = record x { line = 0 }

-- Jobs

same_lane_of : (job : Job) → lane_of (job_without_lines job) ≡ lane_of job
same_lane_of (Host h) = refl
same_lane_of (BatchJob b) = refl

same_last : (n : ℕ) (l : Lane) (jobs : List Job) (found : Option ℕ) →
    last_from n (λ x. same_lane l (lane_of x)) (map job_without_lines jobs) found
    ≡ last_from n (λ x. same_lane l (lane_of x)) jobs found
same_last n l [] found = refl
same_last n l (job ∷ jobs) found =
    same_last (n + 1) l jobs (cond (same_lane l (lane_of (job_without_lines job))) (Some n) found)
    ∙ ap (λ m. last_from (n + 1) (λ x. same_lane l (lane_of x)) jobs (cond (same_lane l m) (Some n) found))
    (same_lane_of job)

same_resets : (f : ℕ) (named : Bool) (jobs : List Job) → effective_resets f named (map job_without_lines jobs)
    ≡ effective_resets f named jobs
same_resets f named [] = refl
same_resets f named (job ∷ jobs) =
    by_test (resets_fence f job && named) (resets job) (names job) (same_resets f false jobs)
    (λ b. same_resets f b jobs)
  where
    resets : (x : Job) → (resets_fence f (job_without_lines x) && named) ≡ (resets_fence f x && named)
    resets (Host h) = refl
    resets (BatchJob b) = refl

    fence : (o : Option Mark) → option_map_or (λ m. m.semaphore == f) (option_map mark_without_line o) false
        ≡ option_map_or (λ m. m.semaphore == f) o false
    fence None = refl
    fence (Some m) = refl

    names : (x : Job) → (named || names_fence f (job_without_lines x)) ≡ (named || names_fence f x)
    names (Host h) = refl
    names (BatchJob b) = ap (λ c. named || c) (fence b.fence)

    by_test : (b : Bool) → (resets_fence f (job_without_lines job) && named) ≡ b →
        (named || names_fence f (job_without_lines job)) ≡ (named || names_fence f job) →
        effective_resets f false (map job_without_lines jobs) ≡ effective_resets f false jobs →
        ((c : Bool) → effective_resets f c (map job_without_lines jobs) ≡ effective_resets f c jobs) →
        cond (resets_fence f (job_without_lines job)
        && named) (1 + effective_resets f false (map job_without_lines jobs))
        (effective_resets f (named || names_fence f (job_without_lines job)) (map job_without_lines jobs))
        ≡ cond b (1 + effective_resets f false jobs) (effective_resets f (named || names_fence f job) jobs)
    by_test b e n r each =
        ap (λ c. cond c (1 + effective_resets f false (map job_without_lines jobs))
        (effective_resets f (named || names_fence f (job_without_lines job)) (map job_without_lines jobs))) e
        ∙ (ap (λ k. cond b (1 + k) (effective_resets f (named || names_fence f (job_without_lines job))
        (map job_without_lines jobs))) r
        ∙ (ap (λ c. cond b (1 + effective_resets f false jobs) (effective_resets f c (map job_without_lines jobs))) n
        ∙ ap (λ k. cond b (1 + effective_resets f false jobs) k) (each (named || names_fence f job))))

same_commands_in : (job : Job) → commands_in (job_without_lines job) ≡ commands_in job
same_commands_in (Host h) = refl
same_commands_in (BatchJob b) = length-map b.commands command_without_line

same_offset : (n : ℕ) (jobs : List Job) → fold (λ k x. k + commands_in x) n (map job_without_lines jobs)
    ≡ fold (λ k x. k + commands_in x) n jobs
same_offset n [] = refl
same_offset n (job ∷ jobs) =
    same_offset (n + commands_in (job_without_lines job)) jobs
    ∙ ap (λ c. fold (λ k x. k + commands_in x) (n + c) jobs) (same_commands_in job)

same_batch_commands : (jobs : List Job) → flat_map batch_commands (map job_without_lines jobs)
    ≡ map command_without_line (flat_map batch_commands jobs)
same_batch_commands [] = refl
same_batch_commands (Host h ∷ jobs) = same_batch_commands jobs
same_batch_commands (BatchJob b ∷ jobs) =
    ap (λ cs. map command_without_line b.commands ++ cs) (same_batch_commands jobs)
    ∙ sym (map-append command_without_line b.commands (flat_map batch_commands jobs))

-- Signals

signals_of_job : (j : ℕ) (job : Job) → job_signals (j, job_without_lines job)
    ≡ map signal_without_line (job_signals (j, job))
signals_of_job j (Host h) = by_step h.step
  where
    by_step : (t : HostStep) → step_signals j 0 t ≡ map signal_without_line (step_signals j h.line t)
    by_step (Signal pair) = refl
    by_step other = refl
signals_of_job j (BatchJob b) =
    ap (map (of_mark j)) (marks b.signals b.fence)
    ∙ (map_map (of_mark j) mark_without_line (b.signals ++ option_to_list b.fence)
    ∙ sym (map_map signal_without_line (of_mark j) (b.signals ++ option_to_list b.fence)))
  where
    marks : (ms : List Mark) (o : Option Mark) →
        map mark_without_line ms ++ option_to_list (option_map mark_without_line o)
        ≡ map mark_without_line (ms ++ option_to_list o)
    marks [] None = refl
    marks [] (Some m) = refl
    marks (x ∷ ms) o = ap (λ ys. mark_without_line x ∷ ys) (marks ms o)

signals_from : (n : ℕ) (jobs : List Job) → flat_map job_signals (enumerate_from n (map job_without_lines jobs))
    ≡ map signal_without_line (flat_map job_signals (enumerate_from n jobs))
signals_from n [] = refl
signals_from n (job ∷ jobs) =
    ap (λ xs. xs ++ flat_map job_signals (enumerate_from (n + 1) (map job_without_lines jobs))) (signals_of_job n job)
    ∙ (ap (λ ys. map signal_without_line (job_signals (n, job)) ++ ys) (signals_from (n + 1) jobs)
    ∙ sym (map-append signal_without_line (job_signals (n, job))
    (flat_map job_signals (enumerate_from (n + 1) jobs))))

count_from : (test : Signaling → Bool) → ((x : Signaling) → test (signal_without_line x) ≡ test x) →
    (n : ℕ) (xs : List Signaling) →
    fold (λ a x. a + cond (test x) 1 0) n (map signal_without_line xs) ≡ fold (λ a x. a + cond (test x) 1 0) n xs
count_from test same n [] = refl
count_from test same n (x ∷ xs) =
    count_from test same (n + cond (test (signal_without_line x)) 1 0) xs
    ∙ ap (λ b. fold (λ a y. a + cond (test y) 1 0) (n + cond b 1 0) xs) (same x)

same_count : (test : Signaling → Bool) → ((x : Signaling) → test (signal_without_line x) ≡ test x) →
    (xs : List Signaling) → count_by test (map signal_without_line xs) ≡ count_by test xs
same_count test same xs = count_from test same 0 xs

-- what waits for a fence needs
abbrev fence_needs : ℕ → ℕ → List Need
fence_needs f v = record { line = 0; chain = f; value = v; from = 1 } ∷ []

module _ (s : Script) where
  abbrev bare : Script
  bare = without_lines s

  same_signals : all_signals bare ≡ map signal_without_line (all_signals s)
  same_signals = signals_from 0 s.jobs

  same_timeline : (t : ℕ) → is_timeline_at bare t ≡ is_timeline_at s t
  same_timeline t =
      ap (λ o. option_map_or is_timeline (option_map (λ x. x.kind) o) false)
      (get-map semaphore_without_line s.semaphores t)
      ∙ by_get (slice_get s.semaphores t)
    where
      by_get : (o : Option Semaphore) →
          option_map_or is_timeline (option_map (λ x. x.kind) (option_map semaphore_without_line o)) false
          ≡ option_map_or is_timeline (option_map (λ x. x.kind) o) false
      by_get None = refl
      by_get (Some x) = refl

  same_signal_value : (before : List Signaling) (x : Signaling) →
      signal_value bare (map signal_without_line before) (signal_without_line x) ≡ signal_value s before x
  same_signal_value before x =
      ap (λ b. cond b x.value (count_by (signals_semaphore x.semaphore) (map signal_without_line before) + 1))
      (same_timeline x.semaphore)
      ∙ ap (λ n. cond (is_timeline_at s x.semaphore) x.value (n + 1))
      (same_count (signals_semaphore x.semaphore) (λ y. refl) before)

  same_values : (before xs : List Signaling) →
      values_from bare (map signal_without_line before) (map signal_without_line xs) ≡ values_from s before xs
  same_values before [] = refl
  same_values before (x ∷ xs) =
      ap (λ v. v ∷ values_from bare (map signal_without_line before ++ signal_without_line x ∷ [])
      (map signal_without_line xs)) (same_signal_value before x)
      ∙ (ap (λ ys. signal_value s before x ∷ values_from bare ys (map signal_without_line xs))
      (sym (map-append signal_without_line before (x ∷ [])))
      ∙ ap (λ vs. signal_value s before x ∷ vs) (same_values (before ++ x ∷ []) xs))

  same_value : (e : ℕ) → value_at bare e ≡ value_at s e
  same_value e =
      ap (λ (xs : List Signaling). option_map_or (λ v. v) (slice_get (values_from bare [] xs) e) 0) same_signals
      ∙ ap (λ vs. option_map_or (λ v. v) (slice_get vs e) 0) (same_values [] (all_signals s))

  same_insert : (e : ℕ) (xs : List ℕ) → insert_op bare e xs ≡ insert_op s e xs
  same_insert e [] = refl
  same_insert e (f ∷ fs) =
      ap (λ v. cond (nat_le v (value_at bare e)) (f ∷ insert_op bare e fs) (e ∷ f ∷ fs)) (same_value f)
      ∙ (ap (λ v. cond (nat_le (value_at s f) v) (f ∷ insert_op bare e fs) (e ∷ f ∷ fs)) (same_value e)
      ∙ ap (λ ys. cond (nat_le (value_at s f) (value_at s e)) (f ∷ ys) (e ∷ f ∷ fs)) (same_insert e fs))

  same_inserts : (es acc : List ℕ) → fold (λ ops e. insert_op bare e ops) acc es
      ≡ fold (λ ops e. insert_op s e ops) acc es
  same_inserts [] acc = refl
  same_inserts (e ∷ es) acc =
      same_inserts es (insert_op bare e acc) ∙ ap (λ xs. fold (λ ops f. insert_op s f ops) xs es) (same_insert e acc)

  -- a test of a signal that stands at a place
  same_signal_test : (test : Signaling → Bool) → ((x : Signaling) → test (signal_without_line x) ≡ test x) →
      (e : ℕ) → option_map_or test (slice_get (all_signals bare) e) false
      ≡ option_map_or test (slice_get (all_signals s) e) false
  same_signal_test test same e =
      ap (λ (xs : List Signaling). option_map_or test (slice_get xs e) false) same_signals
      ∙ (ap (λ o. option_map_or test o false) (get-map signal_without_line (all_signals s) e)
      ∙ by_get (slice_get (all_signals s) e))
    where
      by_get : (o : Option Signaling) → option_map_or test (option_map signal_without_line o) false
          ≡ option_map_or test o false
      by_get None = refl
      by_get (Some x) = same x

  same_signal_count : length (all_signals bare) ≡ length (all_signals s)
  same_signal_count = ap length same_signals ∙ length-map (all_signals s) signal_without_line

  same_signals_kept : (test : Signaling → Bool) → ((x : Signaling) → test (signal_without_line x) ≡ test x) →
      filter (λ e. option_map_or test (slice_get (all_signals bare) e) false)
      (range_with_len 0 (length (all_signals bare)))
      ≡ filter (λ e. option_map_or test (slice_get (all_signals s) e) false) (range_with_len 0 (length (all_signals s)))
  same_signals_kept test same =
      ap (λ n. filter (λ e. option_map_or test (slice_get (all_signals bare) e) false) (range_with_len 0 n))
      same_signal_count
      ∙ same_kept _ _ (range_with_len 0 (length (all_signals s))) (same_signal_test test same)

  same_chain : (t : ℕ) → chain_ops bare t ≡ chain_ops s t
  same_chain t =
      ap (λ es. fold (λ ops e. insert_op bare e ops) [] es) (same_signals_kept (signals_semaphore t) (λ x. refl))
      ∙ same_inserts (filter (λ e. option_map_or (signals_semaphore t) (slice_get (all_signals s) e) false)
      (range_with_len 0 (length (all_signals s)))) []

  same_op : (e : ℕ) (x : Signaling) → op_at bare (e, signal_without_line x) ≡ op_without_line (op_at s (e, x))
  same_op e x =
      ap (λ (xs : List ℕ). record {
        chain = x.semaphore;
        index = position_or_len (λ f. f == e) xs;
        value =
            value_at bare e;
        job = x.job;
        line = 0;
      }) (same_chain x.semaphore)
      ∙ ap (λ (v : ℕ). record {
        chain = x.semaphore;
        index =
            position_or_len (λ f. f == e) (chain_ops s x.semaphore);
        value = v;
        job = x.job;
        line = 0;
      }) (same_value e)

  same_ops : (n : ℕ) (xs : List Signaling) → map (op_at bare) (enumerate_from n (map signal_without_line xs))
      ≡ map op_without_line (map (op_at s) (enumerate_from n xs))
  same_ops n [] = refl
  same_ops n (x ∷ xs) =
      ap (λ o. o ∷ map (op_at bare) (enumerate_from (n + 1) (map signal_without_line xs))) (same_op n x)
      ∙ ap (λ os. op_without_line (op_at s (n, x)) ∷ os) (same_ops (n + 1) xs)

  -- Jobs of the plan

  same_last_before : (j : ℕ) (l : Lane) → last_before bare j (λ x. same_lane l (lane_of x))
      ≡ last_before s j (λ x. same_lane l (lane_of x))
  same_last_before j l =
      ap (λ (jobs : List Job). last_from 0 (λ x. same_lane l (lane_of x)) jobs None)
      (take-map job_without_lines j s.jobs)
      ∙ same_last 0 l (take j s.jobs) None

  same_fence_value : (j f : ℕ) → fence_value bare j f ≡ fence_value s j f
  same_fence_value j f =
      ap (λ (jobs : List Job). effective_resets f false jobs + 1) (take-map job_without_lines j s.jobs)
      ∙ ap (λ n. n + 1) (same_resets f false (take j s.jobs))

  same_wait : (j : ℕ) (m : Mark) → of_wait bare j (mark_without_line m) ≡ need_without_line (of_wait s j m)
  same_wait j m =
      ap (λ (b : Bool). record {
        line = 0;
        chain = m.semaphore;
        value =
            cond b m.value (count_by (λ x. (x.semaphore == m.semaphore) && nat_lt x.job j) (all_signals bare));
        from =
            m.from;
      }) (same_timeline m.semaphore)
      ∙ ap (λ (n : ℕ). record {
        line = 0;
        chain = m.semaphore;
        value =
            cond (is_timeline_at s m.semaphore) m.value n;
        from = m.from;
      })
      (ap (count_by (λ x. (x.semaphore == m.semaphore) && nat_lt x.job j)) same_signals
      ∙ same_count (λ x. (x.semaphore == m.semaphore) && nat_lt x.job j) (λ x. refl) (all_signals s))

  same_pairs : (line : ℕ) (pairs : List Pair) → map (of_pair 0) pairs ≡ map need_without_line (map (of_pair line) pairs)
  same_pairs line [] = refl
  same_pairs line (x ∷ pairs) = ap (λ ns. of_pair 0 x ∷ ns) (same_pairs line pairs)

  fence_need : (j f : ℕ) → fence_needs f (fence_value bare j f) ≡ fence_needs f (fence_value s j f)
  fence_need j f = ap (fence_needs f) (same_fence_value j f)

  same_step_needs : (j line : ℕ) (t : HostStep) → step_needs bare j 0 t ≡ map need_without_line (step_needs s j line t)
  same_step_needs j line (WaitAll pairs) = same_pairs line pairs
  same_step_needs j line (WaitAny pairs) = same_pairs line pairs
  same_step_needs j line (FenceWait f) = fence_need j f
  same_step_needs j line other = refl

  same_step_asked : (j line : ℕ) (t : HostStep) → step_asked bare j 0 t ≡ map need_without_line (step_asked s j line t)
  same_step_asked j line (PollAll pairs) = same_pairs line pairs
  same_step_asked j line (PollAny pairs) = same_pairs line pairs
  same_step_asked j line (FencePoll f) = fence_need j f
  same_step_asked j line (Read t) = refl
  same_step_asked j line other = refl

  same_step_idle : (j : ℕ) (t : HostStep) → step_idle bare j t ≡ step_idle s j t
  same_step_idle j Idle =
      ap (λ n. filter_map (λ q. last_before bare j (λ x. same_lane (QueueLane q) (lane_of x))) (range_with_len 0 n))
      (length-map s.queues queue_without_line)
      ∙ filter_mapped_alike _ _ (range_with_len 0 (length s.queues)) (λ q. same_last_before j (QueueLane q))
  same_step_idle j other = refl

  same_job_ops : (j : ℕ) → job_ops bare j ≡ job_ops s j
  same_job_ops j = same_signals_kept (λ x. x.job == j) (λ x. refl)

  same_waits : (j : ℕ) (ms : List Mark) → map (of_wait bare j) (map mark_without_line ms)
      ≡ map need_without_line (map (of_wait s j) ms)
  same_waits j [] = refl
  same_waits j (m ∷ ms) =
      ap (λ n. n ∷ map (of_wait bare j) (map mark_without_line ms)) (same_wait j m)
      ∙ ap (λ ns. need_without_line (of_wait s j m) ∷ ns) (same_waits j ms)

  same_job_commands : (j : ℕ) (job : Job) → job_commands bare j (job_without_lines job) ≡ job_commands s j job
  same_job_commands j job =
      ap (λ (jobs : List Job). range_with_len (fold (λ n x. n + commands_in x) 0 jobs)
      (commands_in (job_without_lines job))) (take-map job_without_lines j s.jobs)
      ∙ (ap (λ n. range_with_len n (commands_in (job_without_lines job))) (same_offset 0 (take j s.jobs))
      ∙ ap (λ n. range_with_len (fold (λ k x. k + commands_in x) 0 (take j s.jobs)) n) (same_commands_in job))

  same_job : (j : ℕ) (job : Job) → plan_job bare (j, job_without_lines job)
      ≡ plan_job_without_lines (plan_job s (j, job))
  same_job j (Host h) =
      ap (λ (x : Option ℕ × List Need × List Need × List ℕ × List ℕ).
      record {
        line = 0;
        lane = HostLane;
        previous = x.0;
        host_before = None;
        any = (plan_job s (j, Host h)).any;
        needs = x.1;
        asked = x.2;
        idle_after = x.3;
        commands = [];
        signals = x.4;
        question = (plan_job s (j, Host h)).question;
      }
      ) (λ i. (
        same_last_before j HostLane i,
        same_step_needs j h.line h.step i,
        same_step_asked j h.line h.step i,
        same_step_idle j h.step i,
        same_job_ops j i,
      ))
  same_job j (BatchJob b) =
      ap (λ (x : Option ℕ × Option ℕ × List Need × List ℕ × List ℕ).
      record {
        line = 0;
        lane = QueueLane b.queue;
        previous = x.0;
        host_before = x.1;
        any = false;
        needs = x.2;
        asked = [];
        idle_after = [];
        commands = x.3;
        signals = x.4;
        question = (plan_job s (j, BatchJob b)).question;
      }
      ) (λ i. (
        same_last_before j (QueueLane b.queue) i,
        same_last_before j HostLane i,
        same_waits j b.waits i,
        same_job_commands j (BatchJob b) i,
        same_job_ops j i,
      ))

  same_jobs : (n : ℕ) (jobs : List Job) → map (plan_job bare) (enumerate_from n (map job_without_lines jobs))
      ≡ map plan_job_without_lines (map (plan_job s) (enumerate_from n jobs))
  same_jobs n [] = refl
  same_jobs n (job ∷ jobs) =
      ap (λ x. x ∷ map (plan_job bare) (enumerate_from (n + 1) (map job_without_lines jobs))) (same_job n job)
      ∙ ap (λ xs. plan_job_without_lines (plan_job s (n, job)) ∷ xs) (same_jobs (n + 1) jobs)

  same_chains : (ts : List ℕ) → map (chain_ops bare) ts ≡ map (chain_ops s) ts
  same_chains ts = map_alike (chain_ops bare) (chain_ops s) ts same_chain

  pub same_plan : plan_of bare ≡ plan_without_lines (plan_of s)
  same_plan =
      λ i. record {
        script = without_lines s;
        sizes = map_map (λ b. b.size) buffer_without_line s.buffers i;
        commands = same_batch_commands s.jobs i;
        jobs = same_jobs 0 s.jobs i;
        ops = (ap (λ (xs : List Signaling). map (op_at bare) (enumerate_from 0 xs)) same_signals
            ∙ same_ops 0 (all_signals s)) i;
        initials = map_map (λ x. initial_value x.kind) semaphore_without_line s.semaphores i;
        chains = (ap (λ n. map (chain_ops bare) (range_with_len 0 n)) (length-map s.semaphores semaphore_without_line)
            ∙ same_chains (range_with_len 0 (length s.semaphores))) i;
      }
