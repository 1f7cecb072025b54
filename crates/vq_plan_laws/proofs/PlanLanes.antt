-- The plan of a script that was read keeps its lanes and its chains.
use Rattle.std.proofs.Common.{◌≡◌, ◌+◌, true, refl, arith, ap, ℕ, Option, Some, None, ◌∙◌, ◌<◌, Bool, length, take, sym, ◌⊎◌, inl, inr, ◌-◌, ◌≤◌, List, [], ◌∷◌, ◌++◌, suc, ◌*◌, zero, ◌^◌, false, nat_lt, filter, All, subst, lit≤, map, get_or}
use Rattle.std.proofs.lemmas.Bool.{eq-eqb, eqb-true, false≢true, cases_lt, cond-true, cond-false}
use Rattle.vq_model.specs.declared.plan.Lane.{Lane}
use Rattle.vq_model.specs.declared.plan.Lane.TheVariants.{Host as HostLane, Queue as QueueLane}
use Rattle.vq_model.specs.Plan.{same_lane, previous, job_of, chain_of, chain, resolver, initial, needs, waits_for_any}
use Rattle.vq_ground.specs.Lists.{has}
use Rattle.vq_model.specs.Lanes.{lane_number, lane_at, IsJustBefore, KeepsLanes, KeepsSemaphores}
use Rattle.std.specs.List.{slice_get, flat_map, enumerate_from, filter_map, cons_option, range_with_len}
use Rattle.std.specs.Option.{option_map_or, option_to_list}
use Rattle.vq_model.specs.declared.script.Script.{Script}
use Rattle.vq_model.specs.declared.script.Job.{Job}
use Rattle.vq_model.specs.declared.script.Job.TheVariants.{Host, Batch}
use Rattle.vq_model.specs.Lowering.{lane_of, plan_job, plan_of, last_before, of_wait, of_pair, step_needs, fence_value}
use Rattle.vq_plan_laws.proofs.PlanParts.{part_is, op_job_is, op_chain_is}
use Rattle.vq_plan_laws.proofs.LastBefore.{IsLast, HasNone, last_cases}
use Rattle.vq_ground.proofs.Gets.{get_some, get-take, get-take_within, get-append, get-append_left, get_within}
use Rattle.vq_model.specs.Signals.{Signaling, job_signals, all_signals, op_at, initial_value, chain_ops, of_mark, step_signals}
use Rattle.vq_plan_laws.proofs.Owners.{owner, each_job}
use Rattle.vq_ground.proofs.Options.{some_of}
use Rattle.std.proofs.lemmas.List.{length-append, length-map}
use Rattle.vq_ground.proofs.Lists.{has_cases}
use Rattle.std.proofs.lemmas.List.Elements.{All-map, All-cons, All-nil}
use Rattle.vq_model.specs.declared.script.Mark.{Mark}
use Rattle.vq_model.specs.declared.script.HostStep.{HostStep}
use Rattle.vq_model.specs.declared.script.HostLine.{HostLine}
use Rattle.vq_model.specs.declared.script.HostStep.TheVariants.{Signal, WaitAll, WaitAny, FenceWait}
use Rattle.vq_model.specs.declared.script.Pair.{Pair}
use Rattle.vq_model.specs.declared.plan.Need.{Need}
use Rattle.vq_model.specs.declared.plan.PlanJob.{PlanJob}
use Rattle.vq_model.specs.Edges.{AtEnd, must_finish, awaited_at}
use Rattle.vq_model.specs.ValidScripts.{IsValid, IsValidStep, IsTimelinePair, HasValidBatches, HasValidSteps}
use Rattle.vq_model.specs.Context.{is_timeline, is_fence}
use Rattle.vq_reading_laws.proofs.Cited.{kind_exists, jobs_fit}
use Rattle.vq_model.specs.Limits.{limits_of}
use Rattle.vq_ground.proofs.Searches.{find_member}
use Rattle.vq_plan_laws.proofs.WellFormedPlans.{well_formed}

-- Lanes by number

same_number : (a b : Lane) → lane_number a ≡ lane_number b → same_lane a b ≡ true
same_number HostLane HostLane e = refl
same_number HostLane (QueueLane r) e = absurd (let d : 0 ≡ r + 1 = e in omega arith)
same_number (QueueLane q) HostLane e = absurd (let d : q + 1 ≡ 0 = e in omega arith)
same_number (QueueLane q) (QueueLane r) e = eq-eqb q r (let d : q + 1 ≡ r + 1 = e in omega arith)

number_same : (a b : Lane) → same_lane a b ≡ true → lane_number a ≡ lane_number b
number_same HostLane HostLane e = refl
number_same HostLane (QueueLane r) e = absurd (false≢true e)
number_same (QueueLane q) HostLane e = absurd (false≢true e)
number_same (QueueLane q) (QueueLane r) e = ap (λ k. k + 1) (eqb-true q r e)

lane_is : (s : Script) (j : ℕ) → lane_at (plan_of s) j ≡ option_map_or (λ job. lane_number (lane_of job)) (slice_get s.jobs j) 0
lane_is s j = part_is (λ x. lane_number x.lane) 0 s j ∙ by_job (slice_get s.jobs j)
  where
    by_job : (o : Option Job) → option_map_or (λ job. lane_number (plan_job s (j, job)).lane) o 0 ≡ option_map_or (λ job. lane_number (lane_of job)) o 0
    by_job None = refl
    by_job (Some (Host h)) = refl
    by_job (Some (Batch b)) = refl

previous_is : (s : Script) (j : ℕ) (job : Job) → slice_get s.jobs j ≡ Some job → previous (plan_of s) j ≡ last_before s j (λ x. same_lane (lane_of job) (lane_of x))
previous_is s j job e = part_is (λ x. x.previous) None s j ∙ (ap (λ o. option_map_or (λ y. (plan_job s (j, y)).previous) o None) e ∙ by_job job)
  where
    by_job : (y : Job) → (plan_job s (j, y)).previous ≡ last_before s j (λ x. same_lane (lane_of y) (lane_of x))
    by_job (Host h) = refl
    by_job (Batch b) = refl

-- the job before another one in its lane
just_before : (s : Script) (i j : ℕ) → i < j → j < length s.jobs → lane_at (plan_of s) i ≡ lane_at (plan_of s) j → IsJustBefore (plan_of s) i j
just_before s i j l h e = by_jobs (get_some s.jobs i (omega arith)) (get_some s.jobs j h)
  where
    by_jobs : ((x : Job) × (slice_get s.jobs i ≡ Some x)) → ((y : Job) × (slice_get s.jobs j ≡ Some y)) → IsJustBefore (plan_of s) i j
    by_jobs x y = by_last (last_cases 0 test (take j s.jobs) None)
      where
        test : Job → Bool
        test z = same_lane (lane_of y.0) (lane_of z)

        at_i : lane_at (plan_of s) i ≡ lane_number (lane_of x.0)
        at_i = lane_is s i ∙ ap (λ o. option_map_or (λ job. lane_number (lane_of job)) o 0) x.1

        at_j : lane_at (plan_of s) j ≡ lane_number (lane_of y.0)
        at_j = lane_is s j ∙ ap (λ o. option_map_or (λ job. lane_number (lane_of job)) o 0) y.1

        passed : same_lane (lane_of y.0) (lane_of x.0) ≡ true
        passed = same_number (lane_of y.0) (lane_of x.0) (sym at_j ∙ (sym e ∙ at_i))

        in_front : slice_get (take j s.jobs) i ≡ Some x.0
        in_front = get-take j s.jobs i l ∙ x.1

        by_last : HasNone 0 (λ z. same_lane (lane_of y.0) (lane_of z)) (take j s.jobs) None ⊎ IsLast 0 (λ z. same_lane (lane_of y.0) (lane_of z)) (take j s.jobs) None → IsJustBefore (plan_of s) i j
        by_last (inl r) = absurd (false≢true (sym (r.none i x.0 in_front) ∙ passed))
        by_last (inr r) =
            let below = get-take_within j s.jobs r.place r.job r.is in
            let at : slice_get s.jobs r.place ≡ Some r.job = sym (get-take j s.jobs r.place below) ∙ r.is in
            let z : 0 + r.place ≡ r.place = omega arith in
            record {
              job = r.place;
              is_previous = previous_is s j y.0 y.1 ∙ (r.is_found ∙ ap Some z);
              at_or_later = elim (cases_lt r.place i) [ inl m ↦ absurd (false≢true (sym (r.none_after i x.0 m in_front) ∙ passed)) | inr m ↦ m ];
              below = below;
              same_lane = lane_is s r.place ∙ (ap (λ o. option_map_or (λ job. lane_number (lane_of job)) o 0) at ∙ (sym (number_same (lane_of y.0) (lane_of r.job) r.passes) ∙ sym at_j));
            }

-- Operations in the order of their jobs

in_turn : (a : ℕ) (jobs : List Job) (e f : ℕ) (x y : Signaling) → f ≤ e → slice_get (flat_map job_signals (enumerate_from a jobs)) e ≡ Some x → slice_get (flat_map job_signals (enumerate_from a jobs)) f ≡ Some y → y.job ≤ x.job
in_turn a [] e f x y l g h = absurd (let c : None ≡ Some x = g in cc)
in_turn a (job ∷ jobs) e f x y l g h = by_place (cases_lt f (length (job_signals (a, job)))) (in_turn (a + 1) jobs)
  where
    by_place : ((f < length (job_signals (a, job))) ⊎ (length (job_signals (a, job)) ≤ f)) → ((e f : ℕ) (x y : Signaling) → f ≤ e → slice_get (flat_map job_signals (enumerate_from (a + 1) jobs)) e ≡ Some x → slice_get (flat_map job_signals (enumerate_from (a + 1) jobs)) f ≡ Some y → y.job ≤ x.job) → y.job ≤ x.job
    by_place (inl m) r =
        let o = owner a (job ∷ jobs) e x g in
        let n = o.number in
        let c = sym (get-append_left (job_signals (a, job)) (flat_map job_signals (enumerate_from (a + 1) jobs)) f m) ∙ h in
        let d = each_job a job f y c in
        omega arith
    by_place (inr m) r =
        let p : ℕ = e - length (job_signals (a, job)) in
        let q : ℕ = f - length (job_signals (a, job)) in
        let u : length (job_signals (a, job)) + p ≡ e = omega arith in
        let w : length (job_signals (a, job)) + q ≡ f = omega arith in
        r p q x y (omega arith)
        (sym (get-append (job_signals (a, job)) (flat_map job_signals (enumerate_from (a + 1) jobs)) p) ∙ (ap (slice_get (job_signals (a, job) ++ flat_map job_signals (enumerate_from (a + 1) jobs))) u ∙ g))
        (sym (get-append (job_signals (a, job)) (flat_map job_signals (enumerate_from (a + 1) jobs)) q) ∙ (ap (slice_get (job_signals (a, job) ++ flat_map job_signals (enumerate_from (a + 1) jobs))) w ∙ h))

-- the signal of an operation
pub signal_at : (s : Script) (e j : ℕ) → job_of (plan_of s) e ≡ Some j → (x : Signaling) × (slice_get (all_signals s) e ≡ Some x) × (x.job ≡ j)
signal_at s e j c = some_of (λ x. x.job) (slice_get (all_signals s) e) j (sym (op_job_is s e) ∙ c)

ops_rise : (s : Script) (e f i j : ℕ) → job_of (plan_of s) e ≡ Some i → job_of (plan_of s) f ≡ Some j → i < j → e < f
ops_rise s e f i j c d l =
    let x = signal_at s e i c in
    let y = signal_at s f j d in
    elim (cases_lt e f) [
      | inl m ↦ m
      | inr m ↦ (let r = in_turn 0 s.jobs e f x.0 y.0 m x.1 y.1 in let a = x.2 in let b = y.2 in absurd (omega arith))
    ]

-- Counts

few_signals : (n : ℕ) (jobs : List Job) (a : ℕ) → ((j : ℕ) (job : Job) → slice_get jobs j ≡ Some job → (m : ℕ) → length (job_signals (m, job)) ≤ n) → length (flat_map job_signals (enumerate_from a jobs)) ≤ n * length jobs
few_signals n [] a f = omega arith
few_signals n (job ∷ jobs) a f =
    let r = few_signals n jobs (a + 1) (λ j y e m. f (suc j) y e m) in
    let h = f 0 job refl a in
    let c = length-append (job_signals (a, job)) (flat_map job_signals (enumerate_from (a + 1) jobs)) in
    let d : n * suc (length jobs) ≡ n + n * length jobs = grind arith in
    omega arith

pub count_ops : (s : Script) → length (plan_of s).ops ≡ length (all_signals s)
count_ops s = length-map (enumerate_from 0 (all_signals s)) (op_at s) ∙ count 0 (all_signals s)
  where
    count : (a : ℕ) (xs : List Signaling) → length (enumerate_from a xs) ≡ length xs
    count a [] = refl
    count a (x ∷ xs) = let r = count (a + 1) xs in omega arith

pub count_jobs : (s : Script) → length (plan_of s).jobs ≡ length s.jobs
count_jobs s = length-map (enumerate_from 0 s.jobs) (plan_job s) ∙ count 0 s.jobs
  where
    count : (a : ℕ) (xs : List Job) → length (enumerate_from a xs) ≡ length xs
    count a [] = refl
    count a (x ∷ xs) = let r = count (a + 1) xs in omega arith

module _ (s : Script) (v : IsValid s) (b : HasValidBatches s) where
  -- the signals of a job are those of a batch and its fence at most
  abbrev most_signals : ℕ
  most_signals = (limits_of s.version).signals + 1

  few_of_job : (j : ℕ) (job : Job) → slice_get s.jobs j ≡ Some job → (m : ℕ) → length (job_signals (m, job)) ≤ most_signals
  few_of_job j (Host h) e m = by_step h.step
    where
      by_step : (t : HostStep) → length (step_signals m h.line t) ≤ most_signals
      by_step (Signal pair) = omega arith
      by_step other = omega arith
  few_of_job j (Batch x) e m =
      let few = (b j x e).few_signals in
      let c = length-map (x.signals ++ option_to_list x.fence) (of_mark m) in
      let d = length-append x.signals (option_to_list x.fence) in
      let one = few_fences x.fence in
      omega arith
    where
      few_fences : (f : Option Mark) → length (option_to_list f) ≤ 1
      few_fences None = lit≤ tt
      few_fences (Some f) = lit≤ tt

  op_within : (e t : ℕ) → chain_of (plan_of s) e ≡ Some t → e < length (plan_of s).ops
  op_within e t c =
      let x = some_of (λ y. y.semaphore) (slice_get (all_signals s) e) t (sym (op_chain_is s e) ∙ c) in
      let w = get_within (all_signals s) e x.0 x.1 in
      let n = count_ops s in
      omega arith

  job_exists : (e i : ℕ) → job_of (plan_of s) e ≡ Some i → i < length (plan_of s).jobs
  job_exists e i c =
      let x = signal_at s e i c in
      let own = owner 0 s.jobs e x.0 x.1 in
      let w = get_within s.jobs own.place own.job own.is in
      let n = own.number in
      let same = x.2 in
      let k = count_jobs s in
      omega arith

  first_exists : (i j : ℕ) → has (must_finish (plan_of s) j) i ≡ true → i < length (plan_of s).jobs
  first_exists i j h = by_job (slice_get (plan_of s).jobs j) refl
    where
      by_job : (x : Option PlanJob) → slice_get (plan_of s).jobs j ≡ x → i < length (plan_of s).jobs
      by_job None e = absurd (false≢true (sym (ap (λ y. has (option_to_list (option_map_or (λ z. z.previous) y None) ++ option_to_list (option_map_or (λ z. z.host_before) y None) ++ option_map_or (λ z. z.idle_after) y []) i) e) ∙ h))
      by_job (Some x) e =
          let l = get_within (plan_of s).jobs j x e in
          let f = (well_formed s v).finished_first i j h in
          omega arith

  awaited_exists : (j e : ℕ) → has (awaited_at (plan_of s) j AtEnd) e ≡ true → e < length (plan_of s).ops
  awaited_exists j e h = by_any (waits_for_any (plan_of s) j) refl
    where
      above : List Need
      above = filter (λ n. nat_lt (initial (plan_of s) n.chain) n.value) (needs (plan_of s) j)

      by_any : (a : Bool) → waits_for_any (plan_of s) j ≡ a → e < length (plan_of s).ops
      by_any true q = absurd (false≢true (sym (ap (λ xs. has xs e) (cond-true (waits_for_any (plan_of s) j) [] (filter_map (λ n. resolver (plan_of s) n.chain n.value) (filter (λ n. nat_lt (initial (plan_of s) n.chain) n.value) (needs (plan_of s) j))) q)) ∙ h))
      by_any false q =
          let m = resolved (filter (λ n. nat_lt (initial (plan_of s) n.chain) n.value) (needs (plan_of s) j)) (sym (ap (λ xs. has xs e) (cond-false (waits_for_any (plan_of s) j) [] (filter_map (λ n. resolver (plan_of s) n.chain n.value) (filter (λ n. nat_lt (initial (plan_of s) n.chain) n.value) (needs (plan_of s) j))) q)) ∙ h) in
          let w = well_formed s v in
          op_within e m.0.chain (w.of_chain e m.0.chain (find_member _ (chain (plan_of s) m.0.chain) e m.1))
        where
          resolved : (ns : List Need) → has (filter_map (λ n. resolver (plan_of s) n.chain n.value) ns) e ≡ true → (n : Need) × (resolver (plan_of s) n.chain n.value ≡ Some e)
          resolved [] g = absurd (false≢true g)
          resolved (n ∷ ns) g = by_option (resolver (plan_of s) n.chain n.value) refl (resolved ns) g
            where
              by_option : (x : Option ℕ) → resolver (plan_of s) n.chain n.value ≡ x → (has (filter_map (λ n. resolver (plan_of s) n.chain n.value) ns) e ≡ true → (n : Need) × (resolver (plan_of s) n.chain n.value ≡ Some e)) → has (cons_option x (filter_map (λ n. resolver (plan_of s) n.chain n.value) ns)) e ≡ true → (n : Need) × (resolver (plan_of s) n.chain n.value ≡ Some e)
              by_option None q r g = r g
              by_option (Some f) q r g = elim (has_cases f (filter_map (λ n. resolver (plan_of s) n.chain n.value) ns) e g) [
                | inl i ↦ (n, q ∙ ap Some i)
                | inr i ↦ r i
              ]

  lane_exists : (j : ℕ) → lane_at (plan_of s) j ≤ length s.queues
  lane_exists j = let r = lane_is s j in let l = by_job (slice_get s.jobs j) refl in omega arith
    where
      by_job : (x : Option Job) → slice_get s.jobs j ≡ x → option_map_or (λ job. lane_number (lane_of job)) (slice_get s.jobs j) 0 ≤ length s.queues
      by_job None e = let q = ap (λ y. option_map_or (λ job. lane_number (lane_of job)) y 0) e in omega arith
      by_job (Some (Host h)) e = let q = ap (λ y. option_map_or (λ job. lane_number (lane_of job)) y 0) e in omega arith
      by_job (Some (Batch x)) e =
          let q = ap (λ y. option_map_or (λ job. lane_number (lane_of job)) y 0) e in
          let l = (b j x e).queue in
          omega arith

  few_jobs : length (plan_of s).jobs < 2 ^ 32
  few_jobs =
      let n = count_jobs s in
      let l = v.limits.jobs in
      let m = jobs_fit s.version in
      omega arith

  pub few_ops : length (plan_of s).ops < 2 ^ 32
  few_ops =
      let n = count_ops s in
      let l = v.limits.jobs in
      let m = jobs_fit s.version in
      let r = few_signals most_signals s.jobs 0 few_of_job in
      omega arith

  pub keeps_lanes : KeepsLanes (plan_of s)
  keeps_lanes =
      record {
        lane = λ i j l h e. just_before s i j l (let n = count_jobs s in omega arith) e;
        ops_rise = ops_rise s;
        job_exists = job_exists;
        first_exists = first_exists;
        awaited_exists = awaited_exists;
        lane_exists = lane_exists;
        few_jobs = few_jobs;
        few_ops = few_ops;
      }

  -- what a host step waits for is of timelines and fences that exist
  step_needs_exist : HasValidSteps s → (j k : ℕ) (h : HostLine) → slice_get s.jobs k ≡ Some (Host h) →
      All (λ n. n.chain < length s.semaphores) (step_needs s j h.line h.step)
  step_needs_exist w j k h e = of_step h.step (w k h e)
    where
      of_pairs : (pairs : List Pair) → All (IsTimelinePair s) pairs →
          All (λ n. n.chain < length s.semaphores) (map (of_pair h.line) pairs)
      of_pairs pairs a =
          All-map (λ n. n.chain < length s.semaphores) (of_pair h.line) pairs
          (λ i d l. kind_exists s is_timeline (get_or pairs i d).semaphore (a i d l))

      of_step : (t : HostStep) → IsValidStep s t →
          All (λ n. n.chain < length s.semaphores) (step_needs s j h.line t)
      of_step (WaitAll pairs) a = of_pairs pairs a
      of_step (WaitAny pairs) a = of_pairs pairs a
      of_step (FenceWait f) a =
          All-cons (λ n. n.chain < length s.semaphores)
          (record { line = h.line; chain = f; value = fence_value s j f; from = 1 }) []
          (kind_exists s is_fence f a) (All-nil (λ n. n.chain < length s.semaphores))
      of_step other a = All-nil (λ n. n.chain < length s.semaphores)

  needs_chain : HasValidSteps s → (j : ℕ) → All (λ n. n.chain < length s.semaphores) (needs (plan_of s) j)
  needs_chain w j = subst (All (λ n. n.chain < length s.semaphores)) (sym (part_is (λ x. x.needs) [] s j)) (by_job (slice_get s.jobs j) refl)
    where
      by_job : (x : Option Job) → slice_get s.jobs j ≡ x → All (λ n. n.chain < length s.semaphores) (option_map_or (λ job. (plan_job s (j, job)).needs) x [])
      by_job None e = λ i d l. absurd (omega arith)
      by_job (Some (Host h)) e = step_needs_exist w j j h e
      by_job (Some (Batch x)) e = All-map (λ n. n.chain < length s.semaphores) (of_wait s j) x.waits (λ i d l. ((b j x e).waits i d l).exists)

  pub keeps_semaphores : HasValidSteps s → KeepsSemaphores (plan_of s)
  keeps_semaphores w =
      record {
        op_chain = λ e t c. (
            let x = some_of (λ y. y.semaphore) (slice_get (all_signals s) e) t (sym (op_chain_is s e) ∙ c) in
            let l = v.signals e x.0 x.1 in
            let same = x.2 in
            omega arith
            );
        needs_chain = needs_chain w;
        few = (let l = v.limits.semaphores in omega arith);
        initials = length-map s.semaphores (λ x. initial_value x.kind);
        chains = length-map (range_with_len 0 (length s.semaphores)) (chain_ops s) ∙ count (length s.semaphores) 0;
      }
    where
      count : (n a : ℕ) → length (range_with_len a n) ≡ n
      count zero a = refl
      count (suc n) a = let r = count n (a + 1) in omega arith
