-- The last batch of a lane before a job, in a compiled script.
use Rattle.std.proofs.Common.{◌≡◌, ℕ, ◌+◌, ◌-◌, ◌<◌, ◌≤◌, ◌⊎◌, inl, inr, Bool, true, false, cond, List, [], ◌∷◌, ◌++◌}
use Rattle.std.proofs.Common.{map, length, take, Option, Some, None, option_map, refl, sym, ap, ◌∙◌, suc, subst}
use Rattle.std.proofs.Common.{arith}
use Rattle.std.specs.Prelude.{◌==◌}
use Rattle.std.specs.List.{slice_get}
use Rattle.std.proofs.lemmas.Bool.{false≢true, cases_lt, ne_eqb, eqb-true, eq-eqb}
use Rattle.std.proofs.lemmas.Option.{same_Some}
use Rattle.vq_model.specs.declared.plan.Lane.{Lane}
use Rattle.vq_model.specs.declared.plan.Lane.TheVariants.{Host as HostLane, Queue as QueueLane}
use Rattle.vq_model.specs.declared.script.Job.{Job}
use Rattle.vq_model.specs.declared.script.Job.TheVariants.{Host, Batch as BatchJob}
use Rattle.vq_model.specs.declared.script.Script.{Script}
use Rattle.vq_model.specs.Lowering.{lane_of, last_from, last_before}
use Rattle.vq_model.specs.Plan.{same_lane}
use Rattle.vq_ground.proofs.Gets.{get-map, get-take, get-take_within, get_within, get_some}
use Rattle.vq_plan_laws.proofs.Cited.{IsLast, last_cases}
use Rattle.vq_blocks.specs.declared.block.HostThread.{HostThread}
use Rattle.vq_blocks.specs.declared.block.ThreadStep.{ThreadStep}
use Rattle.vq_blocks.specs.HostsRuns.{steps_in_order}
use Rattle.vq_hosts_laws.proofs.PlainScripts.{plain_batch, plain_batches, plain_script}
use Rattle.vq_hosts_laws.proofs.StepPlaces.{first_of, IsThreadStep, batch_of_place, place_of_batch}
use Rattle.vq_hosts_laws.proofs.StepSignals.{Steps}
use Rattle.vq_hosts_laws.proofs.CompiledSignals.{AreFit, get_behind, get_in_front, take_behind, count_batches}

last_parts : (n : ℕ) (test : Job → Bool) (xs ys : List Job) (found : Option ℕ) → last_from n test (xs ++ ys) found
    ≡ last_from (n + length xs) test ys (last_from n test xs found)
last_parts n test [] ys found = let z : n ≡ n + 0 = omega arith in ap (λ m. last_from m test ys found) z
last_parts n test (x ∷ xs) ys found =
    let z : (n + 1) + length xs ≡ n + suc (length xs) = omega arith in
    last_parts (n + 1) test xs ys (cond (test x) (Some n) found)
    ∙ ap (λ m. last_from m test ys (last_from (n + 1) test xs (cond (test x) (Some n) found))) z

last_shift : (m n : ℕ) (test : Job → Bool) (xs : List Job) (found : Option ℕ) →
    last_from (m + n) test xs (option_map (λ i. m + i) found) ≡ option_map (λ i. m + i) (last_from n test xs found)
last_shift m n test [] found = refl
last_shift m n test (x ∷ xs) found =
    let z : (m + n) + 1 ≡ m + (n + 1) = omega arith in
    ap (λ k. last_from k test xs (cond (test x) (Some (m + n)) (option_map (λ i. m + i) found))) z
    ∙ (ap (λ o. last_from (m + (n + 1)) test xs o) (by_test (test x))
    ∙ last_shift m (n + 1) test xs (cond (test x) (Some n) found))
  where
    by_test : (b : Bool) → cond b (Some (m + n)) (option_map (λ i. m + i) found)
        ≡ option_map (λ i. m + i) (cond b (Some n) found)
    by_test true = refl
    by_test false = refl

last_fails : (first n : ℕ) (test : Job → Bool) (steps : Steps) (found : Option ℕ) →
    ((y : ℕ × ThreadStep) → test (plain_batch first y) ≡ false) →
    last_from n test (map (plain_batch first) steps) found ≡ found
last_fails first n test [] found fails = refl
last_fails first n test (y ∷ steps) found fails =
    ap (λ b. last_from (n + 1) test (map (plain_batch first) steps) (cond b (Some n) found)) (fails y)
    ∙ last_fails first (n + 1) test steps found fails

module _ (s : Script) (threads : List HostThread) (fit : AreFit s threads) where
  abbrev script : Script
  script = plain_script s threads

  abbrev batches : ℕ
  batches = length (steps_in_order threads)

  abbrev first : ℕ
  first = length s.queues

  -- jobs of a lane
  abbrev is_in : Lane → Job → Bool
  is_in l x = same_lane l (lane_of x)

  -- The jobs of the script

  pub thread_job : (j : ℕ) (y : ℕ × ThreadStep) → slice_get (steps_in_order threads) j ≡ Some y →
      slice_get script.jobs j ≡ Some (plain_batch first y)
  thread_job j y e =
      let w = get_within (steps_in_order threads) j y e in
      get_in_front (plain_batches first threads) s.jobs batches j (count_batches s threads fit) w
      ∙ (get-map (plain_batch first) (steps_in_order threads) j ∙ ap (option_map (plain_batch first)) e)

  pub rest_job : (k : ℕ) → slice_get script.jobs (batches + k) ≡ slice_get s.jobs k
  rest_job k = get_behind (plain_batches first threads) s.jobs batches k (count_batches s threads fit)

  pub rest_taken : (k : ℕ) → take (batches + k) script.jobs ≡ plain_batches first threads ++ take k s.jobs
  rest_taken k = take_behind (plain_batches first threads) s.jobs batches k (count_batches s threads fit)

  -- The last job of a lane of the rest

  pub rest_last : (l : Lane) (k : ℕ) → ((y : ℕ × ThreadStep) → is_in l (plain_batch first y) ≡ false) →
      last_before script (batches + k) (λ x. same_lane l (lane_of x))
      ≡ option_map (λ i. batches + i) (last_before s k (λ x. same_lane l (lane_of x)))
  rest_last l k fails =
      let z : 0 + length (plain_batches first threads) ≡ batches + 0 = let c =
      count_batches s threads fit in omega arith in
      ap (λ (jobs : List Job). last_from 0 (is_in l) jobs None) (rest_taken k)
      ∙ (last_parts 0 (is_in l) (plain_batches first threads) (take k s.jobs) None
      ∙ (ap (λ o. last_from (0 + length (plain_batches first threads)) (is_in l) (take k s.jobs) o)
      (last_fails first 0 (is_in l) (steps_in_order threads) None fails)
      ∙ (ap (λ n. last_from n (is_in l) (take k s.jobs) None) z
      ∙ last_shift batches 0 (is_in l) (take k s.jobs) None)))

  -- no batch of a thread stands in a queue of the rest
  pub other_queue : (q : ℕ) → q < first → (y : ℕ × ThreadStep) → is_in (QueueLane q) (plain_batch first y) ≡ false
  other_queue q l y = ne_eqb q (first + y.0) (λ e. omega arith)

  -- The last job of a thread

  -- a job in the queue of a thread is a batch of that thread
  in_queue : (t j : ℕ) (job : Job) → slice_get script.jobs j ≡ Some job → is_in (QueueLane (first + t)) job ≡ true →
      (i : ℕ) × (step : ThreadStep) × IsThreadStep threads t i j step
  in_queue t j job e passes = by_place (cases_lt j batches)
    where
      of_thread : (y : ℕ × ThreadStep) → slice_get (steps_in_order threads) j ≡ Some y → (i : ℕ) × (step : ThreadStep)
          × IsThreadStep threads t i j step
      of_thread y f =
          let same : plain_batch first y ≡ job = same_Some (plain_batch first y) job (sym (thread_job j y f) ∙ e) in
          let p : (first + t == first + y.0) ≡ true = ap (is_in (QueueLane (first + t))) same ∙ passes in
          let n = eqb-true (first + t) (first + y.0) p in
          let z : y.0 ≡ t = omega arith in
          let k = place_of_batch threads y.0 j y.1 f in
          (k.0, y.1, subst (λ u. IsThreadStep threads u k.0 j y.1) z k.1)

      of_rest : (x : Job) → slice_get s.jobs (j - batches) ≡ Some x → is_in (QueueLane (first + t)) x ≡ true → ⊥
      of_rest (Host h) f g = false≢true g
      of_rest (BatchJob b) f g =
          let n = eqb-true (first + t) b.queue g in
          let l = fit.queues (j - batches) b f in
          omega arith

      by_place : ((j < batches) ⊎ (batches ≤ j)) → (i : ℕ) × (step : ThreadStep) × IsThreadStep threads t i j step
      by_place (inl l) = let g = get_some (steps_in_order threads) j l in of_thread g.0 g.1
      by_place (inr l) =
          let z : batches + (j - batches) ≡ j = omega arith in
          absurd (of_rest job (sym (rest_job (j - batches)) ∙ (ap (slice_get script.jobs) z ∙ e)) passes)

  -- the batch of a step is in the queue of its thread
  own_queue : (t i j : ℕ) (step : ThreadStep) → IsThreadStep threads t i j step →
      (job : Job) × (slice_get script.jobs j ≡ Some job) × (is_in (QueueLane (first + t)) job ≡ true)
  own_queue t i j step k = (
    plain_batch first (t, step),
    thread_job j (t, step) (batch_of_place threads t i j step k),
    eq-eqb (first + t)
        (first + t) refl,
  )

  -- the last batch of a thread before a job is a batch of that thread
  pub last_comes : (n t x : ℕ) → last_before script n (λ y. same_lane (QueueLane (first + t)) (lane_of y)) ≡ Some x →
      (i : ℕ) × (step : ThreadStep) × (x < n) × IsThreadStep threads t i x step
  last_comes n t x h =
      elim (last_cases 0 (is_in (QueueLane (first + t))) (take n script.jobs) None) [
        | inl r ↦ absurd (let c : None ≡ Some x = sym r.same ∙ h in cc)
        | inr r ↦ here r
      ]
    where
      here : IsLast 0 (is_in (QueueLane (first + t))) (take n script.jobs) None → (i : ℕ) × (step : ThreadStep)
          × (x < n) × IsThreadStep threads t i x step
      here r =
          let l = get-take_within n script.jobs r.place r.job r.is in
          let z : 0 + r.place ≡ r.place = omega arith in
          let same : r.place ≡ x = same_Some r.place x (sym (r.is_found ∙ ap Some z) ∙ h) in
          let k = in_queue t r.place r.job (sym (get-take n script.jobs r.place l) ∙ r.is) r.passes in
          let m : x < n = omega arith in
          (k.0, k.1, m, subst (λ y. IsThreadStep threads t k.0 y k.1) same k.2)

  -- the last batch of a thread before a job is this one, where the next ones stand later
  pub last_is : (n t i : ℕ) (step : ThreadStep) → IsThreadStep threads t i (first_of threads t + i) step →
      first_of threads t + i < n →
      ((m : ℕ) (other : ThreadStep) → i < m → IsThreadStep threads t m (first_of threads t + m) other →
      n ≤ first_of threads t + m) →
      last_before script n (λ y. same_lane (QueueLane (first + t)) (lane_of y)) ≡ Some (first_of threads t + i)
  last_is n t i step k below later =
      elim (last_cases 0 (is_in (QueueLane (first + t))) (take n script.jobs) None) [
        | inl r ↦ absurd (false≢true (sym
            (r.none (first_of threads t + i) (own_queue t i (first_of threads t + i) step k).0 taken)
            ∙ (own_queue t i (first_of threads t + i) step k).2))
        | inr r ↦ here r
      ]
    where
      taken : slice_get (take n script.jobs) (first_of threads t + i)
          ≡ Some (own_queue t i (first_of threads t + i) step k).0
      taken = get-take n script.jobs (first_of threads t + i) below ∙ (own_queue t i (first_of threads t + i) step k).1

      here : IsLast 0 (is_in (QueueLane (first + t))) (take n script.jobs) None →
          last_before script n (λ y. same_lane (QueueLane (first + t)) (lane_of y)) ≡ Some (first_of threads t + i)
      here r =
          let l = get-take_within n script.jobs r.place r.job r.is in
          let g = in_queue t r.place r.job (sym (get-take n script.jobs r.place l) ∙ r.is) r.passes in
          r.is_found ∙ ap Some (place g.0 g.1 g.2 l)
        where
          place : (m : ℕ) (other : ThreadStep) → IsThreadStep threads t m r.place other → r.place < n → 0 + r.place
              ≡ first_of threads t + i
          place m other g l = by_order (cases_lt i m) (cases_lt m i)
            where
              number : r.place ≡ first_of threads t + m
              number = g.number

              by_order : ((i < m) ⊎ (m ≤ i)) → ((m < i) ⊎ (i ≤ m)) → 0 + r.place ≡ first_of threads t + i
              by_order (inl a) b =
                  let q = later m other a (subst (λ y. IsThreadStep threads t m y other) number g) in
                  let w = number in
                  absurd (omega arith)
              by_order (inr a) (inl b) =
                  let w = number in
                  absurd (false≢true (sym (r.none_after (first_of threads t + i)
                  (own_queue t i (first_of threads t + i) step k).0 (omega arith) taken)
                  ∙ (own_queue t i (first_of threads t + i) step k).2))
              by_order (inr a) (inr b) = let w = number in omega arith

  -- no host step stands before a batch of a thread
  pub no_host : (n : ℕ) → n ≤ batches → last_before script n (λ y. same_lane HostLane (lane_of y)) ≡ None
  no_host n within =
      elim (last_cases 0 (is_in HostLane) (take n script.jobs) None) [
        | inl r ↦ r.same
        | inr r ↦ absurd (false≢true (none r))
      ]
    where
      none : IsLast 0 (is_in HostLane) (take n script.jobs) None → false ≡ true
      none r =
          let l = get-take_within n script.jobs r.place r.job r.is in
          let g = get_some (steps_in_order threads) r.place (omega arith) in
          let same : plain_batch first g.0 ≡ r.job =
          same_Some (plain_batch first g.0) r.job (sym (thread_job r.place g.0 g.1)
          ∙ (sym (get-take n script.jobs r.place l) ∙ r.is)) in
          ap (is_in HostLane) same ∙ r.passes
