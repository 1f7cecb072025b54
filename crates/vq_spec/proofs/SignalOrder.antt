-- The signals of a script by the jobs before one, and their values and counts.
use Rattle.std.proofs.Common.{◌^◌, ◌≡◌, ◌≢◌, ℕ, zero, suc, ◌+◌, ◌-◌, ◌<◌, ◌≤◌, Bool, true, false, ◌&&◌, cond, eqb, ltb, List, [], ◌∷◌, ◌++◌, length, get_or, map, filter, take, drop, Some, None, option_map, refl, sym, ap, ◌∙◌, arith, append_assoc, zero-add}
use Rattle.std.proofs.Math.ListN.{set}
use Rattle.std.specs.List.{count_by, slice_get, range_with_len, enumerate_from, flat_map, AllByRecursion}
use Rattle.std.specs.Option.{option_map_or, option_to_list}
use Rattle.std.proofs.lemmas.Bool.{eq-eqb, ne_eqb, lt-ltb, le-ltb}
use Rattle.std.proofs.lemmas.Grind.{flat_map-append}
use Rattle.std.proofs.lemmas.List.{length-append, length-map, map-append, take-append-drop, length-take-le}
use Rattle.std.proofs.lemmas.List.Elements.{filter-append}
use Rattle.std.proofs.lemmas.List.FromFn.{length-map-range_with_len}
use Rattle.std.proofs.lemmas.List.Sums.{count_by-le-length}
use Rattle.vq_ground.proofs.Numbers.{range-append}
use Rattle.vq_model.specs.declared.script.Script.{Script}
use Rattle.vq_model.specs.declared.script.Mark.{Mark}
use Rattle.vq_model.specs.declared.script.Pair.{Pair}
use Rattle.vq_model.specs.declared.script.HostLine.{HostLine}
use Rattle.vq_model.specs.declared.script.HostStep.{HostStep}
use Rattle.vq_model.specs.declared.script.HostStep.TheVariants.{Signal}
use Rattle.vq_model.specs.declared.script.Batch.{Batch}
use Rattle.vq_model.specs.declared.script.Job.{Job}
use Rattle.vq_model.specs.declared.script.Job.TheVariants.{Host, Batch as BatchJob}
use Rattle.vq_model.specs.Lowering.{job_ops}
use Rattle.vq_model.specs.SameScript.{IsRead}
use Rattle.vq_model.specs.Signals.{Signaling, of_mark, step_signals, job_signals, all_signals, signals_semaphore, signal_value, values_from, value_at}
use Rattle.vq_ground.proofs.Gets.{get-map, get_within, get-append, get-append_left}
use Rattle.vq_plan_laws.proofs.Cited.{count_ops, few_ops, value_is}
use Rattle.vq_reading_laws.proofs.Cited.{read_valid, read_batches}
use Rattle.vq_spec.specs.declared.signals.Signals.{Signals}
use Rattle.vq_spec.specs.Counts.{signals_before, unplaced, first_ops, counts_of, AreSignals, value_by}
use Rattle.vq_spec.proofs.Ranges.{take_push, enumerate-append, count-push, count-append, count-none, count-same, each-append, each-weaken, map_range-set, get_map_range, filter_range-all, filter_range-none}

-- The jobs of signals

-- the signal is of one of so many jobs, from a on
abbrev IsAmong : ℕ → ℕ → Signaling → Type 0
IsAmong a n x = (a ≤ x.job) × (x.job < a + n)

own_job : (a : ℕ) (job : Job) → AllByRecursion (IsAmong a 1) (job_signals (a, job))
own_job a (Host h) = by_step h.step
  where
    by_step : (t : HostStep) → AllByRecursion (IsAmong a 1) (step_signals a h.line t)
    by_step (Signal pair) = ((omega arith, omega arith), tt)
    by_step t = tt
own_job a (BatchJob b) = marks (b.signals ++ option_to_list b.fence)
  where
    marks : (ms : List Mark) → AllByRecursion (IsAmong a 1) (map (of_mark a) ms)
    marks [] = tt
    marks (m ∷ ms) = ((omega arith, omega arith), marks ms)

among : (a : ℕ) (jobs : List Job) →
    AllByRecursion (IsAmong a (length jobs)) (flat_map job_signals (enumerate_from a jobs))
among a [] = tt
among a (job ∷ jobs) =
    each-append (IsAmong a (suc (length jobs))) (job_signals (a, job))
    (flat_map job_signals (enumerate_from (a + 1) jobs))
    (each-weaken (IsAmong a 1) (IsAmong a (suc (length jobs)))
    (λ x h. let l = h.0 in let u = h.1 in (l, omega arith)) (job_signals (a, job)) (own_job a job))
    (each-weaken (IsAmong (a + 1) (length jobs)) (IsAmong a (suc (length jobs)))
    (λ x h. let l = h.0 in let u = h.1 in (omega arith, omega arith))
    (flat_map job_signals (enumerate_from (a + 1) jobs)) (among (a + 1) jobs))

-- all signals of jobs, up to one and from it on
signals-append : (a : ℕ) (xs ys : List Job) →
    flat_map job_signals (enumerate_from a (xs ++ ys))
    ≡ flat_map job_signals (enumerate_from a xs)
    ++ flat_map job_signals (enumerate_from (a + length xs) ys)
signals-append a xs ys =
    ap (flat_map job_signals) (enumerate-append a xs ys)
    ∙ flat_map-append job_signals (enumerate_from a xs) (enumerate_from (a + length xs) ys)

module _ (s : Script) (j : ℕ) (job : Job) (at : slice_get s.jobs j ≡ Some job) where
  -- the signals of one job more
  pub signals_before-push : signals_before s (j + 1) ≡ signals_before s j ++ job_signals (j, job)
  signals_before-push =
      let inside = get_within s.jobs j job at in
      let e : 0 + length (take j s.jobs) ≡ j = omega (arith, length-take-le j s.jobs (omega arith)) in
      ap (λ jobs. flat_map job_signals (enumerate_from 0 jobs)) (take_push s.jobs j job at)
      ∙ (signals-append 0 (take j s.jobs) (job ∷ [])
      ∙ ap (λ xs. signals_before s j ++ xs)
      (ap (λ k. flat_map job_signals (enumerate_from k (job ∷ []))) e ∙ one (job_signals (j, job))))
    where
      one : (xs : List Signaling) → xs ++ [] ≡ xs
      one [] = refl
      one (x ∷ xs) = ap (λ ys. x ∷ ys) (one xs)

  abbrev signals_after : List Signaling
  signals_after = flat_map job_signals (enumerate_from (j + 1) (drop (j + 1) s.jobs))

  -- the signals before a job, its own, and those after it
  pub signals_around : all_signals s
      ≡ (signals_before s j ++ job_signals (j, job)) ++ signals_after
  signals_around =
      let inside = get_within s.jobs j job at in
      let e : 0 + length (take (j + 1) s.jobs) ≡ j + 1 = omega
      (arith, length-take-le (j + 1) s.jobs (omega arith)) in
      ap (λ jobs. flat_map job_signals (enumerate_from 0 jobs)) (sym (take-append-drop (j + 1) s.jobs))
      ∙ (signals-append 0 (take (j + 1) s.jobs) (drop (j + 1) s.jobs)
      ∙ ((λ i. signals_before-push i
      ++ flat_map job_signals (enumerate_from (e i) (drop (j + 1) s.jobs)))))

  before_are : AllByRecursion (λ x. x.job < j) (signals_before s j)
  before_are =
      let inside = get_within s.jobs j job at in
      let n = length-take-le j s.jobs (omega arith) in
      each-weaken (IsAmong 0 (length (take j s.jobs))) (λ x. x.job < j)
      (λ x h. let u = h.1 in omega arith) (signals_before s j) (among 0 (take j s.jobs))

  own_are : AllByRecursion (λ x. x.job ≡ j) (job_signals (j, job))
  own_are = each-weaken (IsAmong j 1) (λ x. x.job ≡ j)
      (λ x h. let l = h.0 in let u = h.1 in omega arith) (job_signals (j, job)) (own_job j job)

  after_are : AllByRecursion (λ x. j < x.job) signals_after
  after_are = each-weaken (IsAmong (j + 1) (length (drop (j + 1) s.jobs))) (λ x. j < x.job)
      (λ x h. let l = h.0 in omega arith) signals_after (among (j + 1) (drop (j + 1) s.jobs))

  -- how many signals of a semaphore are of earlier jobs
  pub earlier_count : (t : ℕ) →
      count_by (λ x. eqb x.semaphore t && ltb x.job j) (all_signals s)
      ≡ count_by (signals_semaphore t) (signals_before s j)
  earlier_count t =
      let test : Signaling → Bool = λ x. eqb x.semaphore t && ltb x.job j in
      let a = count-append test (signals_before s j ++ job_signals (j, job)) signals_after in
      let b = count-append test (signals_before s j) (job_signals (j, job)) in
      let c = count-none test (job_signals (j, job)) (each-weaken (λ x. x.job ≡ j)
      (λ x. eqb x.semaphore t && ltb x.job j ≡ false)
      (λ x h. late x (omega arith)) (job_signals (j, job)) own_are) in
      let d = count-none test signals_after (each-weaken (λ x. j < x.job)
      (λ x. eqb x.semaphore t && ltb x.job j ≡ false)
      (λ x h. late x (omega arith)) signals_after after_are) in
      let e = count-same test (signals_semaphore t) (signals_before s j) (each-weaken (λ x. x.job < j)
      (λ x. eqb x.semaphore t && ltb x.job j ≡ eqb x.semaphore t)
      (λ x h. early x h) (signals_before s j) before_are) in
      ap (count_by test) signals_around ∙ (a ∙ omega arith)
    where
      and_false : (b : Bool) → b && false ≡ false
      and_false true = refl
      and_false false = refl

      and_true : (b : Bool) → b && true ≡ b
      and_true true = refl
      and_true false = refl

      late : (x : Signaling) → j ≤ x.job → eqb x.semaphore t && ltb x.job j ≡ false
      late x l = ap (λ b. eqb x.semaphore t && b) (le-ltb x.job j l) ∙ and_false (eqb x.semaphore t)

      early : (x : Signaling) → x.job < j → eqb x.semaphore t && ltb x.job j ≡ eqb x.semaphore t
      early x l = ap (λ b. eqb x.semaphore t && b) (lt-ltb x.job j l) ∙ and_true (eqb x.semaphore t)

  -- whether an operation is of the job
  abbrev is_own : ℕ → Bool
  is_own e = option_map_or (λ x. eqb x.job j) (slice_get (all_signals s) e) false

  not_own : (xs : List Signaling) → AllByRecursion (λ x. x.job ≢ j) xs → (i : ℕ) →
      option_map_or (λ x. eqb x.job j) (slice_get xs i) false ≡ false
  not_own [] h i = refl
  not_own (x ∷ xs) h zero = ne_eqb x.job j h.0
  not_own (x ∷ xs) h (suc i) = not_own xs h.1 i

  all_own : (xs : List Signaling) → AllByRecursion (λ x. x.job ≡ j) xs → (i : ℕ) → i < length xs →
      option_map_or (λ x. eqb x.job j) (slice_get xs i) false ≡ true
  all_own [] h i l = absurd (omega arith)
  all_own (x ∷ xs) h zero l = eq-eqb x.job j h.0
  all_own (x ∷ xs) h (suc i) l = all_own xs h.1 i (omega arith)

  own_before : (e : ℕ) → e < length (signals_before s j) → is_own e ≡ false
  own_before e l =
      let n = length-append (signals_before s j) (job_signals (j, job)) in
      ap (λ o. option_map_or (λ x. eqb x.job j) o false)
      (ap (λ xs. slice_get xs e) signals_around
      ∙ (get-append_left (signals_before s j ++ job_signals (j, job)) signals_after e (omega arith)
      ∙ get-append_left (signals_before s j) (job_signals (j, job)) e l))
      ∙ not_own (signals_before s j) (each-weaken (λ x. x.job < j) (λ x. x.job ≢ j)
      (λ x h e. omega arith) (signals_before s j) before_are) e

  own_here : (e : ℕ) → length (signals_before s j) ≤ e →
      e < length (signals_before s j) + length (job_signals (j, job)) → is_own e ≡ true
  own_here e l h =
      let n = length-append (signals_before s j) (job_signals (j, job)) in
      let i : ℕ = e - length (signals_before s j) in
      let q : e ≡ length (signals_before s j) + i = omega arith in
      ap (λ o. option_map_or (λ x. eqb x.job j) o false)
      (ap (λ xs. slice_get xs e) signals_around
      ∙ (get-append_left (signals_before s j ++ job_signals (j, job)) signals_after e (omega arith)
      ∙ (ap (slice_get (signals_before s j ++ job_signals (j, job))) q
      ∙ get-append (signals_before s j) (job_signals (j, job)) i)))
      ∙ all_own (job_signals (j, job)) own_are i (omega arith)

  own_after : (e : ℕ) → length (signals_before s j) + length (job_signals (j, job)) ≤ e →
      is_own e ≡ false
  own_after e l =
      let n = length-append (signals_before s j) (job_signals (j, job)) in
      let i : ℕ = e - length (signals_before s j ++ job_signals (j, job)) in
      let q : e ≡ length (signals_before s j ++ job_signals (j, job)) + i = omega arith in
      ap (λ o. option_map_or (λ x. eqb x.job j) o false)
      (ap (λ xs. slice_get xs e) signals_around
      ∙ (ap (slice_get ((signals_before s j ++ job_signals (j, job)) ++ signals_after)) q
      ∙ get-append (signals_before s j ++ job_signals (j, job)) signals_after i))
      ∙ not_own signals_after (each-weaken (λ x. j < x.job) (λ x. x.job ≢ j)
      (λ x h e. omega arith) signals_after after_are) i

  none_around : (xs : List ℕ) → ([] ++ xs) ++ [] ≡ xs
  none_around [] = refl
  none_around (x ∷ xs) = ap (λ ys. x ∷ ys) (none_around xs)

  parts : (k m r : ℕ) → ((e : ℕ) → e < k → is_own e ≡ false) →
      ((e : ℕ) → k ≤ e → e < k + m → is_own e ≡ true) →
      ((e : ℕ) → k + m ≤ e → is_own e ≡ false) →
      filter is_own (range_with_len 0 ((k + m) + r)) ≡ range_with_len k m
  parts k m r early own late =
      ap (filter is_own) (range-append 0 (k + m) r
      ∙ ap (λ xs. xs ++ range_with_len (0 + (k + m)) r) (range-append 0 k m))
      ∙ (filter-append is_own (range_with_len 0 k ++ range_with_len (0 + k) m)
      (range_with_len (0 + (k + m)) r)
      ∙ (ap (λ xs. xs ++ filter is_own (range_with_len (0 + (k + m)) r))
      (filter-append is_own (range_with_len 0 k) (range_with_len (0 + k) m))
      ∙ ((λ i. (filter_range-none is_own 0 k (λ e l h. early e (omega arith)) i
      ++ filter_range-all is_own (0 + k) m (λ e l h. own e (omega arith) (omega arith)) i)
      ++ filter_range-none is_own (0 + (k + m)) r (λ e l h. late e (omega arith)) i)
      ∙ (none_around (range_with_len (0 + k) m) ∙ ap (λ b. range_with_len b m) (zero-add k)))))

  -- the operations of a job follow those of the jobs before
  pub job_ops_are : job_ops s j
      ≡ range_with_len (length (signals_before s j)) (length (job_signals (j, job)))
  job_ops_are =
      let e : length (all_signals s)
      ≡ (length (signals_before s j) + length (job_signals (j, job))) + length signals_after = ap
      length signals_around ∙ (length-append (signals_before s j ++ job_signals (j, job)) signals_after
      ∙ ap (λ n. n + length signals_after)
      (length-append (signals_before s j) (job_signals (j, job)))) in
      ap (λ n. filter is_own (range_with_len 0 n)) e
      ∙ parts (length (signals_before s j)) (length (job_signals (j, job))) (length signals_after)
      own_before own_here own_after

  -- the next signal of the job
  pub next_signal : (i : ℕ) (x : Signaling) → slice_get (job_signals (j, job)) i ≡ Some x →
      slice_get (all_signals s) (length (signals_before s j) + i) ≡ Some x
  next_signal i x e =
      let n = length-append (signals_before s j) (job_signals (j, job)) in
      let inside = get_within (job_signals (j, job)) i x e in
      ap (λ xs. slice_get xs (length (signals_before s j) + i)) signals_around
      ∙ (get-append_left (signals_before s j ++ job_signals (j, job)) signals_after
      (length (signals_before s j) + i) (omega arith)
      ∙ (get-append (signals_before s j) (job_signals (j, job)) i ∙ e))

  -- what is before a job is the first of all
  pub take_before : take (length (signals_before s j)) (all_signals s) ≡ signals_before s j
  take_before =
      ap (take (length (signals_before s j))) (signals_around
      ∙ append_assoc (signals_before s j) (job_signals (j, job)) signals_after)
      ∙ take_front (signals_before s j) (job_signals (j, job) ++ signals_after)
    where
      take_front : (xs ys : List Signaling) → take (length xs) (xs ++ ys) ≡ xs
      take_front [] ys = refl
      take_front (x ∷ xs) ys = ap (λ zs. x ∷ zs) (take_front xs ys)

-- How many signals there are

pub few_signals : (s : Script) → IsRead s → length (all_signals s) < 2 ^ 32
few_signals s i =
    let counted = count_ops s in
    let few = few_ops s (read_valid s i) (read_batches s i) in
    omega arith

-- Values

value_from : (s : Script) (earlier xs : List Signaling) (e : ℕ) (x : Signaling) →
    slice_get xs e ≡ Some x →
    slice_get (values_from s earlier xs) e ≡ Some (signal_value s (earlier ++ take e xs) x)
value_from s earlier [] e x h = absurd (let c : None ≡ Some x = h in cc)
value_from s earlier (y ∷ xs) zero x h =
    let same : y ≡ x = cc in
    λ i. Some (signal_value s (sym (append_none earlier) i) (same i))
  where
    append_none : (ys : List Signaling) → ys ++ [] ≡ ys
    append_none [] = refl
    append_none (z ∷ ys) = ap (λ zs. z ∷ zs) (append_none ys)
value_from s earlier (y ∷ xs) (suc e) x h =
    value_from s (earlier ++ y ∷ []) xs e x h
    ∙ ap (λ ys. Some (signal_value s ys x)) (append_assoc earlier (y ∷ []) (take e xs))

-- One signal more

module _ (s : Script) (x : Signals) (k : AreSignals s x) where
  pub counts_length : length x.counts.items ≡ length s.semaphores
  counts_length = ap length k.counts ∙ length-map-range_with_len
      (λ t. count_by (signals_semaphore t) (take (length x.ops.items) (all_signals s))) 0
      (length s.semaphores)

  pub count_at : (t d : ℕ) → t < length s.semaphores → get_or x.counts.items t d
      ≡ count_by (signals_semaphore t) (take (length x.ops.items) (all_signals s))
  count_at t d l = get_map_range
      (λ u. count_by (signals_semaphore u) (take (length x.ops.items) (all_signals s)))
      (length s.semaphores) t x.counts.items d k.counts l

  pub count_few : IsRead s → (t d : ℕ) → t < length s.semaphores →
      get_or x.counts.items t d < 2 ^ 32
  count_few i t d l =
      let e = count_at t d l in
      let a = count_by-le-length (signals_semaphore t) (take (length x.ops.items) (all_signals s)) in
      let within = k.within in
      let b = length-take-le (length x.ops.items) (all_signals s) within in
      let few = few_signals s i in
      omega arith

  module _ (i : IsRead s) (job : ℕ) (m : Mark)
      (next : slice_get (all_signals s) (length x.ops.items) ≡ Some (of_mark job m)) where
    pub next_exists : m.semaphore < length s.semaphores
    next_exists = (read_valid s i).signals (length x.ops.items) (of_mark job m) next

    -- the value of the next operation
    pub next_value : (count d : ℕ) → count ≡ get_or x.counts.items m.semaphore d →
        value_at s (length x.ops.items) ≡ value_by s m (count + 1)
    next_value count d e =
        value_is s (length x.ops.items) (of_mark job m) next
        ∙ ap (λ n. value_by s m (n + 1)) (sym (e ∙ count_at m.semaphore d next_exists))

    more_ops : first_ops s (length x.ops.items + 1)
        ≡ first_ops s (length x.ops.items) ++ unplaced s (length x.ops.items, of_mark job m) ∷ []
    more_ops =
        let n = length-take-le (length x.ops.items) (all_signals s) k.within in
        let e : 0 + length (take (length x.ops.items) (all_signals s)) ≡ length x.ops.items = omega
        arith in
        ap (λ xs. map (unplaced s) (enumerate_from 0 xs))
        (take_push (all_signals s) (length x.ops.items) (of_mark job m) next)
        ∙ (ap (map (unplaced s)) (enumerate-append 0 (take (length x.ops.items) (all_signals s))
        (of_mark job m ∷ [])
        ∙ ap (λ n. enumerate_from 0 (take (length x.ops.items) (all_signals s))
        ++ (n, of_mark job m) ∷ []) e)
        ∙ map-append (unplaced s) (enumerate_from 0 (take (length x.ops.items) (all_signals s)))
        ((length x.ops.items, of_mark job m) ∷ []))

    more_count : (t : ℕ) →
        count_by (signals_semaphore t) (take (length x.ops.items + 1) (all_signals s))
        ≡ count_by (signals_semaphore t) (take (length x.ops.items) (all_signals s))
        + cond (eqb m.semaphore t) 1 0
    more_count t =
        ap (count_by (signals_semaphore t))
        (take_push (all_signals s) (length x.ops.items) (of_mark job m) next)
        ∙ count-push (signals_semaphore t) (take (length x.ops.items) (all_signals s))
        (of_mark job m)

    more_counts : (count d : ℕ) → count ≡ get_or x.counts.items m.semaphore d →
        counts_of s (length x.ops.items + 1)
        ≡ set (counts_of s (length x.ops.items)) m.semaphore (count + 1)
    more_counts count d e =
        map_range-set
        (λ t. count_by (signals_semaphore t) (take (length x.ops.items) (all_signals s)))
        (λ t. count_by (signals_semaphore t) (take (length x.ops.items + 1) (all_signals s)))
        (length s.semaphores) m.semaphore (count + 1)
        (more_count m.semaphore ∙ λ i. sym (e ∙ count_at m.semaphore d next_exists) i
        + cond (eq-eqb m.semaphore m.semaphore refl i) 1 0)
        (λ q ne. more_count q
        ∙ (ap (λ b. count_by (signals_semaphore q) (take (length x.ops.items) (all_signals s))
        + cond b 1 0) (ne_eqb m.semaphore q (λ e. ne (sym e)))
        ∙ (let z : count_by (signals_semaphore q) (take (length x.ops.items) (all_signals s)) + 0
        ≡ count_by (signals_semaphore q) (take (length x.ops.items) (all_signals s)) = omega arith in
        z)))

    pub signals_push : (new : Signals) (count d : ℕ) →
        count ≡ get_or x.counts.items m.semaphore d → new.ops.items ≡ x.ops.items
        ++ record {
          chain = m.semaphore;
          index = 0;
          value = value_by s m (count + 1);
          job = job;
          line = m.line;
        } ∷ [] → new.counts.items ≡ set x.counts.items m.semaphore (count + 1) →
        AreSignals s new × (length new.ops.items ≡ length x.ops.items + 1)
    signals_push new count d e ops counts =
        let more : length new.ops.items ≡ length x.ops.items + 1 = ap length ops
        ∙ (length-append x.ops.items _ ∙ (let z : length x.ops.items + 1 ≡ length x.ops.items + 1 = refl in z)) in
        let w = get_within (all_signals s) (length x.ops.items) (of_mark job m) next in (
          record {
            ops = ops ∙ ((λ i. k.ops i ++ record {
              chain = m.semaphore;
              index = 0;
              value = sym (next_value count d e) i;
              job = job;
              line = m.line;
            } ∷ []) ∙ (sym more_ops ∙ ap (first_ops s) (sym more)));
            counts = counts ∙ (ap (λ ns. set ns m.semaphore (count + 1)) k.counts
                ∙ (sym (more_counts count d e) ∙ ap (counts_of s) (sym more)));
            within = omega arith;
          },
          more,
        )

-- The signals of a batch

module _ (s : Script) (j : ℕ) (b : Batch) (at : slice_get s.jobs j ≡ Some (BatchJob b)) where
  pub batch_signal : (i : ℕ) (m : Mark) → slice_get b.signals i ≡ Some m →
      slice_get (all_signals s) (length (signals_before s j) + i) ≡ Some (of_mark j m)
  batch_signal i m e =
      next_signal s j (BatchJob b) at i (of_mark j m)
      (get-map (of_mark j) (b.signals ++ option_to_list b.fence) i
      ∙ ap (option_map (of_mark j))
      (get-append_left b.signals (option_to_list b.fence) i (get_within b.signals i m e) ∙ e))

  pub batch_fence : (m : Mark) → b.fence ≡ Some m →
      slice_get (all_signals s) (length (signals_before s j) + length b.signals)
      ≡ Some (of_mark j m)
  batch_fence m e =
      let z : length b.signals ≡ length b.signals + 0 = omega arith in
      next_signal s j (BatchJob b) at (length b.signals) (of_mark j m)
      (get-map (of_mark j) (b.signals ++ option_to_list b.fence) (length b.signals)
      ∙ ap (option_map (of_mark j))
      (ap (slice_get (b.signals ++ option_to_list b.fence)) z
      ∙ (get-append b.signals (option_to_list b.fence) 0
      ∙ ap (λ o. slice_get (option_to_list o) 0) e)))

  pub batch_count : length (signals_before s (j + 1))
      ≡ length (signals_before s j) + (length b.signals + length (option_to_list b.fence))
  batch_count =
      ap length (signals_before-push s j (BatchJob b) at)
      ∙ (length-append (signals_before s j) (job_signals (j, BatchJob b))
      ∙ ap (λ n. length (signals_before s j) + n)
      (length-map (b.signals ++ option_to_list b.fence) (of_mark j)
      ∙ length-append b.signals (option_to_list b.fence)))

-- The signals of a host step

no_signal : (j line : ℕ) (t : HostStep) → ((x : Pair) → t ≡ Signal x → ⊥) → step_signals j line t ≡ []
no_signal j line (Signal x) n = absurd (n x refl)
no_signal j line other n = refl

module _ (s : Script) (j : ℕ) (h : HostLine) (at : slice_get s.jobs j ≡ Some (Host h)) where
  pub step_signal : (x : Pair) → h.step ≡ Signal x → slice_get (all_signals s) (length (signals_before s j))
      ≡ Some (record { job = j; line = h.line; semaphore = x.semaphore; value = x.value })
  step_signal x e =
      let z : length (signals_before s j) ≡ length (signals_before s j) + 0 = omega arith in
      ap (slice_get (all_signals s)) z
      ∙ next_signal s j (Host h) at 0
      (record { job = j; line = h.line; semaphore = x.semaphore; value = x.value })
      (ap (λ t. slice_get (step_signals j h.line t) 0) e)

  pub step_count : length (signals_before s (j + 1))
      ≡ length (signals_before s j) + length (step_signals j h.line h.step)
  step_count =
      ap length (signals_before-push s j (Host h) at)
      ∙ length-append (signals_before s j) (job_signals (j, Host h))

  pub one_more : (x : Pair) → h.step ≡ Signal x →
      length (signals_before s (j + 1)) ≡ length (signals_before s j) + 1
  one_more x e = step_count
      ∙ ap (λ t. length (signals_before s j) + length (step_signals j h.line t)) e

  pub none_more : ((x : Pair) → h.step ≡ Signal x → ⊥) →
      length (signals_before s (j + 1)) ≡ length (signals_before s j)
  none_more n =
      let a = step_count in
      let b = ap length (no_signal j h.line h.step n) in
      omega arith

  pub step_ops_are : (first last : ℕ) → first ≡ length (signals_before s j) →
      last ≡ length (signals_before s (j + 1)) → range_with_len first (last - first) ≡ job_ops s j
  step_ops_are first last a b =
      let count : last - first ≡ length (step_signals j h.line h.step) =
      let c = step_count in omega arith in
      (λ i. range_with_len (a i) (count i)) ∙ sym (job_ops_are s j (Host h) at)
