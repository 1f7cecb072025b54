-- The signal operations of a compiled plan: first those of the threads, then those of the rest.
use Rattle.std.proofs.Common.{◌≡◌, ℕ, ◌+◌, ◌<◌, Bool, true, false, ◌&&◌, cond, List, [], ◌∷◌, ◌++◌, map, length, take}
use Rattle.std.proofs.Common.{fold, count_by, Option, Some, None, option_map, refl, sym, ap, ◌∙◌, suc, subst, arith}
use Rattle.std.proofs.Common.{length-append}
use Rattle.std.specs.Prelude.{nat_lt, ◌==◌}
use Rattle.std.specs.List.{slice_get, flat_map, enumerate_from}
use Rattle.std.specs.Option.{option_map_or}
use Rattle.std.proofs.lemmas.List.{length-map, take-map}
use Rattle.std.proofs.lemmas.List.Concat.{flat_map-append}
use Rattle.std.proofs.lemmas.List.Sums.{fold-append}
use Rattle.std.proofs.lemmas.Bool.{false≢true, ltb-true, lt-ltb, cond-true, eqb-true, eq-eqb}
use Rattle.vq_model.specs.declared.script.Job.TheVariants.{Batch as BatchJob}
use Rattle.vq_model.specs.declared.script.Batch.{Batch}
use Rattle.vq_model.specs.declared.script.Pair.{Pair}
use Rattle.vq_model.specs.declared.script.Script.{Script}
use Rattle.vq_model.specs.Lowering.{plan_of}
use Rattle.vq_model.specs.Plan.{chain_of, value}
use Rattle.vq_model.specs.Signals.{Signaling, all_signals, job_signals, is_timeline_at, signals_semaphore}
use Rattle.vq_model.specs.Signals.{signal_value, value_at}
use Rattle.vq_ground.proofs.Gets.{get-map, get-append, get-append_left, get_some, get_within}
use Rattle.vq_ground.proofs.Bools.{same_tests}
use Rattle.vq_plan_laws.proofs.Cited.{no_value, op_value_is, op_chain_is, value_is}
use Rattle.vq_blocks.specs.declared.block.HostThread.{HostThread}
use Rattle.vq_blocks.specs.declared.block.ThreadStep.TheVariants.{Signal}
use Rattle.vq_blocks.specs.HostsRuns.{steps_in_order, signals_in_order}
use Rattle.vq_hosts_laws.proofs.PlainScripts.{plain_batch, plain_batches, plain_script}
use Rattle.vq_hosts_laws.proofs.StepSignals.{signals_of_steps, signal_place, signal_by, IsSignalAt, signal_at}
use Rattle.vq_hosts_laws.proofs.StepSignals.{signal_stands, count_signals, HaveTimelines, counts_none, later_by}
use Rattle.vq_hosts_laws.proofs.StepSignals.{jobs_later, enumerate_parts}

-- A script whose queues are declared, with threads whose steps are on its timelines.
pub record AreFit (s : Script) (threads : List HostThread) : Type 0 where
  pub timelines : HaveTimelines s (steps_in_order threads)
  pub queues : (j : ℕ) (b : Batch) → slice_get s.jobs j ≡ Some (BatchJob b) → b.queue < length s.queues

-- Lists

-- what stands behind a list whose length is known
pub get_behind : {X : Type 0} (xs ys : List X) (n i : ℕ) → length xs ≡ n → slice_get (xs ++ ys) (n + i) ≡ slice_get ys i
get_behind xs ys n i e = ap (λ m. slice_get (xs ++ ys) (m + i)) (sym e) ∙ get-append xs ys i

pub get_in_front : {X : Type 0} (xs ys : List X) (n i : ℕ) → length xs ≡ n → i < n → slice_get (xs ++ ys) i
    ≡ slice_get xs i
get_in_front xs ys n i e l = get-append_left xs ys i (omega arith)

pub take_behind : {X : Type 0} (xs ys : List X) (n i : ℕ) → length xs ≡ n → take (n + i) (xs ++ ys) ≡ xs ++ take i ys
take_behind {X = X} xs ys n i e = ap (λ m. take (m + i) (xs ++ ys)) (sym e) ∙ whole xs
  where
    whole : (zs : List X) → take (length zs + i) (zs ++ ys) ≡ zs ++ take i ys
    whole [] = let z : 0 + i ≡ i = omega arith in ap (λ m. take m ys) z
    whole (z ∷ zs) =
        let m : length (z ∷ zs) + i ≡ suc (length zs + i) = omega arith in
        ap (λ k. take k (z ∷ zs ++ ys)) m ∙ ap (λ ws. z ∷ ws) (whole zs)

-- tests of numbers that are shifted
pub same_shift : (n a b : ℕ) → (n + a == n + b) ≡ (a == b)
same_shift n a b =
    same_tests (n + a == n + b) (a == b)
    (λ e. let k = number (n + a) (n + b) e in let c : a ≡ b = omega arith in subst (λ m. (a == m) ≡ true) c (self a))
    (λ e. let k = number a b e in subst (λ m. (n + a == n + m) ≡ true) k (self (n + a)))
  where
    number : (x y : ℕ) → (x == y) ≡ true → x ≡ y
    number x y e = eqb-true x y e

    self : (x : ℕ) → (x == x) ≡ true
    self x = eq-eqb x x refl

pub less_shift : (n a b : ℕ) → nat_lt (n + a) (n + b) ≡ nat_lt a b
less_shift n a b =
    same_tests (nat_lt (n + a) (n + b)) (nat_lt a b)
    (λ e. let k = ltb-true (n + a) (n + b) e in lt-ltb a b (omega arith))
    (λ e. let k = ltb-true a b e in lt-ltb (n + a) (n + b) (omega arith))

count_later : (n : ℕ) (test other : Signaling → Bool) → ((x : Signaling) → test (later_by n x) ≡ other x) →
    (m : ℕ) (xs : List Signaling) →
    fold (λ k x. k + cond (test x) 1 0) m (map (later_by n) xs) ≡ fold (λ k x. k + cond (other x) 1 0) m xs
count_later n test other same m [] = refl
count_later n test other same m (x ∷ xs) =
    count_later n test other same (m + cond (test (later_by n x)) 1 0) xs
    ∙ ap (λ b. fold (λ k y. k + cond (other y) 1 0) (m + cond b 1 0) xs) (same x)

module _ (s : Script) (threads : List HostThread) (fit : AreFit s threads) where
  abbrev script : Script
  script = plain_script s threads

  -- how many batches the threads have, and how many signals
  abbrev batches : ℕ
  batches = length (steps_in_order threads)

  abbrev signals : ℕ
  signals = length (signals_in_order threads)

  abbrev thread_part : List Signaling
  thread_part = signals_of_steps (length s.queues) 0 (steps_in_order threads)

  abbrev rest_part : List Signaling
  rest_part = map (later_by batches) (all_signals s)

  pub count_batches : length (plain_batches (length s.queues) threads) ≡ batches
  count_batches = length-map (steps_in_order threads) (plain_batch (length s.queues))

  count_thread_part : length thread_part ≡ signals
  count_thread_part = count_signals (length s.queues) 0 (steps_in_order threads)

  pub signals_parts : all_signals script ≡ thread_part ++ rest_part
  signals_parts =
      let z : 0 + length (plain_batches (length s.queues) threads) ≡ batches + 0 = let c =
      count_batches in omega arith in
      ap (flat_map job_signals) (enumerate_parts 0 (plain_batches (length s.queues) threads) s.jobs)
      ∙ (flat_map-append job_signals (enumerate_from 0 (plain_batches (length s.queues) threads))
      (enumerate_from (0 + length (plain_batches (length s.queues) threads)) s.jobs)
      ∙ ap (λ xs. thread_part ++ xs) (ap (λ n. flat_map job_signals (enumerate_from n s.jobs)) z
      ∙ jobs_later batches 0 s.jobs))

  pub count_all : length (all_signals script) ≡ signals + length (all_signals s)
  count_all =
      let a = ap length signals_parts in
      let b = length-append thread_part rest_part in
      let c = count_thread_part in
      let d = length-map (all_signals s) (later_by batches) in
      omega arith

  -- a signal of a thread
  pub thread_signal : (e : ℕ) (x : Signaling) → e < signals → slice_get (all_signals script) e ≡ Some x →
      IsSignalAt 0 (steps_in_order threads) e x
  thread_signal e x l h =
      signal_at (length s.queues) 0 (steps_in_order threads) e x
      (sym (get_in_front thread_part rest_part signals e count_thread_part l)
      ∙ (ap (λ (xs : List Signaling). slice_get xs e) (sym signals_parts) ∙ h))

  pub signal_exists : (e : ℕ) → e < signals → (x : Signaling) × (slice_get (all_signals script) e ≡ Some x)
  signal_exists e l = get_some (all_signals script) e (let c = count_all in omega arith)

  -- the signal of a step
  pub step_signal : (j t : ℕ) (pair : Pair) → slice_get (steps_in_order threads) j ≡ Some (t, Signal pair) →
      (signal_place (steps_in_order threads) j < signals)
      × (slice_get (all_signals script) (signal_place (steps_in_order threads) j) ≡ Some (signal_by j pair))
  step_signal j t pair h =
      let z : 0 + j ≡ j = omega arith in
      let g = signal_stands (length s.queues) 0 (steps_in_order threads) j t pair h in
      let w = get_within thread_part (signal_place (steps_in_order threads) j) (signal_by (0 + j) pair) g in
      let c = count_thread_part in
      let l : signal_place (steps_in_order threads) j < signals = omega arith in (
        l,
        ap (λ (xs : List Signaling). slice_get xs (signal_place (steps_in_order threads) j)) signals_parts
            ∙ (get_in_front thread_part rest_part signals (signal_place (steps_in_order threads) j) count_thread_part
            l ∙ (g ∙ ap (λ n. Some (signal_by n pair)) z)),
      )

  -- a signal of the rest
  pub rest_signal : (e : ℕ) → slice_get (all_signals script) (signals + e)
      ≡ option_map (later_by batches) (slice_get (all_signals s) e)
  rest_signal e =
      ap (λ (xs : List Signaling). slice_get xs (signals + e)) signals_parts
      ∙ (get_behind thread_part rest_part signals e count_thread_part ∙ get-map (later_by batches) (all_signals s) e)

  -- Chains and values

  pub thread_chain : (e : ℕ) (x : Signaling) → slice_get (all_signals script) e ≡ Some x → chain_of (plan_of script) e
      ≡ Some x.semaphore
  thread_chain e x h = op_chain_is script e ∙ ap (option_map (λ x. x.semaphore)) h

  pub rest_chain : (e : ℕ) → chain_of (plan_of script) (signals + e) ≡ chain_of (plan_of s) e
  rest_chain e =
      op_chain_is script (signals + e)
      ∙ (ap (option_map (λ x. x.semaphore)) (rest_signal e)
      ∙ (by_get (slice_get (all_signals s) e) ∙ sym (op_chain_is s e)))
    where
      by_get : (o : Option Signaling) → option_map (λ x. x.semaphore) (option_map (later_by batches) o)
          ≡ option_map (λ x. x.semaphore) o
      by_get None = refl
      by_get (Some x) = refl

  -- a signal of a thread is on a timeline
  pub on_timeline : (e : ℕ) (x : Signaling) (k : IsSignalAt 0 (steps_in_order threads) e x) →
      is_timeline_at s x.semaphore ≡ true
  on_timeline e x k =
      ap (λ (y : Signaling). is_timeline_at s y.semaphore) k.is
      ∙ (fit.timelines k.place k.thread (Signal k.pair) k.of_step).1.0

  pub thread_value : (e : ℕ) (x : Signaling) → e < signals → slice_get (all_signals script) e ≡ Some x →
      value (plan_of script) e ≡ x.value
  thread_value e x l h =
      op_value_is script e
      ∙ (value_is script e x h ∙ cond-true (is_timeline_at s x.semaphore) x.value
      (count_by (signals_semaphore x.semaphore) (take e (all_signals script)) + 1)
      (on_timeline e x (thread_signal e x l h)))

  -- what no signal of a timeline passes is counted among the signals of the rest
  count_rest : (test other : Signaling → Bool) → ((x : Signaling) → is_timeline_at s x.semaphore ≡ true → test x
      ≡ false) → ((x : Signaling) → test (later_by batches x) ≡ other x) → (xs : List Signaling) →
      count_by test (thread_part ++ map (later_by batches) xs) ≡ count_by other xs
  count_rest test other fails same xs =
      fold-append (λ k x. k + cond (test x) 1 0) 0 thread_part (map (later_by batches) xs)
      ∙ (ap (λ n. fold (λ k x. k + cond (test x) 1 0) n (map (later_by batches) xs))
      (counts_none s test fails (length s.queues) 0 0 (steps_in_order threads) fit.timelines)
      ∙ count_later batches test other same 0 xs)

  -- a test for a semaphore that is no timeline fails at the signals of timelines
  no_timeline : (t : ℕ) → is_timeline_at s t ≡ false → (x : Signaling) → is_timeline_at s x.semaphore ≡ true →
      (x.semaphore == t) ≡ false
  no_timeline t not x is = by_test (x.semaphore == t) refl
    where
      by_test : (b : Bool) → (x.semaphore == t) ≡ b → (x.semaphore == t) ≡ false
      by_test false e = e
      by_test true e =
          let same : x.semaphore ≡ t = eqb-true x.semaphore t e in
          absurd (false≢true (sym not ∙ (ap (is_timeline_at s) (sym same) ∙ is)))

  pub rest_value : (e : ℕ) → value (plan_of script) (signals + e) ≡ value (plan_of s) e
  rest_value e = op_value_is script (signals + e) ∙ (by_get (slice_get (all_signals s) e) refl ∙ sym (op_value_is s e))
    where
      by_get : (o : Option Signaling) → slice_get (all_signals s) e ≡ o → value_at script (signals + e) ≡ value_at s e
      by_get None h =
          let g = no_value script [] (all_signals script) (signals + e) (rest_signal e
          ∙ ap (option_map (later_by batches)) h) in
          ap (λ (o : Option ℕ). option_map_or (λ v. v) o 0) g
          ∙ sym (ap (λ (o : Option ℕ). option_map_or (λ v. v) o 0) (no_value s [] (all_signals s) e h))
      by_get (Some x) h =
          value_is script (signals + e) (later_by batches x) (rest_signal e ∙ ap (option_map (later_by batches)) h)
          ∙ (by_kind (is_timeline_at s x.semaphore) refl ∙ sym (value_is s e x h))
        where
          taken : take (signals + e) (all_signals script)
              ≡ thread_part ++ map (later_by batches) (take e (all_signals s))
          taken =
              ap (take (signals + e)) signals_parts
              ∙ (take_behind thread_part rest_part signals e count_thread_part
              ∙ ap (λ xs. thread_part ++ xs) (take-map (later_by batches) e (all_signals s)))

          by_kind : (b : Bool) → is_timeline_at s x.semaphore ≡ b →
              signal_value script (take (signals + e) (all_signals script)) (later_by batches x)
              ≡ signal_value s (take e (all_signals s)) x
          by_kind true i =
              cond-true (is_timeline_at s x.semaphore) x.value
              (count_by (signals_semaphore x.semaphore) (take (signals + e) (all_signals script)) + 1) i
              ∙ sym (cond-true (is_timeline_at s x.semaphore) x.value
              (count_by (signals_semaphore x.semaphore) (take e (all_signals s)) + 1) i)
          by_kind false i =
              ap (λ n. cond (is_timeline_at s x.semaphore) x.value (n + 1))
              (ap (count_by (signals_semaphore x.semaphore)) taken
              ∙ count_rest (signals_semaphore x.semaphore) (signals_semaphore x.semaphore) (no_timeline x.semaphore i)
              (λ y. refl) (take e (all_signals s)))

  -- how many signals of a binary semaphore are written before a job of the rest
  pub rest_count : (t k : ℕ) → is_timeline_at s t ≡ false →
      count_by (λ x. (x.semaphore == t) && nat_lt x.job (batches + k)) (all_signals script)
      ≡ count_by (λ x. (x.semaphore == t) && nat_lt x.job k) (all_signals s)
  rest_count t k not =
      ap (count_by (λ x. (x.semaphore == t) && nat_lt x.job (batches + k))) signals_parts
      ∙ count_rest (λ x. (x.semaphore == t) && nat_lt x.job (batches + k)) (λ x. (x.semaphore == t) && nat_lt x.job k)
      (λ x is. ap (λ b. b && nat_lt x.job (batches + k)) (no_timeline t not x is))
      (λ x. ap (λ b. (x.semaphore == t) && b) (less_shift batches x.job k)) (all_signals s)
