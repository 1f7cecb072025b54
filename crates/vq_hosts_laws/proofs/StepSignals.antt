-- The signals of the batches that stand for threads' steps.
use Rattle.std.proofs.Common.{◌≡◌, ℕ, ◌+◌, Bool, true, false, cond, List, [], ◌∷◌, ◌++◌, map, length, fold, Some}
use Rattle.std.proofs.Common.{None, refl, sym, ap, ◌∙◌, zero, suc, arith}
use Rattle.std.specs.List.{slice_get, flat_map, enumerate_from}
use Rattle.std.specs.Option.{option_to_list}
use Rattle.vq_model.specs.declared.script.HostStep.{HostStep}
use Rattle.vq_model.specs.declared.script.HostStep.TheVariants.{Signal as HostSignal}
use Rattle.vq_model.specs.declared.script.Job.{Job}
use Rattle.vq_model.specs.declared.script.Job.TheVariants.{Host, Batch as BatchJob}
use Rattle.vq_model.specs.declared.script.Pair.{Pair}
use Rattle.vq_model.specs.declared.script.Script.{Script}
use Rattle.vq_model.specs.Signals.{Signaling, of_mark, step_signals, job_signals, is_timeline_at}
use Rattle.vq_blocks.specs.declared.block.ThreadStep.{ThreadStep}
use Rattle.vq_blocks.specs.declared.block.ThreadStep.TheVariants.{Wait, Signal}
use Rattle.vq_blocks.specs.Blocks.{waited_by, signaled_by}
use Rattle.vq_hosts_laws.proofs.PlainScripts.{plain_batch}
use Rattle.vq_hosts_laws.proofs.SameLines.{map_map}

-- steps with their threads
abbrev pub Steps : Type 0
Steps = List (ℕ × ThreadStep)

-- the signals of steps whose batches are numbered from here on
abbrev pub signals_of_steps : ℕ → ℕ → Steps → List Signaling
signals_of_steps first a steps = flat_map job_signals (enumerate_from a (map (plain_batch first) steps))

-- the threads of these signals
abbrev pub threads_of_signals : Steps → List ℕ
threads_of_signals steps = flat_map (λ x. map (λ pair. x.0) (signaled_by x.1)) steps

-- where the first signal of a step stands among the signals
abbrev pub signal_place : Steps → ℕ → ℕ
signal_place [] j = 0
signal_place (x ∷ steps) zero = 0
signal_place (x ∷ steps) (suc j) = length (signaled_by x.1) + signal_place steps j

-- the signal of a pair
abbrev pub signal_by : ℕ → Pair → Signaling
signal_by j pair = record { job = j; line = 0; semaphore = pair.semaphore; value = pair.value }

-- A signal is that of a step.
pub record IsSignalAt (a : ℕ) (steps : Steps) (e : ℕ) (x : Signaling) : Type 0 where
  pub place : ℕ
  pub thread : ℕ
  pub pair : Pair
  pub of_step : slice_get steps place ≡ Some (thread, Signal pair)
  pub is : x ≡ signal_by (a + place) pair
  pub number : e ≡ signal_place steps place
  pub of_thread : slice_get (threads_of_signals steps) e ≡ Some thread

one_more : (first a t : ℕ) (pair : Pair) (steps : Steps) → signals_of_steps first a ((t, Signal pair) ∷ steps)
    ≡ signal_by a pair ∷ signals_of_steps first (a + 1) steps
one_more first a t pair steps = refl

none_more : (first a t : ℕ) (pairs : List Pair) (steps : Steps) → signals_of_steps first a ((t, Wait pairs) ∷ steps)
    ≡ signals_of_steps first (a + 1) steps
none_more first a t pairs steps = refl

later_place : (a : ℕ) (y : ℕ × ThreadStep) (steps : Steps) (e f : ℕ) (x : Signaling) →
    f ≡ length (signaled_by y.1) + e →
    slice_get (threads_of_signals (y ∷ steps)) f ≡ slice_get (threads_of_signals steps) e →
    IsSignalAt (a + 1) steps e x → IsSignalAt a (y ∷ steps) f x
later_place a y steps e f x number same k =
    let n = k.number in
    let z : (a + 1) + k.place ≡ a + suc k.place = omega arith in
    let m : f ≡ length (signaled_by y.1) + signal_place steps k.place = omega arith in
    record {
      place = suc k.place;
      thread = k.thread;
      pair = k.pair;
      of_step = k.of_step;
      is = k.is ∙ ap (λ j. signal_by j k.pair) z;
      number = m;
      of_thread = same ∙ k.of_thread;
    }

pub signal_at : (first a : ℕ) (steps : Steps) (e : ℕ) (x : Signaling) → slice_get (signals_of_steps first a steps) e
    ≡ Some x → IsSignalAt a steps e x
signal_at first a [] e x h = absurd (let c : None ≡ Some x = h in cc)
signal_at first a ((t, Wait pairs) ∷ steps) e x h =
    let z : e ≡ 0 + e = omega arith in
    later_place a (t, Wait pairs) steps e e x z refl (signal_at first (a + 1) steps e x h)
signal_at first a ((t, Signal pair) ∷ steps) zero x h =
    let c : signal_by a pair ≡ x = let d : Some (signal_by a pair) ≡ Some x = h in cc in
    let z : a ≡ a + 0 = omega arith in
    record {
      place = 0;
      thread = t;
      pair = pair;
      of_step = refl;
      is = sym c ∙ ap (λ j. signal_by j pair) z;
      number = refl;
      of_thread = refl;
    }
signal_at first a ((t, Signal pair) ∷ steps) (suc e) x h =
    let z : suc e ≡ 1 + e = omega arith in
    later_place a (t, Signal pair) steps e (suc e) x z refl (signal_at first (a + 1) steps e x h)

pub signal_stands : (first a : ℕ) (steps : Steps) (j t : ℕ) (pair : Pair) → slice_get steps j
    ≡ Some (t, Signal pair) → slice_get (signals_of_steps first a steps) (signal_place steps j)
    ≡ Some (signal_by (a + j) pair)
signal_stands first a [] j t pair h = absurd (let c : None ≡ Some (t, Signal pair) = h in cc)
signal_stands first a ((u, Wait pairs) ∷ steps) zero t pair h = absurd (let c : (u, Wait pairs) ≡ (t, Signal pair) =
    cc in let d : Wait pairs ≡ Signal pair = ap (λ (y : ℕ × ThreadStep). y.1) c in cc)
signal_stands first a ((u, Signal q) ∷ steps) zero t pair h =
    let c : (u, Signal q) ≡ (t, Signal pair) = cc in
    let d : Signal q ≡ Signal pair = ap (λ (y : ℕ × ThreadStep). y.1) c in
    let p : q ≡ pair = cc in
    let z : a ≡ a + 0 = omega arith in
    ap (λ p. Some (signal_by a p)) p ∙ ap (λ j. Some (signal_by j pair)) z
signal_stands first a ((u, Wait pairs) ∷ steps) (suc j) t pair h =
    let z : 0 + signal_place steps j ≡ signal_place steps j = omega arith in
    let w : (a + 1) + j ≡ a + suc j = omega arith in
    ap (slice_get (signals_of_steps first (a + 1) steps)) z
    ∙ (signal_stands first (a + 1) steps j t pair h ∙ ap (λ n. Some (signal_by n pair)) w)
signal_stands first a ((u, Signal q) ∷ steps) (suc j) t pair h =
    let z : 1 + signal_place steps j ≡ suc (signal_place steps j) = omega arith in
    let w : (a + 1) + j ≡ a + suc j = omega arith in
    ap (slice_get (signals_of_steps first a ((u, Signal q) ∷ steps))) z
    ∙ (signal_stands first (a + 1) steps j t pair h ∙ ap (λ n. Some (signal_by n pair)) w)

-- .. and the thread of that signal
pub thread_stands : (steps : Steps) (j t : ℕ) (pair : Pair) → slice_get steps j ≡ Some (t, Signal pair) →
    slice_get (threads_of_signals steps) (signal_place steps j) ≡ Some t
thread_stands [] j t pair h = absurd (let c : None ≡ Some (t, Signal pair) = h in cc)
thread_stands ((u, Wait pairs) ∷ steps) zero t pair h =
    absurd (let c : (u, Wait pairs) ≡ (t, Signal pair) = cc in let d : Wait pairs ≡ Signal pair =
    ap (λ (y : ℕ × ThreadStep). y.1) c in cc)
thread_stands ((u, Signal q) ∷ steps) zero t pair h =
    let c : (u, Signal q) ≡ (t, Signal pair) = cc in ap (λ (y : ℕ × ThreadStep). Some y.0) c
thread_stands ((u, Wait pairs) ∷ steps) (suc j) t pair h =
    let z : 0 + signal_place steps j ≡ signal_place steps j = omega arith in
    ap (slice_get (threads_of_signals steps)) z ∙ thread_stands steps j t pair h
thread_stands ((u, Signal q) ∷ steps) (suc j) t pair h =
    let z : 1 + signal_place steps j ≡ suc (signal_place steps j) = omega arith in
    ap (slice_get (threads_of_signals ((u, Signal q) ∷ steps))) z ∙ thread_stands steps j t pair h

pub count_signals : (first a : ℕ) (steps : Steps) → length (signals_of_steps first a steps)
    ≡ length (threads_of_signals steps)
count_signals first a [] = refl
count_signals first a ((t, Wait pairs) ∷ steps) = count_signals first (a + 1) steps
count_signals first a ((t, Signal pair) ∷ steps) = ap suc (count_signals first (a + 1) steps)

-- Steps on timelines

-- all pairs name timelines
abbrev pub AreTimelines : Script → List Pair → Type 0
AreTimelines s [] = Unit {0}
AreTimelines s (pair ∷ pairs) = (is_timeline_at s pair.semaphore ≡ true) × AreTimelines s pairs

-- all steps wait for timelines and signal timelines
abbrev pub HaveTimelines : Script → Steps → Type 0
HaveTimelines s steps = (j t : ℕ) (step : ThreadStep) → slice_get steps j ≡ Some (t, step) →
    AreTimelines s (waited_by step) × AreTimelines s (signaled_by step)

-- a test that no signal of a timeline passes counts no signal of a thread
pub counts_none : (s : Script) (test : Signaling → Bool) →
    ((x : Signaling) → is_timeline_at s x.semaphore ≡ true → test x ≡ false) → (first a n : ℕ) (steps : Steps) →
    HaveTimelines s steps →
    fold (λ m x. m + cond (test x) 1 0) n (signals_of_steps first a steps) ≡ n
counts_none s test fails first a n [] h = refl
counts_none s test fails first a n ((t, Wait pairs) ∷ steps) h =
    counts_none s test fails first (a + 1) n steps (λ j u step e. h (suc j) u step e)
counts_none s test fails first a n ((t, Signal pair) ∷ steps) h =
    let e = fails (signal_by a pair) ((h 0 t (Signal pair) refl).1.0) in
    let z : n + 0 ≡ n = omega arith in
    ap (λ b. fold (λ m x. m + cond (test x) 1 0) (n + cond b 1 0) (signals_of_steps first (a + 1) steps)) e
    ∙ (ap (λ k. fold (λ m x. m + cond (test x) 1 0) k (signals_of_steps first (a + 1) steps)) z
    ∙ counts_none s test fails first (a + 1) n steps (λ j u step e. h (suc j) u step e))

-- The signals behind

-- a signal of a job whose number is greater by this
abbrev pub later_by : ℕ → Signaling → Signaling
later_by n x = record x { job = n + x.job }

job_later : (n a : ℕ) (job : Job) → job_signals (n + a, job) ≡ map (later_by n) (job_signals (a, job))
job_later n a (Host h) = by_step h.step
  where
    by_step : (t : HostStep) → step_signals (n + a) h.line t ≡ map (later_by n) (step_signals a h.line t)
    by_step (HostSignal pair) = refl
    by_step other = refl
job_later n a (BatchJob b) = sym (map_map (later_by n) (of_mark a) (b.signals ++ option_to_list b.fence))

pub jobs_later : (n a : ℕ) (jobs : List Job) → flat_map job_signals (enumerate_from (n + a) jobs)
    ≡ map (later_by n) (flat_map job_signals (enumerate_from a jobs))
jobs_later n a [] = refl
jobs_later n a (job ∷ jobs) =
    let z : (n + a) + 1 ≡ n + (a + 1) = omega arith in
    ap (λ xs. xs ++ flat_map job_signals (enumerate_from ((n + a) + 1) jobs)) (job_later n a job)
    ∙ (ap (λ xs. map (later_by n) (job_signals (a, job)) ++ xs)
    (ap (λ m. flat_map job_signals (enumerate_from m jobs)) z ∙ jobs_later n (a + 1) jobs)
    ∙ sym (parts (job_signals (a, job)) (flat_map job_signals (enumerate_from (a + 1) jobs))))
  where
    parts : (xs ys : List Signaling) → map (later_by n) (xs ++ ys) ≡ map (later_by n) xs ++ map (later_by n) ys
    parts [] ys = refl
    parts (x ∷ xs) ys = ap (λ zs. later_by n x ∷ zs) (parts xs ys)

pub enumerate_parts : {X : Type 0} (a : ℕ) (xs ys : List X) → enumerate_from a (xs ++ ys)
    ≡ enumerate_from a xs ++ enumerate_from (a + length xs) ys
enumerate_parts a [] ys = let z : a ≡ a + 0 = omega arith in ap (λ n. enumerate_from n ys) z
enumerate_parts a (x ∷ xs) ys =
    let z : (a + 1) + length xs ≡ a + suc (length xs) = omega arith in
    ap (λ zs. (a, x) ∷ zs) (enumerate_parts (a + 1) xs ys
    ∙ ap (λ n. enumerate_from (a + 1) xs ++ enumerate_from n ys) z)
