-- Where the steps of threads stand in the order of the batches that stand for them.
use Rattle.std.proofs.Common.{◌≡◌, ℕ, ◌+◌, ◌-◌, ◌<◌, ◌≤◌, ◌⊎◌, inl, inr, List, [], ◌∷◌, map, length, Option, Some}
use Rattle.std.proofs.Common.{None, option_map, refl, sym, ap, ◌∙◌, zero, suc, subst, arith}
use Rattle.std.specs.List.{slice_get, flat_map, enumerate_from}
use Rattle.std.specs.Option.{option_and_then}
use Rattle.std.proofs.lemmas.List.{length-map}
use Rattle.std.proofs.lemmas.Bool.{cases_lt}
use Rattle.std.proofs.lemmas.Option.{same_Some}
use Rattle.vq_ground.proofs.Gets.{get-map, get-append, get-append_left, get_within, get_some}
use Rattle.vq_ground.proofs.Options.{some_of}
use Rattle.vq_blocks.specs.declared.block.HostThread.{HostThread}
use Rattle.vq_blocks.specs.declared.block.ThreadLine.{ThreadLine}
use Rattle.vq_blocks.specs.declared.block.ThreadStep.{ThreadStep}
use Rattle.vq_blocks.specs.HostsMachine.{next_of}
use Rattle.vq_blocks.specs.HostsRuns.{steps_in_order}

-- the steps of a thread that has this number
abbrev pub numbered_steps : ℕ × HostThread → List (ℕ × ThreadStep)
numbered_steps x = map (λ line. (x.0, line.step)) x.1.steps

-- the steps of threads that are numbered from here on
abbrev pub steps_from : ℕ → List HostThread → List (ℕ × ThreadStep)
steps_from n threads = flat_map (λ x. map (λ line. (x.0, line.step)) x.1.steps) (enumerate_from n threads)

-- the number of the batch that stands for the first step of a thread
abbrev pub first_of : List HostThread → ℕ → ℕ
first_of [] t = 0
first_of (x ∷ threads) zero = 0
first_of (x ∷ threads) (suc t) = length x.steps + first_of threads t

-- A step of a thread by its place in the order of the batches.
pub record IsStepAt (threads : List HostThread) (n j : ℕ) (y : ℕ × ThreadStep) : Type 0 where
  pub thread : ℕ
  pub steps : HostThread
  pub of_thread : slice_get threads thread ≡ Some steps
  pub place : ℕ
  pub line : ThreadLine
  pub at_place : slice_get steps.steps place ≡ Some line
  pub number : j ≡ first_of threads thread + place
  pub is : y ≡ (n + thread, line.step)

-- the steps of one thread
own_step : (n : ℕ) (x : HostThread) (i : ℕ) → slice_get (numbered_steps (n, x)) i
    ≡ option_map (λ line. (n, line.step)) (slice_get x.steps i)
own_step n x i = get-map (λ line. (n, line.step)) x.steps i

own_length : (n : ℕ) (x : HostThread) → length (numbered_steps (n, x)) ≡ length x.steps
own_length n x = length-map x.steps (λ line. (n, line.step))

step_from : (n : ℕ) (threads : List HostThread) (t : ℕ) (x : HostThread) (i : ℕ) (line : ThreadLine) →
    slice_get threads t ≡ Some x → slice_get x.steps i ≡ Some line →
    slice_get (steps_from n threads) (first_of threads t + i) ≡ Some (n + t, line.step)
step_from n [] t x i line e f = absurd (let c : None ≡ Some x = e in cc)
step_from n (y ∷ threads) zero x i line e f =
    let same : y ≡ x = cc in
    let within = get_within x.steps i line f in
    let many = own_length n y in
    let l : i < length (numbered_steps (n, y)) = subst (λ (z : HostThread). i < length (numbered_steps (n, z)))
    (sym same) (let m = own_length n x in omega arith) in
    let z : 0 + i ≡ i = omega arith in
    let w : n ≡ n + 0 = omega arith in
    ap (slice_get (steps_from n (y ∷ threads))) z
    ∙ (get-append_left (numbered_steps (n, y)) (steps_from (n + 1) threads) i l
    ∙ (own_step n y i
    ∙ (ap (option_map (λ line. (n, line.step))) (subst (λ (z : HostThread). slice_get z.steps i ≡ Some line)
    (sym same) f)
    ∙ ap {B = Option (ℕ × ThreadStep)} (λ m. Some (m, line.step)) w)))
step_from n (y ∷ threads) (suc t) x i line e f =
    let many = own_length n y in
    let z : (length y.steps + first_of threads t) + i ≡ length (numbered_steps (n, y)) + (first_of threads t + i) =
    omega arith in
    let w : (n + 1) + t ≡ n + suc t = omega arith in
    ap (slice_get (steps_from n (y ∷ threads))) z
    ∙ (get-append (numbered_steps (n, y)) (steps_from (n + 1) threads) (first_of threads t + i)
    ∙ (step_from (n + 1) threads t x i line e f
    ∙ ap {B = Option (ℕ × ThreadStep)} (λ m. Some (m, line.step)) w))

of_step : (n : ℕ) (threads : List HostThread) (j : ℕ) (y : ℕ × ThreadStep) → slice_get (steps_from n threads) j
    ≡ Some y → IsStepAt threads n j y
of_step n [] j y e = absurd (let c : None ≡ Some y = e in cc)
of_step n (x ∷ threads) j y e = by_place (cases_lt j (length (numbered_steps (n, x)))) (of_step (n + 1) threads)
  where
    by_place : ((j < length (numbered_steps (n, x))) ⊎ (length (numbered_steps (n, x)) ≤ j)) →
        ((i : ℕ) (z : ℕ × ThreadStep) → slice_get (steps_from (n + 1) threads) i ≡ Some z →
        IsStepAt threads (n + 1) i z) → IsStepAt (x ∷ threads) n j y
    by_place (inl l) f =
        let g = sym (own_step n x j) ∙ (sym (get-append_left (numbered_steps (n, x)) (steps_from (n + 1) threads) j l)
        ∙ e) in
        let m = some_of (λ (line : ThreadLine). (n, line.step)) (slice_get x.steps j) y g in
        let z : j ≡ 0 + j = omega arith in
        let w : n ≡ n + 0 = omega arith in
        record {
          thread = 0;
          steps = x;
          of_thread = refl;
          place = j;
          line = m.0;
          at_place = m.1;
          number = z;
          is = sym m.2 ∙ ap {B = ℕ × ThreadStep} (λ k. (k, m.0.step)) w;
        }
    by_place (inr l) f =
        let i : ℕ = j - length (numbered_steps (n, x)) in
        let q : length (numbered_steps (n, x)) + i ≡ j = omega arith in
        let g = sym (get-append (numbered_steps (n, x)) (steps_from (n + 1) threads) i)
        ∙ (ap (slice_get (steps_from n (x ∷ threads))) q ∙ e) in
        let o = f i y g in
        let num = o.number in
        let many = own_length n x in
        let z : j ≡ (length x.steps + first_of threads o.thread) + o.place = omega arith in
        let w : (n + 1) + o.thread ≡ n + suc o.thread = omega arith in
        record {
          thread = suc o.thread;
          steps = o.steps;
          of_thread = o.of_thread;
          place = o.place;
          line = o.line;
          at_place = o.at_place;
          number = z;
          is = o.is ∙ ap {B = ℕ × ThreadStep} (λ k. (k, o.line.step)) w;
        }

-- all steps of threads

-- A step of thread t at place i, with the number of its batch.
pub record IsThreadStep (threads : List HostThread) (t i j : ℕ) (step : ThreadStep) : Type 0 where
  pub steps : HostThread
  pub of_thread : slice_get threads t ≡ Some steps
  pub line : ThreadLine
  pub at_place : slice_get steps.steps i ≡ Some line
  pub is : line.step ≡ step
  pub number : j ≡ first_of threads t + i

module _ (threads : List HostThread) where
  -- the step of a thread has this batch
  pub batch_of_place : (t i j : ℕ) (step : ThreadStep) → IsThreadStep threads t i j step →
      slice_get (steps_in_order threads) j ≡ Some (t, step)
  batch_of_place t i j step k =
      let z : 0 + t ≡ t = omega arith in
      ap (slice_get (steps_in_order threads)) k.number
      ∙ (step_from 0 threads t k.steps i k.line k.of_thread k.at_place
      ∙ (ap {B = Option (ℕ × ThreadStep)} (λ m. Some (m, k.line.step)) z
      ∙ ap {B = Option (ℕ × ThreadStep)} (λ s. Some (t, s)) k.is))

  -- a batch has this step of a thread
  pub place_of_batch : (t j : ℕ) (step : ThreadStep) → slice_get (steps_in_order threads) j ≡ Some (t, step) →
      (i : ℕ) × IsThreadStep threads t i j step
  place_of_batch t j step e =
      let o = of_step 0 threads j (t, step) e in
      let same_thread : t ≡ 0 + o.thread = ap (λ (y : ℕ × ThreadStep). y.0) o.is in
      let same_step : step ≡ o.line.step = ap (λ (y : ℕ × ThreadStep). y.1) o.is in
      let z : o.thread ≡ t = omega arith in (
        o.place,
        record {
          steps = o.steps;
          of_thread = ap (slice_get threads) (sym z) ∙ o.of_thread;
          line = o.line;
          at_place = o.at_place;
          is = sym same_step;
          number = o.number ∙ ap (λ m. first_of threads m + o.place) z;
        },
      )

  -- the next step of a thread
  pub next_place : (done : ℕ → ℕ) (t : ℕ) (line : ThreadLine) → next_of threads done t ≡ Some line →
      IsThreadStep threads t (done t) (first_of threads t + done t) line.step
  next_place done t line e = by_thread (slice_get threads t) refl e
    where
      by_thread : (o : Option HostThread) → slice_get threads t ≡ o →
          option_and_then (λ x. slice_get x.steps (done t)) o ≡ Some line →
          IsThreadStep threads t (done t) (first_of threads t + done t) line.step
      by_thread None f g = absurd (let c : None ≡ Some line = g in cc)
      by_thread (Some x) f g = record { steps = x; of_thread = f; line = line; at_place = g; is = refl; number = refl }

  -- a step is the next one of its thread
  pub is_next : (done : ℕ → ℕ) (t i j : ℕ) (step : ThreadStep) → (k : IsThreadStep threads t i j step) → done t ≡ i →
      next_of threads done t ≡ Some k.line
  is_next done t i j step k e =
      ap (λ (o : Option HostThread). option_and_then (λ x. slice_get x.steps (done t)) o) k.of_thread
      ∙ (ap (slice_get k.steps.steps) e ∙ k.at_place)

  -- a step before another of its thread
  pub earlier_step : (t i m j : ℕ) (step : ThreadStep) → IsThreadStep threads t i j step → m < i →
      (other : ThreadStep) × IsThreadStep threads t m (first_of threads t + m) other
  earlier_step t i m j step k l =
      let within = get_within k.steps.steps i k.line k.at_place in
      let o = get_some k.steps.steps m (omega arith) in (
        o.0.step,
        record {
          steps = k.steps;
          of_thread = k.of_thread;
          line = o.0;
          at_place = o.1;
          is = refl;
          number =
              refl;
        },
      )

  pub step_within : (t i j : ℕ) (step : ThreadStep) → IsThreadStep threads t i j step →
      j < length (steps_in_order threads)
  step_within t i j step k = get_within (steps_in_order threads) j (t, step) (batch_of_place t i j step k)

  -- the step at a place of a thread
  pub step_at : (t : ℕ) (x : HostThread) (i : ℕ) → slice_get threads t ≡ Some x → i < length x.steps →
      (step : ThreadStep) × IsThreadStep threads t i (first_of threads t + i) step
  step_at t x i e l =
      let o = get_some x.steps i l in
      (o.0.step, record { steps = x; of_thread = e; line = o.0; at_place = o.1; is = refl; number = refl })

  -- batches of one number stand for one step
  pub same_place : (t i j : ℕ) (step : ThreadStep) (u m : ℕ) (other : ThreadStep) → IsThreadStep threads t i j step →
      IsThreadStep threads u m j other → (t ≡ u) × (i ≡ m) × (step ≡ other)
  same_place t i j step u m other k l =
      let e = same_Some (t, step) (u, other) (sym (batch_of_place t i j step k) ∙ batch_of_place u m j other l) in
      let p : t ≡ u = ap (λ (y : ℕ × ThreadStep). y.0) e in
      let s : step ≡ other = ap (λ (y : ℕ × ThreadStep). y.1) e in
      let kn = k.number in
      let ln = l.number in
      let f = ap (first_of threads) p in
      (p, omega arith, s)
