-- The states of fences, job by job.
use Rattle.std.proofs.Common.{◌≡◌, ◌≢◌, ℕ, suc, ◌+◌, ◌<◌, ◌≤◌, ◌^◌, Bool, true, false, ◌&&◌, ◌||◌, cond, eqb, List, [], ◌∷◌, ◌++◌, length, get_or, map, take, All, Option, Some, None, refl, sym, ap, ◌∙◌, arith}
use Rattle.std.proofs.Math.ListN.{set}
use Rattle.std.specs.List.{slice_get, range_with_len}
use Rattle.std.specs.Option.{option_map_or}
use Rattle.std.proofs.lemmas.Bool.{eq-eqb, ne_eqb}
use Rattle.std.proofs.lemmas.List.{length-take-le}
use Rattle.std.proofs.lemmas.List.FromFn.{length-map-range_with_len}
use Rattle.vq_model.specs.declared.script.Script.{Script}
use Rattle.vq_model.specs.declared.script.Mark.{Mark}
use Rattle.vq_model.specs.declared.script.Batch.{Batch}
use Rattle.vq_model.specs.declared.script.HostLine.{HostLine}
use Rattle.vq_model.specs.declared.script.HostStep.{HostStep}
use Rattle.vq_model.specs.declared.script.HostStep.TheVariants.{FenceReset}
use Rattle.vq_model.specs.declared.script.Job.{Job}
use Rattle.vq_model.specs.declared.script.Job.TheVariants.{Host, Batch as BatchJob}
use Rattle.vq_model.specs.Lowering.{effective_resets, fence_value, names_fence, resets_fence, step_resets}
use Rattle.vq_model.specs.SameScript.{IsRead}
use Rattle.vq_spec.specs.declared.fences.FenceState.{FenceState}
use Rattle.vq_spec.specs.Fences.{named_since, fence_state, AreFences, fresh, after_naming, after_reset, after_batch, after_step}
use Rattle.vq_spec.proofs.Lowered.{few_jobs}
use Rattle.vq_spec.proofs.Ranges.{take_push, map_range-set, get_map_range}

-- One job more

abbrev state_of : Bool → ℕ → FenceState
state_of named resets = record { is_named = named; resets = resets }

-- the state of a fence after a job
abbrev after_job : ℕ → Job → FenceState → FenceState
after_job f job x =
    cond (resets_fence f job && x.is_named) (state_of false (x.resets + 1))
    (state_of (x.is_named || names_fence f job) x.resets)

-- the same of a batch, by the fence that it names
abbrev named_by : Option Mark → ℕ → FenceState → FenceState
named_by o f x = state_of (x.is_named || option_map_or (λ m. eqb m.semaphore f) o false) x.resets

-- the same of a host step
abbrev reset_by : HostStep → ℕ → FenceState → FenceState
reset_by t f x =
    cond (step_resets f t && x.is_named) (state_of false (x.resets + 1))
    (state_of (x.is_named || false) x.resets)

abbrev state_from : ℕ → Bool → List Job → FenceState
state_from f named jobs = state_of (named_since f named jobs) (effective_resets f named jobs)

state-push : (f : ℕ) (named : Bool) (jobs : List Job) (job : Job) →
    state_from f named (jobs ++ job ∷ []) ≡ after_job f job (state_from f named jobs)
state-push f named [] job = by_test (resets_fence f job && named)
  where
    by_test : (c : Bool) →
        state_of (cond c false (named || names_fence f job)) (cond c 1 0)
        ≡ cond c (state_of false 1) (state_of (named || names_fence f job) 0)
    by_test true = refl
    by_test false = refl
state-push f named (x ∷ jobs) job =
    by_test (resets_fence f x && named) (state-push f false jobs job)
    (state-push f (named || names_fence f x) jobs job)
  where
    more : (c : Bool) (n : Bool) (r : ℕ) (y : FenceState) →
        y ≡ cond c (state_of false (r + 1)) (state_of n r) →
        state_of y.is_named (1 + y.resets) ≡ cond c (state_of false (1 + r + 1)) (state_of n (1 + r))
    more true n r y e =
        ap (λ (z : FenceState). state_of z.is_named (1 + z.resets)) e
        ∙ ap (state_of false) (let q : 1 + (r + 1) ≡ 1 + r + 1 = omega arith in q)
    more false n r y e = ap (λ (z : FenceState). state_of z.is_named (1 + z.resets)) e

    by_test : (c : Bool) →
        state_from f false (jobs ++ job ∷ []) ≡ after_job f job (state_from f false jobs) →
        state_from f (named || names_fence f x) (jobs ++ job ∷ []) ≡ after_job f job (state_from f (named || names_fence f x) jobs) →
        state_of
        (cond c (named_since f false (jobs ++ job ∷ [])) (named_since f (named || names_fence f x) (jobs ++ job ∷ [])))
        (cond c (1 + effective_resets f false (jobs ++ job ∷ []))
        (effective_resets f (named || names_fence f x) (jobs ++ job ∷ [])))
        ≡ after_job f job (state_of
        (cond c (named_since f false jobs) (named_since f (named || names_fence f x) jobs))
        (cond c (1 + effective_resets f false jobs) (effective_resets f (named || names_fence f x) jobs)))
    by_test true h k = more (resets_fence f job && named_since f false jobs)
        (named_since f false jobs || names_fence f job) (effective_resets f false jobs)
        (state_from f false (jobs ++ job ∷ [])) h
    by_test false h k = k

-- no more effective resets than jobs
few_resets : (f : ℕ) (named : Bool) (jobs : List Job) → effective_resets f named jobs ≤ length jobs
few_resets f named [] = omega arith
few_resets f named (job ∷ jobs) =
    by_test (resets_fence f job && named) (few_resets f false jobs)
    (few_resets f (named || names_fence f job) jobs)
  where
    by_test : (c : Bool) → effective_resets f false jobs ≤ length jobs →
        effective_resets f (named || names_fence f job) jobs ≤ length jobs →
        cond c (1 + effective_resets f false jobs)
        (effective_resets f (named || names_fence f job) jobs) ≤ suc (length jobs)
    by_test true a b = omega arith
    by_test false a b = omega arith

-- Before the first job

pub fences_none : (s : Script) (states : List FenceState) →
    states ≡ map (λ f. fresh) (range_with_len 0 (length s.semaphores)) → AreFences s 0 states
fences_none s states e = e

-- What is kept

module _ (s : Script) (j : ℕ) (states : List FenceState) (k : AreFences s j states) where
  pub states_length : length states ≡ length s.semaphores
  states_length = ap length k ∙ length-map-range_with_len (fence_state s j) 0 (length s.semaphores)

  pub state_at : (f : ℕ) (d : FenceState) → f < length s.semaphores →
      get_or states f d ≡ fence_state s j f
  state_at f d l = get_map_range (fence_state s j) (length s.semaphores) f states d k l

  pub value_is : (f : ℕ) (d : FenceState) → f < length s.semaphores →
      (get_or states f d).resets + 1 ≡ fence_value s j f
  value_is f d l = ap (λ (x : FenceState). x.resets + 1) (state_at f d l)

  pub resets_few : IsRead s → j ≤ length s.jobs → All (λ x. x.resets < 2 ^ 32) states
  resets_few i inside f d l =
      let n = states_length in
      let few = few_jobs s i in
      let m = length-take-le j s.jobs inside in
      let r = few_resets f false (take j s.jobs) in
      let e = ap (λ (x : FenceState). x.resets) (state_at f d (omega arith)) in
      omega arith

  module _ (job : Job) (at : slice_get s.jobs j ≡ Some job) where
    state_is : (f : ℕ) → fence_state s (j + 1) f ≡ after_job f job (fence_state s j f)
    state_is f =
        ap (state_from f false) (take_push s.jobs j job at)
        ∙ state-push f false (take j s.jobs) job

    -- no fence's state changes
    stays : ((f : ℕ) → after_job f job (fence_state s j f) ≡ fence_state s j f) →
        AreFences s (j + 1) states
    stays same = k
        ∙ λ i. map (λ f. sym (state_is f ∙ same f) i) (range_with_len 0 (length s.semaphores))

    -- the state of one fence changes
    changes : (g : ℕ) (x d : FenceState) → g < length s.semaphores → x ≡ get_or states g d →
        (y : FenceState) → (after_job g job x ≡ y) →
        ((f : ℕ) → f ≢ g → after_job f job (fence_state s j f) ≡ fence_state s j f) →
        AreFences s (j + 1) (set states g y)
    changes g x d inside is y e same =
        ap (λ xs. set xs g y) k
        ∙ sym (map_range-set (fence_state s j) (fence_state s (j + 1)) (length s.semaphores) g y
        (state_is g ∙ (ap (after_job g job) (sym (is ∙ state_at g d inside)) ∙ e))
        (λ f ne. state_is f ∙ same f ne))

  -- A batch

  or_false : (x : FenceState) → state_of (x.is_named || false) x.resets ≡ x
  or_false x = λ i. record { is_named = or_none x.is_named i; resets = x.resets }
    where
      or_none : (b : Bool) → (b || false) ≡ b
      or_none true = refl
      or_none false = refl

  or_true : (x : FenceState) → state_of (x.is_named || true) x.resets ≡ after_naming x
  or_true x = λ i. record { is_named = or_one x.is_named i; resets = x.resets }
    where
      or_one : (b : Bool) → (b || true) ≡ true
      or_one true = refl
      or_one false = refl

  pub fences_batch : (b : Batch) → slice_get s.jobs j ≡ Some (BatchJob b) →
      ((m : Mark) → b.fence ≡ Some m → m.semaphore < length s.semaphores) →
      AreFences s (j + 1) (after_batch states b)
  fences_batch b at exists = by_fence b.fence refl
    where
      by_fence : (o : Option Mark) → b.fence ≡ o →
          AreFences s (j + 1) (option_map_or (λ m. set states m.semaphore
          (after_naming (get_or states m.semaphore fresh))) o states)
      by_fence None e = stays (BatchJob b) at (λ f.
          ap (λ o. named_by o f (fence_state s j f)) e ∙ or_false (fence_state s j f))
      by_fence (Some m) e =
          changes (BatchJob b) at m.semaphore (get_or states m.semaphore fresh) fresh (exists m e)
          refl (after_naming (get_or states m.semaphore fresh))
          (ap (λ o. named_by o m.semaphore (get_or states m.semaphore fresh)) e
          ∙ (ap (λ t. state_of ((get_or states m.semaphore fresh).is_named || t)
          (get_or states m.semaphore fresh).resets) (eq-eqb m.semaphore m.semaphore refl)
          ∙ or_true (get_or states m.semaphore fresh)))
          (λ f ne. ap (λ o. named_by o f (fence_state s j f)) e
          ∙ (ap (λ t. state_of ((fence_state s j f).is_named || t) (fence_state s j f).resets)
          (ne_eqb m.semaphore f (λ q. ne (sym q))) ∙ or_false (fence_state s j f)))

  -- A host step

  pub fences_step : (h : HostLine) → slice_get s.jobs j ≡ Some (Host h) →
      ((f : ℕ) → h.step ≡ FenceReset f → f < length s.semaphores) →
      AreFences s (j + 1) (after_step states h.step)
  fences_step h at exists = by_step h.step refl
    where
      no_reset : (t : HostStep) → h.step ≡ t → ((f : ℕ) → step_resets f t ≡ false) →
          AreFences s (j + 1) states
      no_reset t e none = stays (Host h) at (λ f.
          ap (λ u. reset_by u f (fence_state s j f)) e
          ∙ (ap (λ c. cond (c && (fence_state s j f).is_named)
          (state_of false ((fence_state s j f).resets + 1))
          (state_of ((fence_state s j f).is_named || false) (fence_state s j f).resets)) (none f)
          ∙ or_false (fence_state s j f)))

      was_named : (n : Bool) (r : ℕ) →
          cond n (state_of false (r + 1)) (state_of (n || false) r) ≡ after_reset (state_of n r)
      was_named true r = refl
      was_named false r = refl

      by_step : (t : HostStep) → h.step ≡ t → AreFences s (j + 1) (after_step states t)
      by_step (FenceReset g) e =
          changes (Host h) at g (get_or states g fresh) fresh (exists g e) refl
          (after_reset (get_or states g fresh))
          (ap (λ u. reset_by u g (get_or states g fresh)) e
          ∙ (ap (λ c. cond (c && (get_or states g fresh).is_named)
          (state_of false ((get_or states g fresh).resets + 1))
          (state_of ((get_or states g fresh).is_named || false) (get_or states g fresh).resets))
          (eq-eqb g g refl)
          ∙ was_named (get_or states g fresh).is_named (get_or states g fresh).resets))
          (λ f ne. ap (λ u. reset_by u f (fence_state s j f)) e
          ∙ (ap (λ c. cond (c && (fence_state s j f).is_named)
          (state_of false ((fence_state s j f).resets + 1))
          (state_of ((fence_state s j f).is_named || false) (fence_state s j f).resets))
          (ne_eqb f g ne) ∙ or_false (fence_state s j f)))
      by_step t e = no_reset t e (λ f. refl)
