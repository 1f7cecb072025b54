-- What names and numbers of a plan name, is found by them again.
use Rattle.std.proofs.Common.{◌≡◌, ℕ, ◌<◌, ◌≤◌, ◌^◌, ◌==◌, Bool, true, false, cond, List, [], ◌∷◌, length, find, Option, Some, None}
use Rattle.std.proofs.Common.{option_map, refl, sym, subst, ap, ◌∙◌, arith, inl, inr, ◌⊎◌}
use Rattle.std.specs.Fmt.{decimal}
use Rattle.std.specs.Prelude.{nat_lt}
use Rattle.std.specs.Str.{bytes_eq}
use Rattle.std.specs.List.{slice_get, range_with_len}
use Rattle.std.specs.Option.{option_map_or, option_and_then}
use Rattle.std.proofs.lemmas.Bool.{or_left, cond-true, eq-eqb, eqb-true, false≢true, lt-ltb, cases_lt}
use Rattle.std.proofs.lemmas.Slice.Eq.{bytes_eq-Decides}
use Rattle.vq_order_laws.proofs.Cited.{job_lines_rise}
use Rattle.vq_ground.proofs.Bytes.{same_bytes}
use Rattle.vq_model.specs.declared.script.ActorName.{ActorName}
use Rattle.vq_model.specs.declared.script.ActorName.TheVariants.{Host as HostActor, Submit as SubmitActor, Ring as RingActor}
use Rattle.vq_model.specs.declared.script.Script.{Script}
use Rattle.vq_model.specs.declared.script.Semaphore.{Semaphore}
use Rattle.vq_model.specs.Context.{is_threaded}
use Rattle.vq_model.specs.declared.script.Queue.{Queue}
use Rattle.vq_model.specs.declared.script.Job.{Job}
use Rattle.vq_model.specs.declared.script.Job.TheVariants.{Host as HostJob, Batch as BatchJob}
use Rattle.vq_model.specs.declared.plan.Op.{Op}
use Rattle.vq_model.specs.Plan.{Plan, chain, chain_of, value, initial, line_of_job, line_of_command, commands_of}
use Rattle.vq_ground.specs.Lists.{has}
use Rattle.vq_model.specs.Lowering.{plan_of, plan_job}
use Rattle.vq_model.specs.LoweredPlans.{IsPlan}
use Rattle.vq_model.specs.Naming.{semaphore_name, queue_name, actor_word}
use Rattle.vq_model.specs.SureOrder.{KeepsChains, KeepsRising, RisesFrom}
use Rattle.vq_model.specs.Meaning.{small_numeral}
use Rattle.vq_model.specs.ValidScripts.{IsActor, is_threaded_queue, job_lines}
use Rattle.vq_ground.proofs.Gets.{get_some, get_within}
use Rattle.vq_ground.proofs.Lists.{has_here, has_cases}
use Rattle.vq_ground.proofs.Numbers.{has_range, has-range_cases}
use Rattle.vq_ground.proofs.Searches.{find_passes, find_member, find_fails}
use Rattle.vq_reading_laws.proofs.Cited.{read_lines_rise}
use Rattle.vq_canonical_laws.proofs.Cited.{decimal_back, read_names}
use Rattle.vq_plan_laws.proofs.Cited.{count_jobs, part_is, plan_lines, plan_semaphores, plan_well_formed}
use Rattle.vq_given.specs.Words.{queue_named, actor_said, job_at, job_said, command_at, command_said, job_with}
use Rattle.vq_given.specs.Words.{semaphore_named, op_in, op_at, op_said}
use Rattle.vq_trace_laws.specs.ReadsBack.{HasSmallLines}

-- Searches

-- the one number that passes a test is found among the numbers below another
pub find_one : (test : ℕ → Bool) (n j : ℕ) → j < n → test j ≡ true →
    ((k : ℕ) → k < n → test k ≡ true → k ≡ j) → find test (range_with_len 0 n) ≡ Some j
find_one test n j l t one = by_found (find test (range_with_len 0 n)) refl
  where
    by_found : (o : Option ℕ) → find test (range_with_len 0 n) ≡ o → find test (range_with_len 0 n) ≡ Some j
    by_found None e =
        absurd (false≢true (sym (find_fails test (range_with_len 0 n) j e (has_range n 0 j (omega arith) (omega arith))) ∙ t))
    by_found (Some r) e =
        let inside = (has-range_cases n 0 r (find_member test (range_with_len 0 n) r e)).1 in
        e ∙ ap (λ (k : ℕ). Some k) (one r (omega arith) (find_passes test (range_with_len 0 n) r e))

-- Numbers

-- a number of 32 bits is read as itself
pub small_back : (n : ℕ) → n < 2 ^ 32 → small_numeral (decimal n) ≡ Some n
small_back n small =
    let wide : n < 2 ^ 64 = omega arith in
    ap (option_and_then (λ k. cond (nat_lt k (2 ^ 32)) (Some k) None)) (decimal_back n wide)
    ∙ cond-true (nat_lt n (2 ^ 32)) (Some n) None (lt-ltb n (2 ^ 32) small)

-- Values of chains

-- behind an operation of a chain the values are greater
above : (p : Plan) (e f : ℕ) (es : List ℕ) → KeepsRising p e es → has es f ≡ true → value p e < value p f
above p e f [] k h = absurd (false≢true h)
above p e f (g ∷ es) k h = by_place (has_cases g es f h) (above p g f es k.2)
  where
    by_place : (g ≡ f) ⊎ (has es f ≡ true) → (has es f ≡ true → value p g < value p f) → value p e < value p f
    by_place (inl same) more = subst (λ (z : ℕ). value p e < value p z) same k.0
    by_place (inr m) more = let l = more m in let r = k.0 in omega arith

-- two operations of a chain that rises have one value only where they are one
one_on : (p : Plan) (x e f : ℕ) (es : List ℕ) → KeepsRising p x es → has es e ≡ true → has es f ≡ true →
    value p e ≡ value p f → e ≡ f
one_on p x e f [] k he hf same = absurd (false≢true he)
one_on p x e f (g ∷ gs) k he hf same =
    by_places (has_cases g gs e he) (has_cases g gs f hf) (one_on p g e f gs k.2)
  where
    by_places : (g ≡ e) ⊎ (has gs e ≡ true) → (g ≡ f) ⊎ (has gs f ≡ true) →
        (has gs e ≡ true → has gs f ≡ true → value p e ≡ value p f → e ≡ f) → e ≡ f
    by_places (inl i) (inl j) more = sym i ∙ j
    by_places (inl i) (inr m) more =
        let l = above p g f gs k.2 m in
        let v : value p g ≡ value p e = ap (value p) i in
        absurd (omega arith)
    by_places (inr m) (inl j) more =
        let l = above p g e gs k.2 m in
        let v : value p g ≡ value p f = ap (value p) j in
        absurd (omega arith)
    by_places (inr m) (inr o) more = more m o same

one_value : (p : Plan) (n e f : ℕ) (es : List ℕ) → RisesFrom p n es → has es e ≡ true → has es f ≡ true →
    value p e ≡ value p f → e ≡ f
one_value p n e f [] r he hf same = absurd (false≢true he)
one_value p n e f (g ∷ gs) r he hf same =
    by_places (has_cases g gs e he) (has_cases g gs f hf)
  where
    by_places : (g ≡ e) ⊎ (has gs e ≡ true) → (g ≡ f) ⊎ (has gs f ≡ true) → e ≡ f
    by_places (inl i) (inl j) = sym i ∙ j
    by_places (inl i) (inr m) =
        let l = above p g f gs r.1 m in
        let v : value p g ≡ value p e = ap (value p) i in
        absurd (omega arith)
    by_places (inr m) (inl j) =
        let l = above p g e gs r.1 m in
        let v : value p g ≡ value p f = ap (value p) j in
        absurd (omega arith)
    by_places (inr m) (inr o) = one_on p g e f gs r.1 m o same

-- The parts of a plan

module _ (p : Plan) (is : IsPlan p) where
  -- a job by its line
  pub job_back : HasSmallLines p → (j : ℕ) → j < length p.jobs → job_said p (decimal (line_of_job p j)) ≡ Some j
  job_back small j l =
      ap (option_and_then (job_at p)) (decimal_back (line_of_job p j) (small.jobs j))
      ∙ find_one (λ k. line_of_job p k == line_of_job p j) (length p.jobs) j l
      (eq-eqb (line_of_job p j) (line_of_job p j) refl)
      (λ k m t. one k m (eqb-true (line_of_job p k) (line_of_job p j) t))
    where
      one : (k : ℕ) → k < length p.jobs → line_of_job p k ≡ line_of_job p j → k ≡ j
      one k m same = by_order (cases_lt k j) (cases_lt j k)
        where
          by_order : (k < j) ⊎ (j ≤ k) → (j < k) ⊎ (k ≤ j) → k ≡ j
          by_order (inl o) q = let c = job_lines_rise p is k j o l in absurd (omega arith)
          by_order (inr o) (inl q) = let c = job_lines_rise p is j k q m in absurd (omega arith)
          by_order (inr o) (inr q) = omega arith

  -- a command by its line
  pub command_back : HasSmallLines p → (c : ℕ) → c < length p.commands →
      command_said p (decimal (line_of_command p c)) ≡ Some c
  command_back small c l =
      ap (option_and_then (command_at p)) (decimal_back (line_of_command p c) (small.commands c))
      ∙ find_one (λ k. line_of_command p k == line_of_command p c) (length p.commands) c l
      (eq-eqb (line_of_command p c) (line_of_command p c) refl)
      (λ k m t. one k m (eqb-true (line_of_command p k) (line_of_command p c) t))
    where
      one : (k : ℕ) → k < length p.commands → line_of_command p k ≡ line_of_command p c → k ≡ c
      one k m same = by_order (cases_lt k c) (cases_lt c k)
        where
          by_order : (k < c) ⊎ (c ≤ k) → (c < k) ⊎ (k ≤ c) → k ≡ c
          by_order (inl o) q = let d = (plan_lines p is).commands k c o l in absurd (omega arith)
          by_order (inr o) (inl q) = let d = (plan_lines p is).commands c k q m in absurd (omega arith)
          by_order (inr o) (inr q) = omega arith

  -- the job of a command
  pub job_with_back : (j c : ℕ) → j < length p.jobs → has (commands_of p j) c ≡ true → job_with p c ≡ Some j
  job_with_back j c l h =
      find_one (λ k. has (commands_of p k) c) (length p.jobs) j l h
      (λ k m t. (plan_well_formed p is).one_job c k j t h)

  -- a queue by its name
  pub queue_back : (q : ℕ) → q < length p.script.queues → queue_named p (queue_name p.script q) ≡ Some q
  queue_back q l =
      find_one (λ k. bytes_eq (queue_name p.script q) (queue_name p.script k)) (length p.script.queues) q l
      (same_bytes (queue_name p.script q))
      (λ k m t. one k m ((bytes_eq-Decides (queue_name p.script q) (queue_name p.script k)).0 t))
    where
      one : (k : ℕ) → k < length p.script.queues → queue_name p.script q ≡ queue_name p.script k → k ≡ q
      one k m same =
          let x = get_some p.script.queues q l in
          let y = get_some p.script.queues k m in
          sym ((read_names p.script is.of_script).queues.apart q k x.0 y.0 x.1 y.1
          (sym (ap (λ (o : Option Queue). option_map_or (λ z. z.name) o []) x.1)
          ∙ (same ∙ ap (λ (o : Option Queue). option_map_or (λ z. z.name) o []) y.1)))

  -- a threaded queue exists
  pub threaded_exists : (q : ℕ) → is_threaded_queue p.script q ≡ true → q < length p.script.queues
  threaded_exists q h = by_queue (slice_get p.script.queues q) refl h
    where
      by_queue : (o : Option Queue) → slice_get p.script.queues q ≡ o → option_map_or (λ x. is_threaded x.mode) o false ≡ true →
          q < length p.script.queues
      by_queue None e t = absurd (false≢true t)
      by_queue (Some x) e t = get_within p.script.queues q x e

  -- an actor by its word
  pub actor_back : (a : ActorName) → IsActor p.script a → actor_said p (actor_word p.script a) ≡ Some a
  actor_back HostActor h = refl
  actor_back (SubmitActor q) h =
      ap (option_map (λ k. SubmitActor k)) (queue_back q (threaded_exists q h))
  actor_back (RingActor q) h = ap (option_map (λ k. RingActor k)) (queue_back q h)

  -- a semaphore or fence by its name
  pub semaphore_back : (t : ℕ) → t < length p.script.semaphores →
      semaphore_named p (semaphore_name p.script t) ≡ Some t
  semaphore_back t l =
      find_one (λ k. bytes_eq (semaphore_name p.script t) (semaphore_name p.script k)) (length p.script.semaphores) t l
      (same_bytes (semaphore_name p.script t))
      (λ k m h. one k m ((bytes_eq-Decides (semaphore_name p.script t) (semaphore_name p.script k)).0 h))
    where
      one : (k : ℕ) → k < length p.script.semaphores → semaphore_name p.script t ≡ semaphore_name p.script k → k ≡ t
      one k m same =
          let x = get_some p.script.semaphores t l in
          let y = get_some p.script.semaphores k m in
          sym ((read_names p.script is.of_script).semaphores.apart t k x.0 y.0 x.1 y.1
          (sym (ap (λ (o : Option Semaphore). option_map_or (λ z. z.name) o []) x.1)
          ∙ (same ∙ ap (λ (o : Option Semaphore). option_map_or (λ z. z.name) o []) y.1)))

  -- an operation of a chain by its value
  op_in_back : KeepsChains p → (e t : ℕ) → chain_of p e ≡ Some t → op_in p (value p e) t ≡ Some e
  op_in_back chains e t of_e = by_found (find (λ k. value p k == value p e) (chain p t)) refl
    where
      here : has (chain p t) e ≡ true
      here = (plan_well_formed p is).in_chain e t of_e

      by_found : (o : Option ℕ) → find (λ k. value p k == value p e) (chain p t) ≡ o →
          find (λ k. value p k == value p e) (chain p t) ≡ Some e
      by_found None f =
          absurd (false≢true (sym (find_fails (λ k. value p k == value p e) (chain p t) e f here)
          ∙ eq-eqb (value p e) (value p e) refl))
      by_found (Some k) f =
          f ∙ ap (λ (z : ℕ). Some z)
          (one_value p (initial p t) k e (chain p t) (chains t)
          (find_member (λ j. value p j == value p e) (chain p t) k f) here
          (eqb-true (value p k) (value p e) (find_passes (λ j. value p j == value p e) (chain p t) k f)))

  -- an operation by the name of its semaphore or fence and its value
  pub op_back : KeepsChains p → (e : ℕ) (o : Op) → slice_get p.ops e ≡ Some o → o.value < 2 ^ 64 →
      op_said p (semaphore_name p.script o.chain) (decimal o.value) ≡ Some e
  op_back chains e o at small =
      let of_e : chain_of p e ≡ Some o.chain = ap (option_map (λ y. y.chain)) at in
      let same : value p e ≡ o.value = ap (λ (z : Option Op). option_map_or (λ y. y.value) z 0) at in
      ap (option_and_then (op_at p (semaphore_name p.script o.chain))) (decimal_back o.value small)
      ∙ (ap (option_and_then (op_in p o.value))
      (semaphore_back o.chain ((plan_semaphores p is).op_chain e o.chain of_e))
      ∙ (ap (λ (v : ℕ). op_in p v o.chain) (sym same) ∙ op_in_back chains e o.chain of_e))
