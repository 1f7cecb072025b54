-- What the jobs of a plan wait for comes from its needs, its operations and its chains.
use Rattle.std.proofs.Common.{◌≡◌, ℕ, zero, suc, cond, ◌+◌, ◌<◌, ◌≤◌, false, ltb, leb, List, [], ◌∷◌, ◌++◌, length, get_or, map, filter, take, All, Option, Some, None, option_map, ◌↔◌, IsNone, refl, sym, ap, ◌∙◌, subst, arith, zero-add, append_assoc}
use Rattle.std.specs.List.{slice_get, filter_map, cons_option, range_with_len}
use Rattle.std.specs.Option.{option_map_or, option_to_list}
use Rattle.std.proofs.lemmas.Bool.{cond-true, cond-false, lt-ltb, leb-true, leb-false, lt-leb}
use Rattle.std.proofs.lemmas.List.Elements.{filter-append, filter_map-append}
use Rattle.std.proofs.lemmas.List.FromFn.{map-range_with_len_more}
use Rattle.vq_model.specs.declared.script.Script.{Script}
use Rattle.vq_model.specs.declared.script.Semaphore.{Semaphore}
use Rattle.vq_model.specs.declared.script.Mark.{Mark}
use Rattle.vq_model.specs.declared.script.Pair.{Pair}
use Rattle.vq_model.specs.declared.script.HostStep.{HostStep}
use Rattle.vq_model.specs.declared.script.HostStep.TheVariants.{WaitAll, WaitAny, FenceWait}
use Rattle.vq_model.specs.declared.script.Job.{Job}
use Rattle.vq_model.specs.declared.script.Job.TheVariants.{Host, Batch as BatchJob}
use Rattle.vq_model.specs.declared.plan.Need.{Need}
use Rattle.vq_model.specs.declared.plan.PlanJob.{PlanJob}
use Rattle.vq_model.specs.Lowering.{plan_of, plan_job, of_pair, of_wait, step_needs}
use Rattle.vq_model.specs.Edges.{AtEnd, awaited_at}
use Rattle.vq_model.specs.EdgeReasons.{edges_to}
use Rattle.vq_model.specs.Context.{is_fence, is_timeline}
use Rattle.vq_model.specs.Plan.{Plan, value, chain, chain_of, resolver, initial, job_of}
use Rattle.vq_model.specs.SameScript.{IsRead}
use Rattle.vq_model.specs.Signals.{initial_value}
use Rattle.vq_model.specs.ValidScripts.{IsTimelinePair, IsValidMark, IsValidStep}
use Rattle.vq_model.specs.WellFormed.{IsWellFormed}
use Rattle.vq_ground.proofs.Searches.{find_passes, find_fails}
use Rattle.vq_ground.proofs.Gets.{get-map}
use Rattle.vq_plan_laws.proofs.Cited.{job_is}
use Rattle.vq_ground.proofs.Options.{some_of}
use Rattle.vq_ground.proofs.Searches.{find_member}
use Rattle.vq_reading_laws.proofs.Cited.{kind_exists, read_batches, read_steps}
use Rattle.vq_spec.specs.declared.chains.Chain.{Chain}
use Rattle.vq_spec.specs.ChainParts.{AreChains, first_with}
use Rattle.vq_spec.specs.declared.edges.Waits.{Waits}
use Rattle.vq_spec.specs.Jobs.{awaited_by, finished_before, resolving}
use Rattle.vq_spec.specs.Waits.{AreWaits}
use Rattle.vq_spec.proofs.PlanChains.{chain_read, resolver_is}
use Rattle.vq_spec.proofs.Ranges.{take_push}

-- Needs

-- a resolver is missing exactly where all operations of the chain have lower values
pub no_resolver : (p : Plan) → IsWellFormed p → (t v : ℕ) (o : Option ℕ) → o ≡ resolver p t v →
    IsNone o ↔ ((e : ℕ) → chain_of p e ≡ Some t → value p e < v)
no_resolver p w t v None r = (
  λ is e of_chain. leb-false v (value p e)
      (find_fails (λ f. leb v (value p f)) (chain p t) e (sym r) (w.in_chain e t of_chain)),
  λ low. refl,
)
no_resolver p w t v (Some e) r = (
  λ is. absurd (cc),
  λ low. absurd (
      let at = leb-true v (value p e) (find_passes (λ f. leb v (value p f)) (chain p t) e (sym r)) in
      let below = low e (w.of_chain e t (find_member (λ f. leb v (value p f)) (chain p t) e (sym r))) in
      omega arith
      ),
)

module _ (s : Script) (read : IsRead s) (chains : List Chain) (k : AreChains s chains) (n : Need)
    (exists : n.chain < length s.semaphores) where
  pub initial_is : (x : Semaphore) → slice_get s.semaphores n.chain ≡ Some x →
      initial (plan_of s) n.chain ≡ initial_value x.kind
  initial_is x at = ap (λ o. option_map_or (λ v. v) o 0)
      (get-map (λ y. initial_value y.kind) s.semaphores n.chain
      ∙ ap (option_map (λ y. initial_value y.kind)) at)

  pub in_chains : n.chain < length chains
  in_chains = let m = k.number in omega arith

  -- a need above the initial value waits for its resolver
  pub resolving_one : (v : ℕ) (c : Chain) (o : Option ℕ) → initial (plan_of s) n.chain ≡ v →
      v < n.value → c ≡ get_or chains n.chain c → o ≡ first_with c.pairs.items n.value →
      option_to_list o ≡ resolving (plan_of s) (n ∷ [])
  resolving_one v c o same l r e =
      let is : o ≡ resolver (plan_of s) n.chain n.value = e
      ∙ resolver_is s read chains k n.chain n.value c (chain_read chains n.chain c in_chains r) in
      ap option_to_list is
      ∙ (one (resolver (plan_of s) n.chain n.value)
      ∙ sym (ap (filter_map (λ m. resolver (plan_of s) m.chain m.value))
      (cond-true (ltb (initial (plan_of s) n.chain) n.value) (n ∷ []) []
      (lt-ltb (initial (plan_of s) n.chain) n.value (omega arith)))))
    where
      one : (o : Option ℕ) → option_to_list o ≡ cons_option o []
      one None = refl
      one (Some x) = refl

  pub resolving_none : (v : ℕ) → initial (plan_of s) n.chain ≡ v → n.value ≤ v →
      [] ≡ resolving (plan_of s) (n ∷ [])
  resolving_none v same l =
      sym (ap (filter_map (λ m. resolver (plan_of s) m.chain m.value))
      (cond-false (ltb (initial (plan_of s) n.chain) n.value) (n ∷ []) []
      (lt-leb (suc (initial (plan_of s) n.chain)) n.value (omega arith))))

-- one need more
pub resolving_push : (p : Plan) (now new : List ℕ) (ns : List Need) (i : ℕ) (n : Need) →
    slice_get ns i ≡ Some n → now ≡ resolving p (take i ns) →
    new ≡ now ++ resolving p (n ∷ []) → new ≡ resolving p (take (i + 1) ns)
resolving_push p now new ns i n at h a =
    a
    ∙ (ap (λ xs. xs ++ resolving p (n ∷ [])) h
    ∙ sym (ap (resolving p) (take_push ns i n at)
    ∙ (ap (filter_map (λ m. resolver p m.chain m.value))
    (filter-append (λ m. ltb (initial p m.chain) m.value) (take i ns) (n ∷ []))
    ∙ filter_map-append (λ m. resolver p m.chain m.value)
    (filter (λ m. ltb (initial p m.chain) m.value) (take i ns))
    (filter (λ m. ltb (initial p m.chain) m.value) (n ∷ [])))))

-- one operation more
pub jobs_push : {X : Type 0} (f : X → Option ℕ) (front now new : List ℕ) (es : List X) (i : ℕ)
    (e : X) (o : Option ℕ) → slice_get es i ≡ Some e → now ≡ front ++ filter_map f (take i es) → o ≡ f e →
    new ≡ now ++ option_to_list o → new ≡ front ++ filter_map f (take (i + 1) es)
jobs_push f front now new es i e o at h is a =
    a
    ∙ ((λ t. h t ++ option_to_list (is t))
    ∙ (append_assoc front (filter_map f (take i es)) (option_to_list (f e))
    ∙ ap (λ xs. front ++ xs) (sym (ap (filter_map f) (take_push es i e at)
    ∙ (filter_map-append f (take i es) (e ∷ [])
    ∙ ap (λ xs. filter_map f (take i es) ++ xs) (one (f e)))))))
  where
    one : (o : Option ℕ) → cons_option o [] ≡ option_to_list o
    one None = refl
    one (Some x) = refl

-- Jobs

-- what a job waits for by its number is what it waits for by its own words
module _ (p : Plan) (j : ℕ) (job : PlanJob) (at : slice_get p.jobs j ≡ Some job) where
  abbrev firsts : Option PlanJob → List ℕ
  firsts o = option_to_list (option_map_or (λ (x : PlanJob). x.previous) o None)
      ++ option_to_list (option_map_or (λ (x : PlanJob). x.host_before) o None)
      ++ option_map_or (λ (x : PlanJob). x.idle_after) o []

  abbrev awaited : Option PlanJob → List ℕ
  awaited o = cond (option_map_or (λ (x : PlanJob). x.any) o false) []
      (resolving p (option_map_or (λ (x : PlanJob). x.needs) o []))

  awaited_are : awaited_at p j AtEnd ≡ awaited_by p job
  awaited_are = ap awaited at

  edges_are : edges_to p j ≡ finished_before job ++ filter_map (job_of p) (awaited_by p job)
  edges_are = ap (λ o. firsts o ++ filter_map (job_of p) (awaited o)) at

-- what a host step waits for exists
module _ (s : Script) (j line : ℕ) where
  pairs_exist : (pairs : List Pair) → All (IsTimelinePair s) pairs →
      All (λ n. n.chain < length s.semaphores) (map (of_pair line) pairs)
  pairs_exist [] v k d l = absurd (omega arith)
  pairs_exist (x ∷ xs) v zero d l = kind_exists s is_timeline x.semaphore (v 0 x (omega arith))
  pairs_exist (x ∷ xs) v (suc k) d l =
      pairs_exist xs (λ n e m. v (suc n) e (omega arith)) k d (omega arith)

  step_needs_exist : (t : HostStep) → IsValidStep s t →
      All (λ n. n.chain < length s.semaphores) (step_needs s j line t)
  step_needs_exist (WaitAll pairs) v k d l = pairs_exist pairs v k d l
  step_needs_exist (WaitAny pairs) v k d l = pairs_exist pairs v k d l
  step_needs_exist (FenceWait f) v zero d l = kind_exists s is_fence f v
  step_needs_exist (FenceWait f) v (suc k) d l = absurd (omega arith)
  step_needs_exist other v k d l = absurd (omega arith)

module _ (s : Script) (i : IsRead s) (j : ℕ) (job : PlanJob)
    (at : slice_get (plan_of s).jobs j ≡ Some job) where
  needs_exist_at : (x : Job) → slice_get s.jobs j ≡ Some x → plan_job s (j, x) ≡ job →
      All (λ n. n.chain < length s.semaphores) job.needs
  needs_exist_at (Host h) e q =
      subst (λ (x : PlanJob). All (λ n. n.chain < length s.semaphores) x.needs) q
      (step_needs_exist s j h.line h.step (read_steps s i j h e))
  needs_exist_at (BatchJob b) e q =
      subst (λ (x : PlanJob). All (λ n. n.chain < length s.semaphores) x.needs) q
      (needs_of b.waits (read_batches s i j b e).waits)
    where
      needs_of : (ms : List Mark) → All (IsValidMark s) ms →
          All (λ n. n.chain < length s.semaphores) (map (of_wait s j) ms)
      needs_of [] v k d l = absurd (omega arith)
      needs_of (m ∷ ms) v zero d l = (v 0 m (omega arith)).exists
      needs_of (m ∷ ms) v (suc k) d l =
          needs_of ms (λ n e m. v (suc n) e (omega arith)) k d (omega arith)

  pub needs_exist : All (λ n. n.chain < length s.semaphores) job.needs
  needs_exist =
      let x = some_of (λ (y : Job). plan_job s (j, y)) (slice_get s.jobs j) job
      (sym (job_is s j) ∙ at) in
      needs_exist_at x.0 x.1 x.2

  -- one job more
  row_more : (f : ℕ → List ℕ) (now new : List (List ℕ)) (own row : List ℕ) → now ≡ map f (range_with_len 0 j) →
      own ≡ row → f j ≡ row → new ≡ now ++ own ∷ [] → new ≡ map f (range_with_len 0 (j + 1))
  row_more f now new own row h e is a =
      a ∙ ((λ t. h t ++ (e ∙ sym is) t ∷ []) ∙ sym (map-range_with_len_more {X = List ℕ} f 0 j j (zero-add j)))

  pub waits_push : (now new : Waits) (a e : List ℕ) → AreWaits (plan_of s) j now →
      a ≡ awaited_by (plan_of s) job →
      e ≡ finished_before job ++ filter_map (job_of (plan_of s)) (awaited_by (plan_of s) job) →
      new.awaited ≡ now.awaited ++ a ∷ [] →
      new.edges ≡ now.edges ++ e ∷ [] → AreWaits (plan_of s) (j + 1) new
  waits_push now new a e h own_awaited own_edges awaited edges =
      let p = plan_of s in
      record {
        awaited = row_more (λ k. awaited_at p k AtEnd) now.awaited new.awaited _ _ h.awaited own_awaited
            (awaited_are p j job at) awaited;
        edges = row_more (edges_to p) now.edges new.edges _ _ h.edges own_edges (edges_are p j job at) edges;
      }
