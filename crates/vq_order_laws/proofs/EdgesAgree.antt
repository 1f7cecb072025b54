-- In a plan with a sure order every edge agrees with the slow run: it leads from a job that stands
-- earlier there.
use Rattle.std.proofs.Common.{ℕ, ◌≡◌, true, false, List, [], ◌∷◌, ◌&&◌, not, sym, ap, ◌∙◌, subst, ◌<◌, ◌≤◌, leb, inl, inr, arith, length, Option, Some, None}
use Rattle.std.specs.List.{slice_get, list_all, list_any}
use Rattle.std.specs.Option.{option_map_or}
use Rattle.std.proofs.lemmas.Bool.{and_parts, cases_lt, cond-false, false≢true, lt-ltb, ltb-true, leb-true, le-leb}
use Rattle.std.proofs.lemmas.Option.{same_Some, slice_get_past}
use Rattle.vq_model.specs.declared.plan.Need.{Need}
use Rattle.vq_model.specs.Plan.{Plan, needs, waits_for_any, value, job_of, chain, initial, resolver}
use Rattle.vq_ground.specs.Lists.{has}
use Rattle.vq_model.specs.Edges.{AtEnd}
use Rattle.vq_model.specs.EdgeReasons.{EdgeAt, by_lane, by_host, by_need, by_idle, edges_to}
use Rattle.vq_model.specs.Machine.{is_reached, are_reached, can_start}
use Rattle.vq_model.specs.HappensBefore.{comes_earlier}
use Rattle.vq_model.specs.SureOrder.{HasSureOrder}
use Rattle.vq_model.specs.SlowRun.{is_ready, payload_after, slow_order}
use Rattle.vq_model.specs.Sure.{IsSure, finished_first, waited_for, passed_on}
use Rattle.vq_model.specs.SureOrder.{KeepsRising, RisesFrom}
use Rattle.vq_model.specs.WellFormed.{IsWellFormed}
use Rattle.vq_ground.proofs.Gets.{all_pass_at}
use Rattle.vq_ground.proofs.Lists.{has_cases, has-append_cases}
use Rattle.vq_ground.proofs.Positions.{place}
use Rattle.vq_ground.proofs.Searches.{Finds, find_splits}
use Rattle.vq_order_laws.proofs.EdgeReasons.{edge_of, lane_first, host_first, idle_first}
use Rattle.vq_order_laws.proofs.RisingChains.{rising_at}
use Rattle.vq_order_laws.proofs.SlowFronts.{finished_earlier, signaled_earlier}

-- where a job stands in the slow run
abbrev pub stands : Plan → ℕ → ℕ
stands p j = place (slow_order p) j

-- what is sure for a job is signaled by one that stands earlier
pub sure_stands : (p : Plan) (e i j : ℕ) → job_of p e ≡ Some i → IsSure p e j → stands p i < stands p j
sure_stands p e i j at (finished_first f) =
    let same = same_Some f.job i (sym f.of_job ∙ at) in
    let l = ltb-true (stands p f.job) (stands p j) f.earlier in
    let q = ap (stands p) same in
    omega arith
sure_stands p e i j at (waited_for f) =
    let same = same_Some f.job i (sym f.of_job ∙ at) in
    let l = ltb-true (stands p f.job) (stands p j) f.earlier in
    let q = ap (stands p) same in
    omega arith
sure_stands p e i j at (passed_on {i = q} s h) =
    let r = sure_stands p e i q at s in
    let l = ltb-true (stands p q) (stands p j) h.earlier in
    omega arith

-- along a chain that rises in a sure order jobs stand later and later
rising_stands : (p : Plan) (r : ℕ) (es : List ℕ) (g i j : ℕ) → KeepsRising p r es →
    has es g ≡ true → job_of p r ≡ Some i → job_of p g ≡ Some j → stands p i < stands p j
rising_stands p r [] g i j k m ri gj = absurd (false≢true m)
rising_stands p r (f ∷ es) g i j k m ri gj =
    let s = sure_stands p r i k.1.0 ri k.1.2 in
    elim (has_cases f es g m) [
      | inl q ↦
          (let same = same_Some k.1.0 j (sym k.1.1 ∙ (ap (job_of p) q ∙ gj)) in
          let z = ap (stands p) same in
          omega arith)
      | inr n ↦
          (let l = rising_stands p f es g k.1.0 j k.2 n k.1.1 gj in omega arith)
    ]

module _ (p : Plan) (w : IsWellFormed p) (o : HasSureOrder p) where
  -- a job that waits for a need is one
  pub waiter_exists : (j place : ℕ) (n : Need) → slice_get (needs p j) place ≡ Some n →
      j < length p.jobs
  waiter_exists j place n at = elim (cases_lt j (length p.jobs)) [
    | inl l ↦ l
    | inr past ↦
        (let none : None ≡ Some n =
        sym (ap (λ (x : Option _). slice_get (option_map_or (λ y. y.needs) x []) place)
        (slice_get_past p.jobs j past)) ∙ at in
        cc)
  ]

  -- a ready job's need is reached
  pub ready_reached : (j place : ℕ) (n : Need) → waits_for_any p j ≡ false →
      slice_get (needs p j) place ≡ Some n → (done : List ℕ) → is_ready p done j ≡ true →
      n.value ≤ payload_after p done n.chain
  ready_reached j place n any at done ready =
      let both = and_parts (not (has done j) && can_start p (has done) (payload_after p done) j)
      (are_reached p (payload_after p done) j AtEnd) ready in
      let all = sym (cond-false (waits_for_any p j)
      (list_any (is_reached (payload_after p done)) (needs p j))
      (list_all (is_reached (payload_after p done)) (needs p j)) any) ∙ both.1 in
      leb-true n.value (payload_after p done n.chain)
      (all_pass_at (is_reached (payload_after p done)) (needs p j) place n all at)

  pub need_agrees : (i j : ℕ) (n : Need) (place e : ℕ) → waits_for_any p j ≡ false →
      slice_get (needs p j) place ≡ Some n → initial p n.chain < n.value →
      resolver p n.chain n.value ≡ Some e → job_of p e ≡ Some i → comes_earlier p i j ≡ true
  need_agrees i j n place e any at above resolves of_job =
      let g = signaled_earlier p n.chain o.reachable j n.value (waiter_exists j place n at) above
      (ready_reached j place n any at) in
      let f = find_splits (λ x. leb n.value (value p x)) (chain p n.chain) e resolves in
      lt-ltb (stands p i) (stands p j) (by_place g.0 g.1 g.3 g.4 g.5 f (in_back g.0 g.2 g.3 f))
    where
      -- the operation that reached the need isn't in front of the resolver
      in_back : (g : ℕ) → has (chain p n.chain) g ≡ true → n.value ≤ value p g →
          (f : Finds (λ x. leb n.value (value p x)) (chain p n.chain) e) →
          has (e ∷ f.back) g ≡ true
      in_back g m v f =
          elim (has-append_cases f.front (e ∷ f.back) g
          (subst (λ (xs : List ℕ). has xs g ≡ true) f.whole m)) as (λ x. has (e ∷ f.back) g ≡ true) [
            | inl front ↦ absurd (false≢true (sym (f.fail g front) ∙ le-leb n.value (value p g) v))
            | inr back ↦ back
          ]

      rises : (f : Finds (λ x. leb n.value (value p x)) (chain p n.chain) e) → KeepsRising p e f.back
      rises f =
          rising_at p (initial p n.chain) f.front f.back e
          (subst (RisesFrom p (initial p n.chain)) f.whole (o.chains n.chain))

      by_place : (g k : ℕ) → n.value ≤ value p g → job_of p g ≡ Some k → stands p k < stands p j →
          (f : Finds (λ x. leb n.value (value p x)) (chain p n.chain) e) →
          has (e ∷ f.back) g ≡ true → stands p i < stands p j
      by_place g k v gk l f m = elim (has_cases e f.back g m) [
        | inl q ↦
            (let same = same_Some i k (sym of_job ∙ (ap (job_of p) q ∙ gk)) in
            let z = ap (stands p) same in
            omega arith)
        | inr b ↦
            (let r = rising_stands p e f.back g i k (rises f) b of_job gk in omega arith)
      ]

  by_reason : (i j : ℕ) → j < length p.jobs → EdgeAt p i j AtEnd → comes_earlier p i j ≡ true
  by_reason i j l (by_lane e) = finished_earlier p o.reachable i j l (lane_first p i j e)
  by_reason i j l (by_host e) = finished_earlier p o.reachable i j l (host_first p i j e)
  by_reason i j l (by_idle m) = finished_earlier p o.reachable i j l (idle_first p i j m)
  by_reason i j l (by_need n place e any at back above resolves of_job) =
      need_agrees i j n place e any at above resolves of_job

  pub edges_agree : (i j : ℕ) → j < length p.jobs → has (edges_to p j) i ≡ true →
      comes_earlier p i j ≡ true
  edges_agree i j l h = by_reason i j l (edge_of p i j AtEnd h)
