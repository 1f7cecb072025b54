-- What is sure for a host step is sure for each later host step, and for each batch that is written
-- after it.
use Rattle.std.proofs.Common.{◌≡◌, ◌≢◌, ℕ, zero, suc, ◌<◌, ◌≤◌, true, ◌⊎◌, [], length, inl, inr, sym, ap, ◌∙◌, subst, arith, ◌+◌, Bool, false, ◌++◌, take, Option, Some, None, refl}
use Rattle.std.specs.List.{slice_get}
use Rattle.std.proofs.lemmas.Bool.{cases_eq, false≢true, cases_lt}
use Rattle.vq_model.specs.Plan.{Plan, is_host_step, previous, host_before, idle_after, same_lane, is_host_lane}
use Rattle.vq_ground.specs.Lists.{has}
use Rattle.vq_model.specs.Edges.{AtEnd, must_finish}
use Rattle.vq_model.specs.SlowRun.{left_over}
use Rattle.vq_model.specs.HappensBefore.{IsHop}
use Rattle.vq_model.specs.Sure.{IsSure, passed_on}
use Rattle.vq_model.specs.WellFormed.{KeepsHostOrder}
use Rattle.vq_ground.proofs.Lists.{has_here, has-append_left, has-append_right}
use Rattle.vq_order_laws.proofs.SlowFronts.{finished_earlier}
use Rattle.vq_order_laws.proofs.EdgeReasons.{finish_edge}
use Rattle.std.specs.Option.{option_map_or, option_to_list}
use Rattle.vq_model.specs.declared.script.Script.{Script}
use Rattle.vq_model.specs.declared.script.HostLine.{HostLine}
use Rattle.vq_model.specs.declared.script.Batch.{Batch}
use Rattle.vq_model.specs.declared.script.Job.{Job}
use Rattle.vq_model.specs.declared.script.Job.TheVariants.{Host, Batch as BatchJob}
use Rattle.vq_model.specs.declared.plan.Lane.TheVariants.{Host as HostLane}
use Rattle.vq_model.specs.Lowering.{lane_of, plan_job, plan_of}
use Rattle.vq_model.specs.LoweredPlans.{IsPlan}
use Rattle.vq_plan_laws.proofs.Cited.{HasNone, IsLast, last_cases, part_is, count_jobs, plan_hosts}
use Rattle.vq_ground.proofs.Gets.{get-take, get-take_within, get_some, get_within}

module _ (p : Plan) (reach : left_over p ≡ []) where
  pub finished_hop : (i j : ℕ) → j < length p.jobs → has (must_finish p j) i ≡ true → IsHop p i j AtEnd
  finished_hop i j l m =
      record { edge = finish_edge p i j AtEnd m; earlier = finished_earlier p reach i j l m }

  -- what is sure for a host step is sure for each later one
  module _ (hosts : KeepsHostOrder p) (exists : (j : ℕ) → is_host_step p j ≡ true → j < length p.jobs)
      (e : ℕ) where
    sure_by : (n i h : ℕ) → h < n → i ≤ h → is_host_step p i ≡ true → is_host_step p h ≡ true →
        IsSure p e i → IsSure p e h
    sure_by zero i h l m a b s = absurd (omega arith)
    sure_by (suc n) i h l m a b s = by_case (cases_eq i h) (sure_by n i)
      where
        by_case : (i ≡ h) ⊎ (i ≢ h) →
            ((g : ℕ) → g < n → i ≤ g → is_host_step p i ≡ true → is_host_step p g ≡ true →
            IsSure p e i → IsSure p e g) → IsSure p e h
        by_case (inl q) later = subst (IsSure p e) q s
        by_case (inr d) later =
            let before : i < h = omega (arith, d) in
            let q = hosts.lane i h before a b in
            let below = q.2 in
            passed_on (later q.0 (omega arith) q.1 a q.3 s) (finished_hop q.0 h (exists h b) q.4)

    pub sure_for_later : (i h : ℕ) → i ≤ h → is_host_step p i ≡ true → is_host_step p h ≡ true →
        IsSure p e i → IsSure p e h
    sure_for_later i h m a b s = sure_by (suc h) i h (omega arith) m a b s

module _ (s : Script) where
  host_step : (j : ℕ) (x : HostLine) → slice_get s.jobs j ≡ Some (Host x) →
      is_host_step (plan_of s) j ≡ true
  host_step j x e =
      part_is (λ y. is_host_lane y.lane) false s j
      ∙ ap (λ (o : Option Job). option_map_or (λ job. is_host_lane (plan_job s (j, job)).lane) o false) e

  host_at : (j : ℕ) → is_host_step (plan_of s) j ≡ true →
      (x : HostLine) × (slice_get s.jobs j ≡ Some (Host x))
  host_at j h =
      by_job (slice_get s.jobs j) refl (sym (part_is (λ x. is_host_lane x.lane) false s j) ∙ h)
    where
      by_job : (o : Option Job) → slice_get s.jobs j ≡ o →
          option_map_or (λ job. is_host_lane (plan_job s (j, job)).lane) o false ≡ true →
          (x : HostLine) × (slice_get s.jobs j ≡ Some (Host x))
      by_job None e g = absurd (false≢true g)
      by_job (Some (Host x)) e g = (x, e)
      by_job (Some (BatchJob b)) e g = absurd (false≢true g)

  batch_at : (j : ℕ) → j < length (plan_of s).jobs → is_host_step (plan_of s) j ≡ false →
      (b : Batch) × (slice_get s.jobs j ≡ Some (BatchJob b))
  batch_at j l h =
      let c = count_jobs s in
      let x = get_some s.jobs j (omega arith) in
      by_job x.0 x.1
    where
      by_job : (job : Job) → slice_get s.jobs j ≡ Some job →
          (b : Batch) × (slice_get s.jobs j ≡ Some (BatchJob b))
      by_job (Host x) e = absurd (false≢true (sym h ∙ host_step j x e))
      by_job (BatchJob b) e = (b, e)

  step_exists : (j : ℕ) → is_host_step (plan_of s) j ≡ true → j < length (plan_of s).jobs
  step_exists j h =
      let x = host_at j h in
      let l = get_within s.jobs j (Host x.0) x.1 in
      let c = count_jobs s in
      omega arith

  abbrev is_host_job : Job → Bool
  is_host_job job = same_lane HostLane (lane_of job)

  -- the last host step before a batch is no earlier than any other one before it
  record HasLastStep (r j : ℕ) : Type 0 where
    step : ℕ
    at_or_later : r ≤ step
    is_host : is_host_step (plan_of s) step ≡ true
    is_last : host_before (plan_of s) j ≡ Some step

  last_step : (r j : ℕ) (x : HostLine) (b : Batch) → slice_get s.jobs r ≡ Some (Host x) →
      slice_get s.jobs j ≡ Some (BatchJob b) → r < j → HasLastStep r j
  last_step r j x b er ej l = by_last (last_cases 0 is_host_job (take j s.jobs) None)
    where
      in_front : slice_get (take j s.jobs) r ≡ Some (Host x)
      in_front = get-take j s.jobs r l ∙ er

      host_line : (job : Job) → is_host_job job ≡ true → (y : HostLine) × (job ≡ Host y)
      host_line (Host y) h = (y, refl)
      host_line (BatchJob c) h = absurd (false≢true h)

      by_last : HasNone 0 is_host_job (take j s.jobs) None
          ⊎ IsLast 0 is_host_job (take j s.jobs) None → HasLastStep r j
      by_last (inl n) = absurd (false≢true (sym (n.none r (Host x) in_front)))
      by_last (inr t) =
          let below = get-take_within j s.jobs t.place t.job t.is in
          let y = host_line t.job t.passes in
          let at : slice_get s.jobs t.place ≡ Some (Host y.0) =
          sym (get-take j s.jobs t.place below) ∙ (t.is ∙ ap Some y.1) in
          let z : 0 + t.place ≡ t.place = omega arith in
          let before : host_before (plan_of s) j ≡ Some t.place =
          part_is (λ q. q.host_before) None s j
          ∙ (ap (λ (o : Option Job). option_map_or (λ job. (plan_job s (j, job)).host_before) o None) ej
          ∙ (t.is_found ∙ ap Some z)) in
          record {
            step = t.place;
            at_or_later = not_after;
            is_host = host_step t.place y.0 at;
            is_last = before;
          }
        where
          not_after : r ≤ t.place
          not_after = elim (cases_lt t.place r) [
            | inl m ↦ absurd (false≢true (sym (t.none_after r (Host x) m in_front)))
            | inr m ↦ m
          ]

  -- a batch waits for the last host step before it
  last_finished : (i j : ℕ) → host_before (plan_of s) j ≡ Some i →
      has (must_finish (plan_of s) j) i ≡ true
  last_finished i j e =
      has-append_left
      (option_to_list (previous (plan_of s) j) ++ option_to_list (host_before (plan_of s) j))
      (idle_after (plan_of s) j) i
      (has-append_right (option_to_list (previous (plan_of s) j))
      (option_to_list (host_before (plan_of s) j)) i
      (ap (λ (o : Option ℕ). has (option_to_list o) i) e ∙ has_here i []))

  module _ (reach : left_over (plan_of s) ≡ []) (hosts : KeepsHostOrder (plan_of s)) where
    -- What is sure for a host step is sure for the last one before a batch.
    last_sure : (e r j : ℕ) (x : HostLine) (b : Batch) → slice_get s.jobs r ≡ Some (Host x) →
        slice_get s.jobs j ≡ Some (BatchJob b) → r < j → IsSure (plan_of s) e r →
        (h : ℕ) × (host_before (plan_of s) j ≡ Some h) × IsSure (plan_of s) e h
    last_sure e r j x b er ej l sure =
        let h = last_step r j x b er ej l in (
          h.step,
          h.is_last,
          sure_for_later (plan_of s) reach hosts step_exists e r h.step h.at_or_later
              (host_step r x er) h.is_host sure,
        )

    -- What is sure for a host step is sure for each batch that is written after it.
    pub sure_for_batch : (e r j : ℕ) (x : HostLine) (b : Batch) →
        slice_get s.jobs r ≡ Some (Host x) → slice_get s.jobs j ≡ Some (BatchJob b) → r < j →
        IsSure (plan_of s) e r → IsSure (plan_of s) e j
    sure_for_batch e r j x b er ej l sure =
        let h = last_sure e r j x b er ej l sure in
        let w = get_within s.jobs j (BatchJob b) ej in
        let c = count_jobs s in
        passed_on h.2
        (finished_hop (plan_of s) reach h.0 j (omega arith) (last_finished h.0 j h.1))

-- What is sure for a host step is sure for the last one before each batch that is written after it.
pub sure_for_last : (p : Plan) → IsPlan p → left_over p ≡ [] → (e r j : ℕ) → j < length p.jobs →
    is_host_step p j ≡ false → r < j → is_host_step p r ≡ true → IsSure p e r →
    (h : ℕ) × (host_before p j ≡ Some h) × IsSure p e h
sure_for_last p i reach e r j =
    subst
    (λ (q : Plan). left_over q ≡ [] → KeepsHostOrder q → j < length q.jobs →
    is_host_step q j ≡ false → r < j → is_host_step q r ≡ true → IsSure q e r →
    (h : ℕ) × (host_before q j ≡ Some h) × IsSure q e h)
    (sym i.lowered) by_lines reach (plan_hosts p i)
  where
    s : Script
    s = p.script

    by_lines : left_over (plan_of s) ≡ [] → KeepsHostOrder (plan_of s) →
        j < length (plan_of s).jobs → is_host_step (plan_of s) j ≡ false → r < j →
        is_host_step (plan_of s) r ≡ true → IsSure (plan_of s) e r →
        (h : ℕ) × (host_before (plan_of s) j ≡ Some h) × IsSure (plan_of s) e h
    by_lines reach hosts l b m h sure =
        let x = host_at s r h in
        let y = batch_at s j l b in
        last_sure s reach hosts e r j x.0 y.0 x.1 y.1 m sure

-- A batch that is written after a host step waits for the last one before it, which is no earlier.
pub host_is_last : (p : Plan) → IsPlan p → (r j : ℕ) → j < length p.jobs → is_host_step p j ≡ false → r < j →
    is_host_step p r ≡ true → (h : ℕ) × (r ≤ h) × (is_host_step p h ≡ true) × (host_before p j ≡ Some h)
host_is_last p i r j =
    subst
    (λ (q : Plan). j < length q.jobs → is_host_step q j ≡ false → r < j → is_host_step q r ≡ true →
    (h : ℕ) × (r ≤ h) × (is_host_step q h ≡ true) × (host_before q j ≡ Some h))
    (sym i.lowered) by_lines
  where
    s : Script
    s = p.script

    by_lines : j < length (plan_of s).jobs → is_host_step (plan_of s) j ≡ false → r < j →
        is_host_step (plan_of s) r ≡ true →
        (h : ℕ) × (r ≤ h) × (is_host_step (plan_of s) h ≡ true) × (host_before (plan_of s) j ≡ Some h)
    by_lines l b m h =
        let x = host_at s r h in
        let y = batch_at s j l b in
        let z = last_step s r j x.0 y.0 x.1 y.1 m in
        (z.step, z.at_or_later, z.is_host, z.is_last)
