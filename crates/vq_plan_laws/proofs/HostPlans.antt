-- The plan of a valid script keeps the order of the host's steps.
use Rattle.std.proofs.Common.{◌≡◌, ℕ, false, [], refl, sym, ◌+◌, ◌<◌, ◌≤◌, Bool, true, ◌++◌, length, take, Option, Some, None, ap, ◌∙◌, ◌⊎◌, inl, inr, subst, arith, ◌==◌}
use Rattle.std.proofs.lemmas.Bool.{false≢true, eqb-true, cases_lt}
use Rattle.std.proofs.lemmas.Option.{same_Some}
use Rattle.vq_model.specs.declared.script.HostStep.{HostStep}
use Rattle.vq_model.specs.Plan.{is_silent, previous, host_before, idle_after, question, same_lane, signals_of, is_host_step, is_host_lane}
use Rattle.vq_ground.specs.Lists.{has}
use Rattle.vq_model.specs.Lowering.{step_question, last_before, lane_of, plan_job, plan_of, job_ops}
use Rattle.vq_model.specs.Signals.{step_signals, job_signals, all_signals}
use Rattle.vq_model.specs.declared.script.HostStep.TheVariants.{Signal}
use Rattle.std.specs.List.{slice_get, range_with_len}
use Rattle.std.specs.Option.{option_map_or, option_to_list}
use Rattle.vq_model.specs.declared.script.Script.{Script}
use Rattle.vq_model.specs.declared.script.Job.{Job}
use Rattle.vq_model.specs.declared.script.Job.TheVariants.{Host, Batch}
use Rattle.vq_model.specs.declared.script.HostLine.{HostLine}
use Rattle.vq_model.specs.declared.plan.Lane.TheVariants.{Host as HostLane}
use Rattle.vq_model.specs.declared.plan.Question.TheVariants.{Silent}
use Rattle.vq_model.specs.Edges.{must_finish}
use Rattle.vq_model.specs.WellFormed.{KeepsHostOrder}
use Rattle.vq_model.specs.ValidScripts.{IsValid}
use Rattle.vq_ground.proofs.Lists.{has-append_left, has_here}
use Rattle.vq_plan_laws.proofs.PlanParts.{part_is, signals_is}
use Rattle.vq_plan_laws.proofs.Owners.{owner}
use Rattle.vq_plan_laws.proofs.LastBefore.{IsLast, HasNone, last_cases}
use Rattle.vq_ground.proofs.Gets.{get-take, get-take_within}
use Rattle.vq_plan_laws.proofs.WellFormedPlans.{passes}
use Rattle.vq_ground.proofs.Filters.{filter_empty}

silent_steps : (a line : ℕ) (t : HostStep) → is_silent (step_question t) ≡ false → step_signals a line t ≡ []
silent_steps a line (Signal pair) q = absurd (false≢true (sym q))
silent_steps a line t q = refl

module _ (s : Script) (v : IsValid s) where
  abbrev is_host_job : Job → Bool
  is_host_job job = same_lane HostLane (lane_of job)

  -- the job of a host step
  record IsHostAt (j : ℕ) : Type 0 where
    line : HostLine
    is : slice_get s.jobs j ≡ Some (Host line)

  host_at : (j : ℕ) → is_host_step (plan_of s) j ≡ true → IsHostAt j
  host_at j h = by_job (slice_get s.jobs j) refl (sym (part_is (λ x. is_host_lane x.lane) false s j) ∙ h)
    where
      by_job : (o : Option Job) → slice_get s.jobs j ≡ o → option_map_or (λ job. is_host_lane (plan_job s (j, job)).lane) o false ≡ true → IsHostAt j
      by_job None e g = absurd (false≢true g)
      by_job (Some (Host x)) e g = record { line = x; is = e }
      by_job (Some (Batch b)) e g = absurd (false≢true g)

  from_host : (j : ℕ) (x : HostLine) → slice_get s.jobs j ≡ Some (Host x) → is_host_step (plan_of s) j ≡ true
  from_host j x e = part_is (λ y. is_host_lane y.lane) false s j ∙ ap (λ o. option_map_or (λ job. is_host_lane (plan_job s (j, job)).lane) o false) e

  host_line : (job : Job) → is_host_job job ≡ true → (x : HostLine) × (job ≡ Host x)
  host_line (Host x) h = (x, refl)
  host_line (Batch c) h = absurd (false≢true h)

  asks : (j : ℕ) → is_silent (question (plan_of s) j) ≡ false → (is_host_step (plan_of s) j ≡ true) × (signals_of (plan_of s) j ≡ [])
  asks j q = by_job (slice_get s.jobs j) refl (sym (ap is_silent (part_is (λ x. x.question) Silent s j)) ∙ q)
    where
      none : (x : HostLine) → slice_get s.jobs j ≡ Some (Host x) → is_silent (step_question x.step) ≡ false → signals_of (plan_of s) j ≡ []
      none x e g = signals_is s j ∙ (ap (λ y. option_map_or (λ job. job_ops s j) y []) e ∙ filter_empty (λ f. option_map_or (λ y. y.job == j) (slice_get (all_signals s) f) false) (range_with_len 0 (length (all_signals s))) (λ f m. never f (option_map_or (λ y. y.job == j) (slice_get (all_signals s) f) false) refl))
        where
          never : (f : ℕ) (b : Bool) → option_map_or (λ y. y.job == j) (slice_get (all_signals s) f) false ≡ b → option_map_or (λ y. y.job == j) (slice_get (all_signals s) f) false ≡ false
          never f false h = h
          never f true h =
              let y = passes s v (λ z. z.job == j) (slice_get (all_signals s) f) h in
              let o = owner 0 s.jobs f y.0 y.1 in
              let n = o.number in
              let i = eqb-true y.0.job j y.2 in
              let here : o.place ≡ j = omega arith in
              let same : o.job ≡ Host x = let c : Some o.job ≡ Some (Host x) = sym o.is ∙ (ap (slice_get s.jobs) here ∙ e) in cc in
              let empty : slice_get (job_signals (0 + o.place, Host x)) o.line ≡ None = ap (λ zs. slice_get zs o.line) (silent_steps (0 + o.place) x.line x.step g) in
              absurd (let c : None ≡ Some y.0 = sym empty ∙ (ap (λ z. slice_get (job_signals (0 + o.place, z)) o.line) (sym same) ∙ o.among) in cc)

      by_job : (o : Option Job) → slice_get s.jobs j ≡ o → is_silent (option_map_or (λ job. (plan_job s (j, job)).question) o Silent) ≡ false → (is_host_step (plan_of s) j ≡ true) × (signals_of (plan_of s) j ≡ [])
      by_job None e g = absurd (false≢true (sym g))
      by_job (Some (Host x)) e g = (from_host j x e, none x e g)
      by_job (Some (Batch b)) e g = absurd (false≢true (sym g))

  lane : (i j : ℕ) → i < j → is_host_step (plan_of s) i ≡ true → is_host_step (plan_of s) j ≡ true → (q : ℕ) × (i ≤ q) × (q < j) × (is_host_step (plan_of s) q ≡ true) × (has (must_finish (plan_of s) j) q ≡ true)
  lane i j l hi hj = by_last (last_cases 0 is_host_job (take j s.jobs) None)
    where
      a : IsHostAt i
      a = host_at i hi

      b : IsHostAt j
      b = host_at j hj

      in_front : slice_get (take j s.jobs) i ≡ Some (Host a.line)
      in_front = get-take j s.jobs i l ∙ a.is

      by_last : HasNone 0 is_host_job (take j s.jobs) None ⊎ IsLast 0 is_host_job (take j s.jobs) None → (q : ℕ) × (i ≤ q) × (q < j) × (is_host_step (plan_of s) q ≡ true) × (has (must_finish (plan_of s) j) q ≡ true)
      by_last (inl r) = absurd (false≢true (sym (r.none i (Host a.line) in_front)))
      by_last (inr r) =
          let below = get-take_within j s.jobs r.place r.job r.is in
          let x = host_line r.job r.passes in
          let at : slice_get s.jobs r.place ≡ Some (Host x.0) = sym (get-take j s.jobs r.place below) ∙ (r.is ∙ ap Some x.1) in
          let z : 0 + r.place ≡ r.place = omega arith in
          let prev : previous (plan_of s) j ≡ Some r.place =
          part_is (λ y. y.previous) None s j ∙ (ap (λ o. option_map_or (λ job. (plan_job s (j, job)).previous) o None) b.is ∙ (r.is_found ∙ ap Some z)) in (
            r.place,
            not_after r,
            below,
            from_host r.place x.0 at,
            has-append_left (option_to_list (previous (plan_of s) j) ++ option_to_list (host_before (plan_of s) j)) (idle_after (plan_of s) j) r.place
                (has-append_left (option_to_list (previous (plan_of s) j)) (option_to_list (host_before (plan_of s) j)) r.place
                (ap (λ o. has (option_to_list o) r.place) prev ∙ has_here r.place [])),
          )
        where
          not_after : IsLast 0 is_host_job (take j s.jobs) None → i ≤ r.place
          not_after t = elim (cases_lt r.place i) [ inl m ↦ absurd (false≢true (sym (r.none_after i (Host a.line) m in_front))) | inr m ↦ m ]

  before_batch : (i j : ℕ) → host_before (plan_of s) j ≡ Some i → (i < j) × (is_host_step (plan_of s) i ≡ true) × (is_host_step (plan_of s) j ≡ false)
  before_batch i j h = by_job (slice_get s.jobs j) refl (sym (part_is (λ x. x.host_before) None s j) ∙ h)
    where
      in_front : IsLast 0 is_host_job (take j s.jobs) None → last_before s j is_host_job ≡ Some i → (i < j) × (is_host_step (plan_of s) i ≡ true)
      in_front r e =
          let below = get-take_within j s.jobs r.place r.job r.is in
          let x = host_line r.job r.passes in
          let at : slice_get s.jobs r.place ≡ Some (Host x.0) = sym (get-take j s.jobs r.place below) ∙ (r.is ∙ ap Some x.1) in
          let z : 0 + r.place ≡ r.place = omega arith in
          let same : r.place ≡ i = same_Some r.place i (sym (r.is_found ∙ ap Some z) ∙ e) in
          (subst (λ k. k < j) same below, subst (λ k. is_host_step (plan_of s) k ≡ true) same (from_host r.place x.0 at))

      by_job : (o : Option Job) → slice_get s.jobs j ≡ o → option_map_or (λ job. (plan_job s (j, job)).host_before) o None ≡ Some i → (i < j) × (is_host_step (plan_of s) i ≡ true) × (is_host_step (plan_of s) j ≡ false)
      by_job None e g = cc
      by_job (Some (Host x)) e g = cc
      by_job (Some (Batch b)) e g =
          let batch : is_host_step (plan_of s) j ≡ false = part_is (λ y. is_host_lane y.lane) false s j ∙ ap (λ o. option_map_or (λ job. is_host_lane (plan_job s (j, job)).lane) o false) e in
          elim (last_cases 0 is_host_job (take j s.jobs) None) [
            | inl r ↦ absurd (none_some_nat (sym r.same ∙ g))
            | inr r ↦ let f = in_front r g in (f.0, f.1, batch)
          ]
        where
          none_some_nat : None ≡ Some i → ⊥
          none_some_nat q = cc

  pub host_order : KeepsHostOrder (plan_of s)
  host_order = record { asks = asks; before_batch = before_batch; lane = lane }
