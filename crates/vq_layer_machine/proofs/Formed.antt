-- The plan of a script of any length is well formed, where its signals name what exists and its commands fit.
use Rattle.std.proofs.Common.{◌≡◌, ◌⊎◌, ℕ, ◌+◌, ◌<◌, Bool, true, false, eqb, List, [], ◌∷◌, ◌++◌, length, map, take, Option, Some, None, option_map, inl, inr, refl, sym, ap, ◌∙◌, subst, arith, ◌-◌, ◌==◌}
use Rattle.std.specs.List.{slice_get, list_all, range_with_len}
use Rattle.std.specs.Option.{option_map_or, option_to_list}
use Rattle.std.proofs.lemmas.Bool.{eqb-true, eq-eqb, false≢true, cases_lt}
use Rattle.std.proofs.lemmas.Option.{same_Some}
use Rattle.vq_model.specs.declared.script.Script.{Script}
use Rattle.vq_model.specs.declared.script.Batch.{Batch as BatchOf}
use Rattle.vq_model.specs.declared.script.Command.{Command}
use Rattle.vq_model.specs.declared.script.CommandLine.{CommandLine}
use Rattle.vq_model.specs.declared.script.Job.{Job}
use Rattle.vq_model.specs.declared.script.Job.TheVariants.{Host, Batch}
use Rattle.vq_model.specs.declared.script.HostStep.{HostStep}
use Rattle.vq_model.specs.declared.script.HostStep.TheVariants.{WaitAll, WaitAny, Idle}
use Rattle.vq_model.specs.declared.script.Pair.{Pair}
use Rattle.vq_model.specs.declared.plan.Lane.TheVariants.{Host as HostLane, Queue as QueueLane}
use Rattle.vq_model.specs.Plan.{previous, host_before, idle_after, same_lane, command_at, commands_of, signals_of, chain, chain_of, job_of, waits_for_any, needs, is_host_step, is_host_lane}
use Rattle.vq_model.specs.Edges.{must_finish}
use Rattle.vq_model.specs.EdgeReasons.{waits_at_start}
use Rattle.vq_model.specs.FittingCommands.{Fits}
use Rattle.vq_model.specs.Lowering.{last_before, lane_of, step_needs, step_idle, asks_any, of_pair, plan_job, plan_of, job_ops}
use Rattle.vq_model.specs.Signals.{Signaling, all_signals, signals_semaphore}
use Rattle.vq_model.specs.ValidScripts.{sizes_of}
use Rattle.vq_model.specs.WellFormed.{IsWellFormed}
use Rattle.vq_ground.specs.Lists.{has, AreRising}
use Rattle.vq_ground.proofs.Filters.{filter-has_cases, filter-has, rising_filter}
use Rattle.vq_ground.proofs.Gets.{get_some, get_within, get-take_within}
use Rattle.vq_ground.proofs.Lists.{has-append_cases, in_option}
use Rattle.vq_ground.proofs.Mapped.{mapped}
use Rattle.vq_ground.proofs.Numbers.{range-has, rising_range}
use Rattle.vq_ground.proofs.Options.{some_of}
use Rattle.vq_plan_laws.proofs.Cited.{part_is, op_job_is, op_chain_is, chain_is, owner, stands_at, last_cases, IsLast, HasNone}
use Rattle.vq_layer_machine.proofs.Chains.{has_chain, chain_past, chain_in_order}
use Rattle.vq_layer_machine.proofs.Counting.{has_one_job}

-- signals name semaphores that exist, and commands fit the buffers
abbrev pub NamesAll : Script → Type 0
NamesAll s = (e : ℕ) (x : Signaling) → slice_get (all_signals s) e ≡ Some x → x.semaphore < length s.semaphores

abbrev pub FitsAll : Script → Type 0
FitsAll s = (j k : ℕ) (b : BatchOf) (x : CommandLine) → slice_get s.jobs j ≡ Some (Batch b) → slice_get b.commands k ≡ Some x → Fits (sizes_of s) x.command

module _ (s : Script) where
  signals_is : (j : ℕ) → signals_of (plan_of s) j ≡ option_map_or (λ job. job_ops s j) (slice_get s.jobs j) []
  signals_is j = part_is (λ x. x.signals) [] s j ∙ by_job (slice_get s.jobs j)
    where
      by_job : (o : Option Job) → option_map_or (λ job. (plan_job s (j, job)).signals) o [] ≡ option_map_or (λ job. job_ops s j) o []
      by_job None = refl
      by_job (Some (Host h)) = refl
      by_job (Some (Batch b)) = refl

  passes : (f : Signaling → Bool) (o : Option Signaling) → option_map_or f o false ≡ true → (x : Signaling) × (o ≡ Some x) × (f x ≡ true)
  passes f None h = absurd (false≢true h)
  passes f (Some x) h = (x, refl, h)

  in_job : (e j : ℕ) → job_of (plan_of s) e ≡ Some j → has (signals_of (plan_of s) j) e ≡ true
  in_job e j c =
      let x = some_of (λ x. x.job) (slice_get (all_signals s) e) j (sym (op_job_is s e) ∙ c) in
      let o = owner 0 s.jobs e x.0 x.1 in
      let n = o.number in
      let here : slice_get s.jobs j ≡ Some o.job = ap (slice_get s.jobs) (let q : j ≡ o.place = omega (arith, x.2) in q) ∙ o.is in
      ap (λ es. has es e) (signals_is j ∙ ap (λ y. option_map_or (λ job. job_ops s j) y []) here)
      ∙ filter-has (λ f. option_map_or (λ y. y.job == j) (slice_get (all_signals s) f) false) (range_with_len 0 (length (all_signals s))) e
      (range-has (length (all_signals s)) 0 e (omega arith) (let w = get_within (all_signals s) e x.0 x.1 in omega arith))
      (ap (λ y. option_map_or (λ z. z.job == j) y false) x.1 ∙ eq-eqb x.0.job j x.2)

  of_job : (e j : ℕ) → has (signals_of (plan_of s) j) e ≡ true → job_of (plan_of s) e ≡ Some j
  of_job e j h = by_job (slice_get s.jobs j) refl
    where
      own : (o : Option Job) → slice_get s.jobs j ≡ o → has (option_map_or (λ job. job_ops s j) o []) e ≡ true
      own o i = sym (ap (λ es. has es e) (signals_is j ∙ ap (λ y. option_map_or (λ job. job_ops s j) y []) i)) ∙ h

      by_job : (o : Option Job) → slice_get s.jobs j ≡ o → job_of (plan_of s) e ≡ Some j
      by_job None i = absurd (false≢true (own None i))
      by_job (Some job) i =
          let m = filter-has_cases (λ f. option_map_or (λ y. y.job == j) (slice_get (all_signals s) f) false) (range_with_len 0 (length (all_signals s))) e (own (Some job) i) in
          let x = passes (λ y. y.job == j) (slice_get (all_signals s) e) m.1 in
          op_job_is s e ∙ ap (option_map (λ y. y.job)) x.1 ∙ ap Some (eqb-true x.0.job j x.2)

  signals_rise : (j : ℕ) → AreRising (signals_of (plan_of s) j)
  signals_rise j = subst AreRising (sym (signals_is j)) (by_job (slice_get s.jobs j))
    where
      by_job : (o : Option Job) → AreRising (option_map_or (λ job. job_ops s j) o [])
      by_job None = tt
      by_job (Some job) = rising_filter (λ f. option_map_or (λ y. y.job == j) (slice_get (all_signals s) f) false) (range_with_len 0 (length (all_signals s))) (rising_range (length (all_signals s)) 0)

  in_chain : NamesAll s → (e t : ℕ) → chain_of (plan_of s) e ≡ Some t → has (chain (plan_of s) t) e ≡ true
  in_chain named e t c =
      let x = some_of (λ x. x.semaphore) (slice_get (all_signals s) e) t (sym (op_chain_is s e) ∙ c) in
      let l = named e x.0 x.1 in
      let same = x.2 in
      ap (λ es. has es e) (chain_is s t (omega arith))
      ∙ has_chain s t e
      ∙ filter-has (λ f. option_map_or (signals_semaphore t) (slice_get (all_signals s) f) false) (range_with_len 0 (length (all_signals s))) e
      (range-has (length (all_signals s)) 0 e (omega arith) (let w = get_within (all_signals s) e x.0 x.1 in omega arith))
      (ap (λ y. option_map_or (signals_semaphore t) y false) x.1 ∙ eq-eqb x.0.semaphore t x.2)

  of_chain : (e t : ℕ) → has (chain (plan_of s) t) e ≡ true → chain_of (plan_of s) e ≡ Some t
  of_chain e t h =
      elim (cases_lt t (length s.semaphores)) [
        | inr l ↦ absurd (false≢true (sym (ap (λ es. has es e) (chain_past s t l)) ∙ h))
        | inl l ↦
            let m = filter-has_cases (λ f. option_map_or (signals_semaphore t) (slice_get (all_signals s) f) false) (range_with_len 0 (length (all_signals s))) e (sym (has_chain s t e) ∙ sym (ap (λ es. has es e) (chain_is s t l)) ∙ h) in
            let x = passes (signals_semaphore t) (slice_get (all_signals s) e) m.1 in
            op_chain_is s e ∙ ap (option_map (λ y. y.semaphore)) x.1 ∙ ap Some (eqb-true x.0.semaphore t x.2)
      ]

  commands_rise : (j : ℕ) → AreRising (commands_of (plan_of s) j)
  commands_rise j = subst AreRising (sym (part_is (λ x. x.commands) [] s j)) (by_job (slice_get s.jobs j))
    where
      by_job : (o : Option Job) → AreRising (option_map_or (λ job. (plan_job s (j, job)).commands) o [])
      by_job None = tt
      by_job (Some (Host h)) = tt
      by_job (Some (Batch b)) = rising_range (length b.commands) _

  fits : FitsAll s → (c j : ℕ) → has (commands_of (plan_of s) j) c ≡ true → (x : Command) × (command_at (plan_of s) c ≡ Some x) × Fits (plan_of s).sizes x
  fits all c j h =
      let a = stands_at s j c h in
      let from = a.from in
      let upto = a.upto in
      let x = get_some a.batch.commands (c - a.first) (omega arith) in
      (x.0.command, ap (option_map (λ y. y.command)) (a.same ∙ x.1), all j (c - a.first) a.batch x.0 a.is x.1)

  waits_for_all : (j : ℕ) → is_host_step (plan_of s) j ≡ false → waits_for_any (plan_of s) j ≡ false
  waits_for_all j h = part_is (λ x. x.any) false s j ∙ by_job (slice_get s.jobs j) (sym (part_is (λ x. is_host_lane x.lane) false s j) ∙ h)
    where
      by_job : (o : Option Job) → option_map_or (λ job. is_host_lane (plan_job s (j, job)).lane) o false ≡ false → option_map_or (λ job. (plan_job s (j, job)).any) o false ≡ false
      by_job None g = refl
      by_job (Some (Host x)) g = absurd (false≢true (sym g))
      by_job (Some (Batch b)) g = refl

  host_waits : (j : ℕ) → is_host_step (plan_of s) j ≡ true → waits_at_start (plan_of s) j ≡ true
  host_waits j h =
      ap (list_all (λ n. eqb n.from 1)) (part_is (λ x. x.needs) [] s j) ∙ by_job (slice_get s.jobs j) (sym (part_is (λ x. is_host_lane x.lane) false s j) ∙ h)
    where
      of_pairs : (line : ℕ) (pairs : List Pair) → list_all (λ n. eqb n.from 1) (map (of_pair line) pairs) ≡ true
      of_pairs line [] = refl
      of_pairs line (x ∷ pairs) = of_pairs line pairs

      of_step : (line : ℕ) (step : HostStep) → list_all (λ n. eqb n.from 1) (step_needs s j line step) ≡ true
      of_step line (WaitAll pairs) = of_pairs line pairs
      of_step line (WaitAny pairs) = of_pairs line pairs
      of_step line other = refl

      by_job : (o : Option Job) → option_map_or (λ job. is_host_lane (plan_job s (j, job)).lane) o false ≡ true → list_all (λ n. eqb n.from 1) (option_map_or (λ job. (plan_job s (j, job)).needs) o []) ≡ true
      by_job None g = refl
      by_job (Some (Host x)) g = of_step x.line x.step
      by_job (Some (Batch b)) g = absurd (false≢true g)

  any_needs : (j : ℕ) → waits_for_any (plan_of s) j ≡ true → 0 < length (needs (plan_of s) j)
  any_needs j h =
      let l = by_job (slice_get s.jobs j) (sym (part_is (λ x. x.any) false s j) ∙ h) in
      let e = ap length (part_is (λ x. x.needs) [] s j) in
      omega arith
    where
      of_step : (line : ℕ) (step : HostStep) → asks_any step ≡ true → 0 < length (step_needs s j line step)
      of_step line (WaitAny []) g = absurd (false≢true g)
      of_step line (WaitAny (x ∷ pairs)) g = omega arith
      of_step line other g = absurd (false≢true g)

      by_job : (o : Option Job) → option_map_or (λ job. (plan_job s (j, job)).any) o false ≡ true → 0 < length (option_map_or (λ job. (plan_job s (j, job)).needs) o [])
      by_job None g = absurd (false≢true g)
      by_job (Some (Host x)) g = of_step x.line x.step g
      by_job (Some (Batch b)) g = absurd (false≢true g)

  last_below : (j : ℕ) (test : Job → Bool) (i : ℕ) → last_before s j test ≡ Some i → i < j
  last_below j test i h = by_last (last_cases 0 test (take j s.jobs) None)
    where
      by_last : HasNone 0 test (take j s.jobs) None ⊎ IsLast 0 test (take j s.jobs) None → i < j
      by_last (inl r) = absurd (let c : None ≡ Some i = sym r.same ∙ h in cc)
      by_last (inr r) =
          let z : 0 + r.place ≡ r.place = omega arith in
          subst (λ (k : ℕ). k < j) (same_Some r.place i (sym (r.is_found ∙ ap Some z) ∙ h)) (get-take_within j s.jobs r.place r.job r.is)

  finished_first : (i j : ℕ) → has (must_finish (plan_of s) j) i ≡ true → i < j
  finished_first i j m =
      elim (has-append_cases (option_to_list (previous (plan_of s) j) ++ option_to_list (host_before (plan_of s) j)) (idle_after (plan_of s) j) i m) [
        | inl a ↦ elim (has-append_cases (option_to_list (previous (plan_of s) j)) (option_to_list (host_before (plan_of s) j)) i a) [
          | inl b ↦ by_previous (slice_get s.jobs j) (sym (part_is (λ x. x.previous) None s j) ∙ in_option (previous (plan_of s) j) i b)
          | inr b ↦ by_host (slice_get s.jobs j) (sym (part_is (λ x. x.host_before) None s j) ∙ in_option (host_before (plan_of s) j) i b)
        ]
        | inr a ↦ by_idle (slice_get s.jobs j) (ap (λ xs. has xs i) (sym (part_is (λ x. x.idle_after) [] s j)) ∙ a)
      ]
    where
      by_previous : (o : Option Job) → option_map_or (λ job. (plan_job s (j, job)).previous) o None ≡ Some i → i < j
      by_previous None g = cc
      by_previous (Some (Host x)) g = last_below j (λ y. same_lane HostLane (lane_of y)) i g
      by_previous (Some (Batch b)) g = last_below j (λ y. same_lane (QueueLane b.queue) (lane_of y)) i g

      by_host : (o : Option Job) → option_map_or (λ job. (plan_job s (j, job)).host_before) o None ≡ Some i → i < j
      by_host None g = cc
      by_host (Some (Host x)) g = cc
      by_host (Some (Batch b)) g = last_below j (λ y. same_lane HostLane (lane_of y)) i g

      of_step : (step : HostStep) → has (step_idle s j step) i ≡ true → i < j
      of_step Idle g =
          let r = mapped (λ q. last_before s j (λ x. same_lane (QueueLane q) (lane_of x))) (range_with_len 0 (length s.queues)) i g in
          last_below j (λ x. same_lane (QueueLane r.0) (lane_of x)) i r.2
      of_step other g = absurd (false≢true g)

      by_idle : (o : Option Job) → has (option_map_or (λ job. (plan_job s (j, job)).idle_after) o []) i ≡ true → i < j
      by_idle None g = absurd (false≢true g)
      by_idle (Some (Host x)) g = of_step x.step g
      by_idle (Some (Batch b)) g = absurd (false≢true g)

  pub formed : NamesAll s → FitsAll s → IsWellFormed (plan_of s)
  formed named fit =
      record {
        in_chain = in_chain named;
        of_chain = of_chain;
        chain_order = chain_in_order s;
        in_job = in_job;
        of_job = of_job;
        signals = signals_rise;
        commands = commands_rise;
        finished_first = finished_first;
        any_needs = any_needs;
        waits_for_all = waits_for_all;
        host_waits = host_waits;
        one_job = has_one_job s;
        fits = fits fit;
      }
