-- The plan of a script keeps what its programs ask, where the places of waits count from 1.
use Rattle.std.proofs.Common.{◌≡◌, ℕ, ◌≤◌, ◌+◌, suc, Bool, true, false, if◌then◌else◌, List, [], ◌∷◌, map, take, Option}
use Rattle.std.proofs.Common.{Some, None, refl, sym, subst, ap, ◌∙◌, ◌⊎◌, inl, inr, arith}
use Rattle.std.specs.List.{slice_get}
use Rattle.std.specs.Option.{option_map_or}
use Rattle.std.proofs.lemmas.Bool.{false≢true, eqb-true}
use Rattle.vq_model.specs.declared.script.Script.{Script}
use Rattle.vq_model.specs.declared.script.Job.{Job}
use Rattle.vq_model.specs.declared.script.Job.TheVariants.{Host, Batch}
use Rattle.vq_model.specs.declared.script.Batch.{Batch as BatchLine}
use Rattle.vq_model.specs.declared.script.Mark.{Mark}
use Rattle.vq_model.specs.declared.script.Pair.{Pair}
use Rattle.vq_model.specs.declared.script.HostStep.{HostStep}
use Rattle.vq_model.specs.declared.script.HostStep.TheVariants.{WaitAll, WaitAny, FenceWait, Signal, PollAll, PollAny}
use Rattle.vq_model.specs.declared.script.HostStep.TheVariants.{Read, FencePoll, FenceReset, Idle}
use Rattle.vq_model.specs.declared.plan.Question.TheVariants.{Silent, Value as AsksValue}
use Rattle.vq_model.specs.declared.plan.Lane.{Lane}
use Rattle.vq_model.specs.declared.plan.Lane.TheVariants.{Host as HostLane, Queue as QueueLane}
use Rattle.vq_model.specs.declared.plan.Need.{Need}
use Rattle.vq_model.specs.Plan.{same_lane, is_host_lane, is_host_step, previous, idle_after, commands_of, needs, asked}
use Rattle.vq_model.specs.Plan.{question, is_silent}
use Rattle.vq_model.specs.Lowering.{plan_of, plan_job, lane_of, last_from, last_before, step_needs, of_pair, of_wait}
use Rattle.vq_model.specs.Lowering.{step_asked, step_question}
use Rattle.vq_ground.proofs.Gets.{get-take, get-take_within}
use Rattle.vq_model.proofs.Actors.{same_lane_is}
use Rattle.vq_plan_laws.proofs.Cited.{part_is}
use Rattle.vq_turn_laws.specs.Orders.{Within}
use Rattle.vq_turn_laws.specs.PlanParts.{lane_of_job, KeepsParts}

abbrev pub EachMark : (Mark → Type 0) → List Mark → Type 0
EachMark P [] = Unit {0}
EachMark P (m ∷ ms) = P m × EachMark P ms

last_found : (n : ℕ) (test : Job → Bool) (jobs : List Job) (found : Option ℕ) (i : ℕ) →
    last_from n test jobs found ≡ Some i →
    (found ≡ Some i) ⊎ ((k : ℕ) × (i ≡ n + k) × (x : Job) × (slice_get jobs k ≡ Some x) × (test x ≡ true))
last_found n test [] found i h = inl h
last_found n test (y ∷ ys) found i h =
    elim (last_found (n + 1) test ys (if test y then Some n else found) i h) [
      | inl e ↦ by_test (test y) refl e
      | inr r ↦ inr (suc r.0, (let e = r.1 in omega arith), r.2, r.3, r.4)
    ]
  where
    by_test : (b : Bool) → test y ≡ b → (if b then Some n else found) ≡ Some i →
        (found ≡ Some i) ⊎ ((k : ℕ) × (i ≡ n + k) × (x : Job) × (slice_get (y ∷ ys) k ≡ Some x) × (test x ≡ true))
    by_test true t e = let same : n ≡ i = let z = e in cc in inr (0, (omega arith), y, refl, t)
    by_test false t e = inl e

module _ (s : Script)
    (counted : (j : ℕ) (b : BatchLine) → slice_get s.jobs j ≡ Some (Batch b) → EachMark (λ m. 1 ≤ m.from) b.waits) where
  lane_of_is : (j : ℕ) → lane_of_job (plan_of s) j ≡ option_map_or lane_of (slice_get s.jobs j) HostLane
  lane_of_is j = part_is (λ x. x.lane) HostLane s j ∙ by_job (slice_get s.jobs j)
    where
      by_job : (o : Option Job) →
          option_map_or (λ job. (plan_job s (j, job)).lane) o HostLane ≡ option_map_or lane_of o HostLane
      by_job None = refl
      by_job (Some (Host h)) = refl
      by_job (Some (Batch b)) = refl

  lane_before : (i j : ℕ) → previous (plan_of s) j ≡ Some i → lane_of_job (plan_of s) i ≡ lane_of_job (plan_of s) j
  lane_before i j h = by_job (slice_get s.jobs j) refl (sym (part_is (λ x. x.previous) None s j) ∙ h)
    where
      in_lane : (job : Job) → slice_get s.jobs j ≡ Some job →
          last_before s j (λ x. same_lane (lane_of job) (lane_of x)) ≡ Some i →
          lane_of_job (plan_of s) i ≡ lane_of_job (plan_of s) j
      in_lane job is l =
          elim (last_found 0 (λ x. same_lane (lane_of job) (lane_of x)) (take j s.jobs) None i l) [
            | inl e ↦ absurd (let z = e in cc)
            | inr r ↦
                let same : i ≡ r.0 = let e = r.1 in omega arith in
                let less = get-take_within j s.jobs r.0 r.2 r.3 in
                let at : slice_get s.jobs i ≡ Some r.2 = ap (slice_get s.jobs) same ∙
                (sym (get-take j s.jobs r.0 less) ∙ r.3) in
                lane_of_is i ∙ (ap (λ o. option_map_or lane_of o HostLane) at ∙
                (sym (same_lane_is (lane_of job) (lane_of r.2) r.4) ∙
                (sym (ap (λ o. option_map_or lane_of o HostLane) is) ∙ sym (lane_of_is j))))
          ]

      by_job : (o : Option Job) → slice_get s.jobs j ≡ o →
          option_map_or (λ job. (plan_job s (j, job)).previous) o None ≡ Some i →
          lane_of_job (plan_of s) i ≡ lane_of_job (plan_of s) j
      by_job None is e = absurd (let z = e in cc)
      by_job (Some (Host x)) is e = in_lane (Host x) is e
      by_job (Some (Batch b)) is e = in_lane (Batch b) is e

  no_idle : (j : ℕ) → is_host_step (plan_of s) j ≡ false → idle_after (plan_of s) j ≡ []
  no_idle j h = part_is (λ x. x.idle_after) [] s j ∙ by_job (slice_get s.jobs j)
      (sym (part_is (λ x. is_host_lane x.lane) false s j) ∙ h)
    where
      by_job : (o : Option Job) → option_map_or (λ job. is_host_lane (plan_job s (j, job)).lane) o false ≡ false →
          option_map_or (λ job. (plan_job s (j, job)).idle_after) o [] ≡ []
      by_job None e = refl
      by_job (Some (Host x)) e = absurd (false≢true (sym e))
      by_job (Some (Batch b)) e = refl

  no_commands : (j : ℕ) → is_host_step (plan_of s) j ≡ true → commands_of (plan_of s) j ≡ []
  no_commands j h = part_is (λ x. x.commands) [] s j ∙ by_job (slice_get s.jobs j)
      (sym (part_is (λ x. is_host_lane x.lane) false s j) ∙ h)
    where
      by_job : (o : Option Job) → option_map_or (λ job. is_host_lane (plan_job s (j, job)).lane) o false ≡ true →
          option_map_or (λ job. (plan_job s (j, job)).commands) o [] ≡ []
      by_job None e = refl
      by_job (Some (Host x)) e = refl
      by_job (Some (Batch b)) e = absurd (false≢true e)

  of_pairs : (line : ℕ) (pairs : List Pair) (n : Need) → Within n (map (of_pair line) pairs) → 1 ≤ n.from
  of_pairs line [] n w = absurd w
  of_pairs line (x ∷ xs) n (inl e) = subst (λ (z : Need). 1 ≤ z.from) e (omega arith)
  of_pairs line (x ∷ xs) n (inr r) = of_pairs line xs n r

  of_waits : (j : ℕ) (ms : List Mark) → EachMark (λ m. 1 ≤ m.from) ms → (n : Need) → Within n (map (of_wait s j) ms) →
      1 ≤ n.from
  of_waits j [] k n w = absurd w
  of_waits j (m ∷ ms) k n (inl e) = subst (λ (z : Need). 1 ≤ z.from) e k.0
  of_waits j (m ∷ ms) k n (inr r) = of_waits j ms k.1 n r

  of_step : (j line : ℕ) (step : HostStep) (n : Need) → Within n (step_needs s j line step) → 1 ≤ n.from
  of_step j line (WaitAll pairs) n w = of_pairs line pairs n w
  of_step j line (WaitAny pairs) n w = of_pairs line pairs n w
  of_step j line (FenceWait f) n (inl e) = subst (λ (z : Need). 1 ≤ z.from) e (omega arith)
  of_step j line (FenceWait f) n (inr r) = absurd r
  of_step j line other n w = absurd w

  from_one : (j : ℕ) (n : Need) → Within n (needs (plan_of s) j) → 1 ≤ n.from
  from_one j n w = by_job (slice_get s.jobs j) refl (subst (Within n) (part_is (λ x. x.needs) [] s j) w)
    where
      by_job : (o : Option Job) → slice_get s.jobs j ≡ o →
          Within n (option_map_or (λ job. (plan_job s (j, job)).needs) o []) → 1 ≤ n.from
      by_job None is m = absurd m
      by_job (Some (Host x)) is m = of_step j x.line x.step n m
      by_job (Some (Batch b)) is m = of_waits j b.waits (counted j b is) n m

  loud_step : (j line : ℕ) (step : HostStep) (n : Need) → Within n (step_asked s j line step) →
      is_silent (step_question step) ≡ false
  loud_step j line (PollAll pairs) n w = refl
  loud_step j line (PollAny pairs) n w = refl
  loud_step j line (FencePoll f) n w = refl
  loud_step j line (Read t) n w = refl
  loud_step j line (Signal x) n w = absurd w
  loud_step j line (WaitAll pairs) n w = refl
  loud_step j line (WaitAny pairs) n w = refl
  loud_step j line (FenceWait f) n w = refl
  loud_step j line (FenceReset f) n w = absurd w
  loud_step j line Idle n w = refl

  is_loud : (j : ℕ) (n : Need) → Within n (asked (plan_of s) j) → is_silent (question (plan_of s) j) ≡ false
  is_loud j n w = ap is_silent (part_is (λ x. x.question) Silent s j) ∙ by_job (slice_get s.jobs j)
      (subst (Within n) (part_is (λ x. x.asked) [] s j) w)
    where
      by_job : (o : Option Job) → Within n (option_map_or (λ job. (plan_job s (j, job)).asked) o []) →
          is_silent (option_map_or (λ job. (plan_job s (j, job)).question) o Silent) ≡ false
      by_job None m = absurd m
      by_job (Some (Host x)) m = loud_step j x.line x.step n m
      by_job (Some (Batch b)) m = absurd m

  value_step : (j line : ℕ) (step : HostStep) (t : ℕ) → step_question step ≡ AsksValue t →
      (n : Need) × (ns : List Need) × (step_asked s j line step ≡ n ∷ ns) × (n.chain ≡ t)
  value_step j line (Read u) t h =
      let same : u ≡ t = let z = h in cc in
      (record { line = line; chain = u; value = 0; from = 1 }, [], refl, same)
  value_step j line (PollAll pairs) t h = absurd (let z = h in cc)
  value_step j line (PollAny pairs) t h = absurd (let z = h in cc)
  value_step j line (FencePoll f) t h = absurd (let z = h in cc)
  value_step j line (Signal x) t h = absurd (let z = h in cc)
  value_step j line (WaitAll pairs) t h = absurd (let z = h in cc)
  value_step j line (WaitAny pairs) t h = absurd (let z = h in cc)
  value_step j line (FenceWait f) t h = absurd (let z = h in cc)
  value_step j line (FenceReset f) t h = absurd (let z = h in cc)
  value_step j line Idle t h = absurd (let z = h in cc)

  value_first : (j t : ℕ) → question (plan_of s) j ≡ AsksValue t →
      (n : Need) × (ns : List Need) × (asked (plan_of s) j ≡ n ∷ ns) × (n.chain ≡ t)
  value_first j t h =
      subst (λ (us : List Need). (n : Need) × (ns : List Need) × (us ≡ n ∷ ns) × (n.chain ≡ t))
      (sym (part_is (λ x. x.asked) [] s j))
      (by_job (slice_get s.jobs j) (sym (part_is (λ x. x.question) Silent s j) ∙ h))
    where
      by_job : (o : Option Job) → option_map_or (λ job. (plan_job s (j, job)).question) o Silent ≡ AsksValue t →
          (n : Need) × (ns : List Need) × (option_map_or (λ job. (plan_job s (j, job)).asked) o [] ≡ n ∷ ns) ×
          (n.chain ≡ t)
      by_job None e = absurd (let z = e in cc)
      by_job (Some (Host x)) e = value_step j x.line x.step t e
      by_job (Some (Batch b)) e = absurd (let z = e in cc)

  pub keeps_parts : KeepsParts (plan_of s)
  keeps_parts = record {
    idle = no_idle;
    commands = no_commands;
    places = from_one;
    lane = lane_before;
    loud = is_loud;
    value = value_first;
  }
