-- All programs of a plan are in order.
use Rattle.std.proofs.Common.{◌≡◌, ℕ, ◌<◌, Bool, true, false, not, [], ◌++◌, length, filter, Option, Some, None, refl}
use Rattle.std.proofs.Common.{sym, subst, ap, ◌∙◌, inl, arith, nat_lt}
use Rattle.std.specs.List.{range_with_len, slice_get}
use Rattle.std.specs.Option.{option_map, option_map_or, option_to_list}
use Rattle.std.proofs.lemmas.Bool.{and_from, false≢true, eq-eqb, lt-ltb, ltb-true}
use Rattle.vq_ground.proofs.Numbers.{has-range_cases, has_range}
use Rattle.vq_ground.proofs.Filters.{filter-has_cases, filter-has}
use Rattle.vq_model.specs.declared.script.ActorName.{ActorName}
use Rattle.vq_model.specs.declared.script.ActorName.TheVariants.{Host as HostActor, Submit as SubmitActor}
use Rattle.vq_model.specs.declared.script.ActorName.TheVariants.{Ring as RingActor}
use Rattle.vq_model.specs.declared.plan.Lane.{Lane}
use Rattle.vq_model.specs.declared.plan.Lane.TheVariants.{Host as HostLane, Queue as QueueLane}
use Rattle.vq_model.specs.declared.plan.PlanJob.{PlanJob}
use Rattle.vq_model.specs.declared.plan.Op.{Op}
use Rattle.vq_model.specs.Plan.{Plan, of_job, same_lane, is_host_lane, chain_of, is_host_step, signals_of}
use Rattle.vq_ground.specs.Lists.{has}
use Rattle.vq_model.specs.Plan.{question, is_silent, previous, host_before, idle_after}
use Rattle.vq_model.specs.WellFormed.{IsWellFormed, KeepsHostOrder}
use Rattle.vq_ground.proofs.Lists.{has_here, has-append_left}
use Rattle.vq_ground.proofs.Gets.{get_some}
use Rattle.vq_model.specs.Checks.{is_immediate_lane}
use Rattle.vq_model.specs.ValidScripts.{is_immediate_queue}
use Rattle.vq_point_laws.specs.Points.{jobs_of_lane, earlier_in_queue}
use Rattle.vq_turns.specs.Programs.{program}
use Rattle.vq_turn_laws.specs.Orders.{InOrder}
use Rattle.vq_turn_laws.specs.PlanParts.{lane_of_job, KeepsParts}
use Rattle.vq_turn_laws.proofs.ProgramLaws.{IsBatch, chain_or, submits_in_order}
use Rattle.vq_turn_laws.proofs.RingOrder.{RunsBatch, runs_in_order}
use Rattle.vq_turn_laws.proofs.HostOrder.{HasHostOrder, is_moved, host_in_order}
use Rattle.vq_turn_laws.proofs.Apart.{in_queue, host_lane, lane_rises}

module _ (p : Plan) (wf : IsWellFormed p) (host : KeepsHostOrder p) (parts : KeepsParts p) where
  chain_known : (j e : ℕ) → has (signals_of p j) e ≡ true → chain_of p e ≡ Some (chain_or p e)
  chain_known j e m = by_op (slice_get p.ops e) (wf.of_job e j m)
    where
      by_op : (o : Option Op) → option_map (λ x. x.job) o ≡ Some j →
          option_map (λ x. x.chain) o ≡ Some (option_map_or (λ t. t) (option_map (λ x. x.chain) o) 0)
      by_op None s = absurd (let z = s in cc)
      by_op (Some x) s = refl

  not_host : (q j : ℕ) → lane_of_job p j ≡ QueueLane q → is_host_step p j ≡ false
  not_host q j h = by_job (slice_get p.jobs j) h
    where
      by_lane : (l : Lane) → l ≡ QueueLane q → is_host_lane l ≡ false
      by_lane HostLane h = absurd (let z = h in cc)
      by_lane (QueueLane r) h = refl

      by_job : (o : Option PlanJob) → option_map_or (λ x. x.lane) o HostLane ≡ QueueLane q →
          option_map_or (λ x. is_host_lane x.lane) o false ≡ false
      by_job None h = refl
      by_job (Some x) h = by_lane x.lane h

  in_jobs : (q j : ℕ) → lane_of_job p j ≡ QueueLane q → j < length p.jobs → has (jobs_of_lane p (QueueLane q)) j ≡ true
  in_jobs q j h l = filter-has (λ i. of_job (λ x. same_lane (QueueLane q) x.lane) false p i)
      (range_with_len 0 (length p.jobs)) j (has_range (length p.jobs) 0 j (omega arith) (omega arith))
      (by_job (slice_get p.jobs j) h)
    where
      by_job : (o : Option PlanJob) → option_map_or (λ x. x.lane) o HostLane ≡ QueueLane q →
          option_map_or (λ x. same_lane (QueueLane q) x.lane) o false ≡ true
      by_job None h = absurd (let z = h in cc)
      by_job (Some x) h = ap (same_lane (QueueLane q)) h ∙ eq-eqb q q refl

  exists : (lane : Lane) (j : ℕ) → has (jobs_of_lane p lane) j ≡ true → j < length p.jobs
  exists lane j m = let x =
      (has-range_cases (length p.jobs) 0 j
      (filter-has_cases (λ i. of_job (λ x. same_lane lane x.lane) false p i)
      (range_with_len 0 (length p.jobs)) j m).0).1 in omega arith

  before_job : (i j : ℕ) → previous p j ≡ Some i → i < j
  before_job i j h =
      wf.finished_first i j
      (has-append_left (option_to_list (previous p j) ++ option_to_list (host_before p j)) (idle_after p j) i
      (has-append_left (option_to_list (previous p j)) (option_to_list (host_before p j)) i
      (ap (λ o. has (option_to_list o) i) h ∙ has_here i [])))

  quiet : (j : ℕ) → is_host_step p j ≡ false → is_silent (question p j) ≡ true
  quiet j h = by_test (is_silent (question p j)) refl
    where
      by_test : (b : Bool) → is_silent (question p j) ≡ b → b ≡ true
      by_test true e = refl
      by_test false e = absurd (false≢true (sym h ∙ (host.asks j e).0))

  runs_batches : (q j : ℕ) → has (jobs_of_lane p (QueueLane q)) j ≡ true → RunsBatch p (QueueLane q) j
  runs_batches q j m =
      let lane = in_queue p wf q j m in
      let h = not_host q j lane in
      let l = exists (QueueLane q) j m in
      record {
        exists = l;
        host = h;
        all = wf.waits_for_all j h;
        idle = parts.idle j h;
        silent = quiet j h;
        job_before = λ i e. let less = before_job i j e in (less, in_jobs q i (parts.lane i j e ∙ lane) (omega arith));
        chains = chain_known j;
        commands = wf.commands j;
        places = parts.places j;
      }

  pub ring_in_order : (q : ℕ) → InOrder p (RingActor q) [] (program p (RingActor q))
  ring_in_order q = runs_in_order p q (jobs_of_lane p (QueueLane q)) [] (lane_rises p wf (QueueLane q)) refl
      (runs_batches q) [] (λ i m. absurd (false≢true m)) (λ e. refl)

  batch_known : (j : ℕ) → j < length p.jobs → is_host_step p j ≡ false → IsBatch p j
  batch_known j l h =
      record {
        batch = and_from (nat_lt j (length p.jobs)) (not (is_host_step p j)) (lt-ltb j (length p.jobs) l) (ap not h);
        host = h;
        ops = λ e m. wf.of_job e j m;
        chains = chain_known j;
      }

  earlier_is : (q j i : ℕ) → lane_of_job p j ≡ QueueLane q → has (earlier_in_queue p j) i ≡ true →
      (i < j) × (has (jobs_of_lane p (QueueLane q)) i ≡ true)
  earlier_is q j i h m = by_job (slice_get p.jobs j) h m
    where
      by_job : (o : Option PlanJob) → option_map_or (λ x. x.lane) o HostLane ≡ QueueLane q →
          has (option_map_or (λ x. filter (λ k. nat_lt k j) (jobs_of_lane p x.lane)) o []) i ≡ true →
          (i < j) × (has (jobs_of_lane p (QueueLane q)) i ≡ true)
      by_job None h m = absurd (false≢true m)
      by_job (Some x) h m =
          let r = filter-has_cases (λ k. nat_lt k j) (jobs_of_lane p x.lane) i m in
          (ltb-true i j r.1, subst (λ l. has (jobs_of_lane p l) i ≡ true) h r.0)

  pub submit_in_order : (q : ℕ) → InOrder p (SubmitActor q) [] (program p (SubmitActor q))
  submit_in_order q =
      submits_in_order p (SubmitActor q) (jobs_of_lane p (QueueLane q)) (lane_rises p wf (QueueLane q))
      (λ j m. batch_known j (exists (QueueLane q) j m) (not_host q j (in_queue p wf q j m))) []
      (λ j i m n. let r = earlier_is q j i (in_queue p wf q j m) n in (r.0, inl r.1))

  moved_lane : (j : ℕ) → is_moved p j ≡ true →
      (q : ℕ) × (lane_of_job p j ≡ QueueLane q) × (is_immediate_queue p.script q ≡ true)
  moved_lane j h = by_job (slice_get p.jobs j) h
    where
      by_lane : (l : Lane) → is_immediate_lane p l ≡ true →
          (q : ℕ) × (l ≡ QueueLane q) × (is_immediate_queue p.script q ≡ true)
      by_lane HostLane h = absurd (false≢true h)
      by_lane (QueueLane q) h = (q, refl, h)

      by_job : (o : Option PlanJob) → option_map_or (λ x. is_immediate_lane p x.lane) o false ≡ true →
          (q : ℕ) × (option_map_or (λ x. x.lane) o HostLane ≡ QueueLane q) × (is_immediate_queue p.script q ≡ true)
      by_job None h = absurd (false≢true h)
      by_job (Some x) h = by_lane x.lane h

  is_moved_in : (q i : ℕ) → lane_of_job p i ≡ QueueLane q → is_immediate_queue p.script q ≡ true → is_moved p i ≡ true
  is_moved_in q i h m = by_job (slice_get p.jobs i) h
    where
      by_job : (o : Option PlanJob) → option_map_or (λ x. x.lane) o HostLane ≡ QueueLane q →
          option_map_or (λ x. is_immediate_lane p x.lane) o false ≡ true
      by_job None h = absurd (let z = h in cc)
      by_job (Some x) h = ap (is_immediate_lane p) h ∙ m

  host_known : HasHostOrder p
  host_known =
      record {
        steps = λ j l h. record {
          exists = l;
          host = h;
          job_before = λ i e. let less = before_job i j e in
              (less, step_of_lane i (omega arith) (parts.lane i j e ∙ host_lane p wf j h));
          at_start = wf.host_waits j h;
          commands = parts.commands j h;
          ops = λ e m. wf.of_job e j m;
          chains = chain_known j;
          loud = parts.loud j;
        };
        batches = batch_known;
        earlier_moved = λ j i m n.
            let x = moved_lane j m in
            let r = earlier_is x.0 j i x.1 n in
            let lane = in_queue p wf x.0 i r.1 in
            (r.0, not_host x.0 i lane, is_moved_in x.0 i lane x.2);
      }
    where
      step_of_lane : (i : ℕ) → i < length p.jobs → lane_of_job p i ≡ HostLane → is_host_step p i ≡ true
      step_of_lane i l h = by_job (slice_get p.jobs i) refl h
        where
          by_job : (o : Option PlanJob) → slice_get p.jobs i ≡ o → option_map_or (λ x. x.lane) o HostLane ≡ HostLane →
              option_map_or (λ x. is_host_lane x.lane) o false ≡ true
          by_job None is h = let x = get_some p.jobs i l in absurd (let z = sym is ∙ x.1 in cc)
          by_job (Some x) is h = ap is_host_lane h

  pub host_order : InOrder p HostActor [] (program p HostActor)
  host_order = host_in_order p host_known

-- Each actor's program is in order.
pub in_order : (p : Plan) → IsWellFormed p → KeepsHostOrder p → KeepsParts p → (a : ActorName) →
    InOrder p a [] (program p a)
in_order p wf host parts HostActor = host_order p wf host parts
in_order p wf host parts (SubmitActor q) = submit_in_order p wf host parts q
in_order p wf host parts (RingActor q) = ring_in_order p wf host parts q
