-- Where the places are true of a pass, the pass may make the step of an actor's next task.
use Rattle.std.proofs.Common.{◌≡◌, ℕ, zero, suc, ◌+◌, ◌<◌, ◌≤◌, true, false, not, List, [], ◌∷◌, Option, Some, None, length, drop, refl, sym, ap, ◌∙◌, subst, arith, inl, inr, filter}
use Rattle.std.specs.Prelude.{nat_lt}
use Rattle.std.specs.List.{slice_get, list_all, range_with_len}
use Rattle.std.specs.Option.{option_map_or}
use Rattle.std.proofs.lemmas.Bool.{false≢true, not_from_false, and_parts, eq-eqb, lt-ltb, ltb-true, not-true}
use Rattle.vq_model.specs.Checks.{IsLawful}
use Rattle.vq_model.specs.LoweredPlans.{IsPlan}
use Rattle.vq_model.specs.declared.script.ActorName.{ActorName}
use Rattle.vq_model.specs.declared.script.ActorName.TheVariants.{Host as HostActor, Submit as SubmitActor}
use Rattle.vq_model.specs.declared.script.ActorName.TheVariants.{Ring as RingActor}
use Rattle.vq_model.specs.declared.plan.Lane.{Lane}
use Rattle.vq_model.specs.declared.plan.Lane.TheVariants.{Host as HostLane, Queue as QueueLane}
use Rattle.vq_model.specs.declared.plan.PlanJob.{PlanJob}
use Rattle.vq_model.specs.declared.plan.Question.{Question}
use Rattle.vq_model.specs.declared.plan.Question.TheVariants.{Silent}
use Rattle.vq_model.specs.Edges.{Stage, AtEnd, needs_at}
use Rattle.vq_model.specs.Lanes.{lane_at, lane_number}
use Rattle.vq_model.specs.Outputs.{asking}
use Rattle.vq_model.specs.Plan.{Plan, of_job, same_lane, signals_of, is_host_step, is_batch, is_silent, question}
use Rattle.vq_ground.specs.Lists.{has}
use Rattle.vq_ground.proofs.Filters.{filter-has}
use Rattle.vq_ground.proofs.Gets.{get_within}
use Rattle.vq_ground.proofs.Lists.{list_all_has}
use Rattle.vq_ground.proofs.Numbers.{has_range, range-has}
use Rattle.vq_order_laws.proofs.Cited.{need_awaits}
use Rattle.vq_point_laws.specs.Points.{earlier_in_queue, jobs_of_lane}
use Rattle.vq_turns.specs.declared.look.Holding.{Holding}
use Rattle.vq_turns.specs.declared.task.Task.{Task}
use Rattle.vq_turns.specs.declared.task.Task.TheVariants.{AwaitSubmitted, AwaitBound, AwaitNeeds, Submit, Release, Answer, Finish}
use Rattle.vq_turns.specs.Programs.{program}
use Rattle.vq_turns.specs.Turns.{Place}
use Rattle.vq_turn_laws.specs.Orders.{Asks, InOrder, AsksAnswer, AsksBatch, AsksSubmit, AsksRelease, Waited}
use Rattle.vq_turn_laws.specs.PlanParts.{IsOrderly, lane_of_job}
use Rattle.vq_turn_laws.specs.Running.{runs_after, InTurn, RunInTurn, IsRunnerOf}
use Rattle.vq_turn_laws.specs.Tasks.{Among}
use Rattle.vq_turn_laws.proofs.Cited.{cut_at, next_left, plan_orderly, run_cut, run_in_turn}
use Rattle.vq_actor.specs.Stages.{Serves}
use Rattle.vq_board_laws.specs.declared.view.JobState.TheVariants.{Submitted}
use Rattle.vq_board_laws.specs.declared.view.View.{View}
use Rattle.vq_board_laws.specs.May.{KnowsNeeds, MaySubmit, MayRelease}
use Rattle.vq_board_laws.specs.Roles.{role_number, runner, runner_of, submitter}
use Rattle.vq_access_laws.specs.Tests.{knows_far, knows_taken}
use Rattle.vq_access_laws.specs.TrueTasks.{is_done, is_left}
use Rattle.vq_access_laws.specs.TruePasses.{AreTrue, HasDone, role_of_actor, tasks_before, tasks_left, is_for}
use Rattle.vq_access_laws.proofs.ServedActors.{IsServed, itself, deferred, served_cases, role_served, queue_submitter, host_submitter}
use Rattle.vq_access_laws.proofs.TaskKinds.{all_among, kind_of, is_task_of}
use Rattle.vq_access_laws.proofs.TestLaws.{far_known, finished_known, bound_known, taken_known, all_known, one_known}

-- Small laws

pub among_program : (n : ℕ) (ts : List Task) (t : Task) → slice_get ts n ≡ Some t → Among t ts
among_program n [] t h = absurd (let z = h in cc)
among_program zero (u ∷ us) t h = inl (let z = h in cc)
among_program (suc n) (u ∷ us) t h = inr (among_program n us t h)

-- who runs a job, by its lane
runner_is : (p : Plan) (j : ℕ) → runner p j ≡ role_number p (runner_of (lane_of_job p j))
runner_is p j = by_job (slice_get p.jobs j)
  where
    by_job : (o : Option PlanJob) → option_map_or (λ x. role_number p (runner_of x.lane)) o 0
        ≡ role_number p (runner_of (option_map_or (λ x. x.lane) o HostLane))
    by_job None = refl
    by_job (Some x) = refl

pub runs_jobs : (p : Plan) (a : ActorName) (j : ℕ) → IsRunnerOf p a j → runner p j ≡ role_number p (role_of_actor p a)
runs_jobs p HostActor j is = runner_is p j ∙ ap (λ (l : Lane). role_number p (runner_of l)) is.1
runs_jobs p (SubmitActor q) j is = absurd is
runs_jobs p (RingActor q) j is = runner_is p j ∙ ap (λ (l : Lane). role_number p (runner_of l)) is.1

pub job_exists : (p : Plan) (a : ActorName) (j : ℕ) → IsRunnerOf p a j → j < length p.jobs
job_exists p HostActor j is = is.0
job_exists p (SubmitActor q) j is = absurd is
job_exists p (RingActor q) j is = is.0

-- a batch exists and is no host step
batch_parts : (p : Plan) (j : ℕ) → is_batch p j ≡ true → (j < length p.jobs) × (is_host_step p j ≡ false)
batch_parts p j h =
    let q = and_parts (nat_lt j (length p.jobs)) (not (is_host_step p j)) h in
    (ltb-true j (length p.jobs) q.0, not-true (is_host_step p j) q.1)

-- the batches of its queue before a batch
earlier_has : (p : Plan) (i j : ℕ) → i < j → j < length p.jobs → lane_at p i ≡ lane_at p j →
    has (earlier_in_queue p j) i ≡ true
earlier_has p i j low inside same = by_jobs (slice_get p.jobs i) refl (slice_get p.jobs j) refl
  where
    lanes : (l m : Lane) → lane_number l ≡ lane_number m → same_lane m l ≡ true
    lanes HostLane HostLane e = refl
    lanes HostLane (QueueLane q) e = absurd (omega arith)
    lanes (QueueLane q) HostLane e = absurd (omega arith)
    lanes (QueueLane q) (QueueLane r) e = let z : r ≡ q = omega arith in eq-eqb r q z

    none : (xs : List PlanJob) (k : ℕ) → slice_get xs k ≡ None → length xs ≤ k
    none [] k h = omega arith
    none (x ∷ xs) zero h = absurd (let z = h in cc)
    none (x ∷ xs) (suc k) h = let z = none xs k h in omega arith

    by_jobs : (o : Option PlanJob) → slice_get p.jobs i ≡ o → (u : Option PlanJob) → slice_get p.jobs j ≡ u →
        has (earlier_in_queue p j) i ≡ true
    by_jobs None a u b = absurd (let z = none p.jobs i a in omega arith)
    by_jobs (Some x) a None b = absurd (let z = none p.jobs j b in omega arith)
    by_jobs (Some x) a (Some y) b =
        let numbers : lane_number x.lane ≡ lane_number y.lane =
        sym (ap (λ (o : Option PlanJob). option_map_or (λ z. lane_number z.lane) o 0) a)
        ∙ (same ∙ ap (λ (o : Option PlanJob). option_map_or (λ z. lane_number z.lane) o 0) b) in
        let is : of_job (λ z. same_lane y.lane z.lane) false p i ≡ true =
        ap (λ (o : Option PlanJob). option_map_or (λ z. same_lane y.lane z.lane) o false) a
        ∙ lanes x.lane y.lane numbers in
        ap (λ (o : Option PlanJob). has (option_map_or (λ z. filter (λ k. nat_lt k j) (jobs_of_lane p z.lane)) o []) i) b
        ∙ filter-has (λ k. nat_lt k j) (jobs_of_lane p y.lane) i
        (filter-has (λ k. of_job (λ z. same_lane y.lane z.lane) false p k) (range_with_len 0 (length p.jobs)) i
        (range-has (length p.jobs) 0 i (omega arith) (omega arith)) is) (lt-ltb i j low)

-- where no need is waited for nothing is held
pub none_held : (p : Plan) (hs : List Holding) → list_all (is_for p []) hs ≡ true → hs ≡ []
none_held p [] h = refl
none_held p (x ∷ hs) h =
    let q = and_parts (is_for p [] x) (list_all (is_for p []) hs) h in
    let r = and_parts (nat_lt x.point (length p.ops)) false q.0 in
    absurd (false≢true r.1)

-- The next task

module _ (p : Plan) (i : IsPlan p) (l : IsLawful p) (a : ActorName) (v : View) (places : ActorName → Place)
    (k : AreTrue p a v places) (b : ActorName) (s : Serves p a b) where
  abbrev o : IsOrderly p
  o = plan_orderly p i l

  abbrev before : List Task
  before = tasks_before p b (places b)

  has_done : HasDone p v before (tasks_left p b (places b))
  has_done = k.served b s

  pub role : v.role ≡ role_number p (role_of_actor p b)
  role = k.role ∙ role_served p a b s

  pub done : (u : Task) → Among u before → is_done p v u ≡ true
  done u m = all_among (is_done p v) before u has_done.done m

  pub needed : (j : ℕ) (at : Stage) → Waited p before j at → KnowsNeeds p v.known j at
  needed j at x = record {
    all = λ each. all_known p v.known (needs_at p j at) (λ n w. done (AwaitNeeds (n ∷ [])) (x.all each n w));
    one = λ any. one_known p v.known (needs_at p j at) (done (AwaitNeeds (needs_at p j at)) (x.any any));
  }

  module _ (t : Task) (next : slice_get (program p b) (places b).done ≡ Some t) where
    abbrev behind : List Task
    behind = drop ((places b).done + 1) (program p b)

    pub left_is : tasks_left p b (places b) ≡ t ∷ behind
    left_is = next_left (places b).done (program p b) t next

    pub asks : Asks p b before t behind
    asks = (subst (λ (ts : List Task). InOrder p b before ts) left_is
        (cut_at p o b (places b).done).order).0

    pub turn : InTurn p (IsRunnerOf p b) t (runs_after before)
    turn = (subst (λ (ts : List Task). RunInTurn p (IsRunnerOf p b) (runs_after before) ts) left_is
        (run_cut p (IsRunnerOf p b) (places b).done (program p b) (run_in_turn p i b))).0

    pub kind : is_task_of p b t ≡ true
    kind = kind_of p b t (among_program (places b).done (program p b) t next)

    pub not_done : is_left v t ≡ true
    not_done = (and_parts (is_left v t) (list_all (is_left v) behind)
        (subst (λ (ts : List Task). list_all (is_left v) ts ≡ true) left_is has_done.left)).0

  -- What each task's step asks of the pass

  pub may_submit : (j : ℕ) → slice_get (program p b) (places b).done ≡ Some (Submit j) → MaySubmit p v j
  may_submit j next =
      let x : AsksSubmit p before j = asks (Submit j) next in
      record {
        host = by_actor b role (kind (Submit j) next);
        batch = x.batch;
        new = not-true (has v.submitted j) (not_done (Submit j) next);
        next = λ h low is. (and_parts (has v.submitted h) (knows_far v.known h Submitted)
            (done (Submit h) (x.batches h low (batch_parts p h is).1))).0;
        before = λ h low is. finished_known v.known h (done (Finish h) (x.hosts h low is));
      }
    where
      by_actor : (c : ActorName) → v.role ≡ role_number p (role_of_actor p c) → is_task_of p c (Submit j) ≡ true → v.role ≡ 0
      by_actor HostActor r h = r
      by_actor (SubmitActor q) r h = absurd (false≢true h)
      by_actor (RingActor q) r h = absurd (false≢true h)

  -- .. where each signal of the batch is known to have a point
  pub may_release : (j : ℕ) → slice_get (program p b) (places b).done ≡ Some (Release j) →
      list_all (knows_taken v.known) (signals_of p j) ≡ true → MayRelease p v j
  may_release j next known =
      let x : AsksRelease p before j = asks (Release j) next in
      let y : AsksBatch p before j = x.moves in
      let parts = batch_parts p j y.batch in
      record {
        submitter = by_actor b role (kind (Release j) next);
        batch = y.batch;
        new = not-true (has v.released j) (not_done (Release j) next);
        next = λ h low same. done (Release h) (y.earlier h (earlier_has p h j low parts.0 same));
        submitted = elim y.submitted [
          | inl m ↦ far_known v.known j Submitted (done (AwaitSubmitted j) m)
          | inr m ↦ far_known v.known j Submitted
              (and_parts (has v.submitted j) (knows_far v.known j Submitted) (done (Submit j) m)).1
        ];
        bound = λ n place e at above resolves. bound_known v.known e (done (AwaitBound e) (y.needs e
            (need_awaits p 0 j AtEnd n place e (o.well_formed.waits_for_all j parts.1) at refl above resolves)));
        taken = λ e m. taken_known v.known e (list_all_has (knows_taken v.known) (signals_of p j) e known m);
      }
    where
      by_actor : (c : ActorName) → v.role ≡ role_number p (role_of_actor p c) → is_task_of p c (Release j) ≡ true →
          submitter p j ≡ v.role
      by_actor HostActor r h = host_submitter p j h ∙ sym r
      by_actor (SubmitActor q) r h = queue_submitter p q j h ∙ sym r
      by_actor (RingActor q) r h = absurd (false≢true h)

  -- what is answered is a job of the plan that asks
  pub answered_asks : (j : ℕ) (asked : Question) → slice_get (program p b) (places b).done ≡ Some (Answer j asked) →
      has (asking p) j ≡ true
  answered_asks j asked next =
      let x : AsksAnswer p before j asked (drop ((places b).done + 1) (program p b)) = asks (Answer j asked) next in
      let low : j < length p.jobs = by_job (slice_get p.jobs j) refl x.loud in
      filter-has (λ i. not (is_silent (question p i))) (range_with_len 0 (length p.jobs)) j
      (has_range (length p.jobs) 0 j (omega arith) (omega (arith, low))) (not_from_false (is_silent (question p j)) x.loud)
    where
      by_job : (o : Option PlanJob) → slice_get p.jobs j ≡ o →
          is_silent (option_map_or (λ x. x.question) o Silent) ≡ false → j < length p.jobs
      by_job None at loud = absurd (false≢true (sym loud))
      by_job (Some x) at loud = get_within p.jobs j x at

  -- The job that is run is the pass's own actor's.
  pub runner_own : (t : Task) → slice_get (program p b) (places b).done ≡ Some t →
      ((q : ℕ) → is_task_of p (SubmitActor q) t ≡ false) → b ≡ a
  runner_own t next other = by_case (served_cases p a b s) (kind t next)
    where
      by_case : {c : ActorName} → IsServed p a c → is_task_of p c t ≡ true → c ≡ a
      by_case itself h = refl
      by_case (deferred q host is) h = absurd (false≢true (sym (other q) ∙ h))
