-- Where the places are true of a pass, its own actor's next task may start a job, enter a command, signal and finish.
use Rattle.std.proofs.Common.{◌≡◌, ℕ, ◌<◌, true, List, [], ◌∷◌, ◌++◌, Option, Some, None, length, refl, sym, ap, ◌∙◌, subst, arith, option_map, drop, ◌+◌}
use Rattle.std.specs.List.{slice_get, list_all}
use Rattle.std.proofs.lemmas.Bool.{not-true}
use Rattle.std.proofs.lemmas.Option.{same_Some}
use Rattle.vq_ground.proofs.Gets.{get_has}
use Rattle.vq_model.specs.Memory.{Memory}
use Rattle.vq_model.specs.Checks.{IsLawful}
use Rattle.vq_model.specs.LoweredPlans.{IsPlan}
use Rattle.vq_model.specs.declared.script.ActorName.{ActorName}
use Rattle.vq_model.specs.Edges.{At, AtEnd, stage_of}
use Rattle.vq_model.specs.Plan.{Plan, commands_of, signals_of, question}
use Rattle.vq_ground.specs.Lists.{has}
use Rattle.vq_ground.proofs.Lists.{has_here, has-append_right}
use Rattle.vq_turns.specs.declared.task.Task.{Task}
use Rattle.vq_turns.specs.declared.task.Task.TheVariants.{AwaitReleased, AwaitFinished, Start, Apply, Signal, Answer, Finish}
use Rattle.vq_turns.specs.Programs.{program}
use Rattle.vq_turns.specs.Turns.{Place}
use Rattle.vq_turn_laws.specs.Orders.{AsksStart, AsksApply, AsksSignal, AsksFinish, Waited}
use Rattle.vq_turn_laws.specs.PlanParts.{IsOrderly}
use Rattle.vq_turn_laws.specs.Running.{Running, runs_after, InTurn, IsRunnerOf}
use Rattle.vq_turn_laws.specs.Tasks.{waited_now}
use Rattle.vq_turn_laws.proofs.Cited.{plan_orderly}
use Rattle.vq_actor.specs.Stages.{Serves}
use Rattle.vq_board_laws.specs.declared.view.JobState.TheVariants.{Released}
use Rattle.vq_board_laws.specs.declared.view.View.{View}
use Rattle.vq_board_laws.specs.May.{MayStart, MayEnter, MayFinish}
use Rattle.vq_board_laws.specs.MayPoints.{MaySignal}
use Rattle.vq_board_laws.specs.Steps.{takes_turn}
use Rattle.vq_access_laws.specs.TruePasses.{AreTrue, tasks_before, is_for}
use Rattle.vq_access_laws.proofs.Guards.{runs_jobs, job_exists, none_held, done, needed, left_is, asks, turn, not_done, runner_own}
use Rattle.vq_access_laws.proofs.ServedActors.{serves_itself}
use Rattle.vq_access_laws.proofs.TestLaws.{far_known, finished_known}

of_length : {A : Type 0} (xs : List A) → length xs ≡ 0 → xs ≡ []
of_length [] l = refl
of_length (y ∷ ys) l = absurd (omega arith)

in_whole : (xs front back : List ℕ) (x : ℕ) → xs ≡ front ++ x ∷ back → has xs x ≡ true
in_whole xs front back x whole = ap (λ (zs : List ℕ). has zs x) whole
    ∙ has-append_right front (x ∷ back) x (has_here x back)

module _ (p : Plan) (i : IsPlan p) (l : IsLawful p) (a : ActorName) (v : View) (places : ActorName → Place)
    (k : AreTrue p a v places) where
  abbrev before : List Task
  before = tasks_before p a (places a)

  abbrev self : Serves p a a
  self = serves_itself p a

  -- the job that is run
  runs_it : (y : Running) → runs_after before ≡ Some y → v.runs ≡ Some y.job
  runs_it y is = k.own.runs.job ∙ ap (option_map (λ (z : Running). z.job)) is

  own_start : (j : ℕ) → slice_get (program p a) (places a).done ≡ Some (Start j) → MayStart p v j
  own_start j next =
      let x : AsksStart p before j = asks p i l a v places k a self (Start j) next in
      let t : (runs_after before ≡ None) × IsRunnerOf p a j = turn p i l a v places k a self (Start j) next in
      record {
        exists = x.exists;
        runner = runs_jobs p a j t.1 ∙ sym k.role;
        idle = k.own.runs.job ∙ ap (option_map (λ (y : Running). y.job)) t.0;
        new = not-true (has v.begun j) (not_done p i l a v places k a self (Start j) next);
        released = λ batch. far_known v.known j Released
            (done p i l a v places k a self (AwaitReleased j) (x.released batch));
        previous = λ h at. finished_known v.known h (done p i l a v places k a self (Finish h) (x.lane h at));
        idle_after = λ h m. finished_known v.known h (done p i l a v places k a self (AwaitFinished h) (x.idle h m));
        reached = needed p i l a v places k a self j (At 1) x.needs;
      }

  -- with the turn over the buffers
  own_enter : (j c : ℕ) → slice_get (program p a) (places a).done ≡ Some (Apply j c) → (n : ℕ) (bytes : Memory) →
      MayEnter p (takes_turn v n bytes) c
  own_enter j c next n bytes = by_run (runs_after before) refl (turn p i l a v places k a self (Apply j c) next)
    where
      x : AsksApply p before j c (drop ((places a).done + 1) (program p a))
      x = asks p i l a v places k a self (Apply j c) next

      by_run : (r : Option Running) → runs_after before ≡ r → InTurn p (IsRunnerOf p a) (Apply j c) r →
          MayEnter p (takes_turn v n bytes) c
      by_run None at t = absurd t
      by_run (Some y) at t = record {
        filled = n;
        held = refl;
        job = j;
        runs = runs_it y at ∙ ap Some t.0;
        next = ap (slice_get (commands_of p j)) (k.own.runs.counts y at).0 ∙ t.1;
        reached = needed p i l a v places k a self j (stage_of p j c) x.needs;
      }

  -- a job is run where a command is next
  own_runs : (j c : ℕ) → slice_get (program p a) (places a).done ≡ Some (Apply j c) → v.runs ≡ Some j
  own_runs j c next = by_run (runs_after before) refl (turn p i l a v places k a self (Apply j c) next)
    where
      by_run : (r : Option Running) → runs_after before ≡ r → InTurn p (IsRunnerOf p a) (Apply j c) r → v.runs ≡ Some j
      by_run None at t = absurd t
      by_run (Some y) at t = runs_it y at ∙ ap Some t.0

  own_signal : (e : ℕ) → slice_get (program p a) (places a).done ≡ Some (Signal e) → MaySignal p v e
  own_signal e next = by_run (runs_after before) refl (turn p i l a v places k a self (Signal e) next)
    where
      x : AsksSignal p before e (drop ((places a).done + 1) (program p a))
      x = asks p i l a v places k a self (Signal e) next

      o : IsOrderly p
      o = plan_orderly p i l

      by_run : (r : Option Running) → runs_after before ≡ r → InTurn p (IsRunnerOf p a) (Signal e) r → MaySignal p v e
      by_run None at t = absurd t
      by_run (Some y) at t =
          let one = o.well_formed.of_job e x.job (in_whole (signals_of p x.job) x.next.front x.next.back e x.next.whole) in
          let two = o.well_formed.of_job e y.job (get_has (signals_of p y.job) y.signals e t.1) in
          let same : x.job ≡ y.job = same_Some x.job y.job (sym one ∙ two) in
          record {
            job = y.job;
            runs = runs_it y at;
            commands = (k.own.runs.counts y at).0 ∙ t.0;
            next = ap (slice_get (signals_of p y.job)) (k.own.runs.counts y at).1 ∙ t.1;
            reached = needed p i l a v places k a self y.job AtEnd
                (subst (λ (j : ℕ). Waited p before j AtEnd) same x.needs);
          }

  -- nothing is held where the next task is no wait
  own_unheld : (j : ℕ) → slice_get (program p a) (places a).done ≡ Some (Finish j) → v.refs ≡ []
  own_unheld j next =
      let none = none_held p (places a).holding
      (subst (λ (ts : List Task). list_all (is_for p (waited_now ts)) (places a).holding ≡ true)
      (left_is p i l a v places k a self (Finish j) next) k.own.holds.for_needs) in
      of_length v.refs (k.own.holds.count ∙ ap length none)

  own_finish : (j : ℕ) → slice_get (program p a) (places a).done ≡ Some (Finish j) → MayFinish p v j × (j < length p.jobs)
  own_finish j next = by_run (runs_after before) refl (turn p i l a v places k a self (Finish j) next)
    where
      x : AsksFinish p before j
      x = asks p i l a v places k a self (Finish j) next

      by_run : (r : Option Running) → runs_after before ≡ r → InTurn p (IsRunnerOf p a) (Finish j) r →
          MayFinish p v j × (j < length p.jobs)
      by_run None at t = absurd t
      by_run (Some y) at t = (
        record {
          runs = runs_it y at ∙ ap Some t.0;
          commands = (k.own.runs.counts y at).0 ∙ t.1;
          signals = (k.own.runs.counts y at).1 ∙ t.2;
          answered = λ loud. done p i l a v places k a self (Answer j (question p j)) (x.answered loud);
          turnless = k.own.turnless;
          without_reference = own_unheld j next;
          reached = needed p i l a v places k a self j AtEnd x.needs;
        },
        job_exists p a j t.3,
      )

-- For whichever actor it is that the pass serves: the step is its own actor's.
module _ (p : Plan) (i : IsPlan p) (l : IsLawful p) (a : ActorName) (v : View) (places : ActorName → Place)
    (k : AreTrue p a v places) (b : ActorName) (s : Serves p a b) where
  to_own : (t : Task) → slice_get (program p b) (places b).done ≡ Some t → b ≡ a →
      slice_get (program p a) (places a).done ≡ Some t
  to_own t next e = subst (λ (c : ActorName). slice_get (program p c) (places c).done ≡ Some t) e next

  pub own_start_task : (j : ℕ) → slice_get (program p b) (places b).done ≡ Some (Start j) → b ≡ a
  own_start_task j next = runner_own p i l a v places k b s (Start j) next (λ q. refl)

  pub own_apply_task : (j c : ℕ) → slice_get (program p b) (places b).done ≡ Some (Apply j c) → b ≡ a
  own_apply_task j c next = runner_own p i l a v places k b s (Apply j c) next (λ q. refl)

  pub own_signal_task : (e : ℕ) → slice_get (program p b) (places b).done ≡ Some (Signal e) → b ≡ a
  own_signal_task e next = runner_own p i l a v places k b s (Signal e) next (λ q. refl)

  pub own_finish_task : (j : ℕ) → slice_get (program p b) (places b).done ≡ Some (Finish j) → b ≡ a
  own_finish_task j next = runner_own p i l a v places k b s (Finish j) next (λ q. refl)

  pub may_start : (j : ℕ) → slice_get (program p b) (places b).done ≡ Some (Start j) → MayStart p v j
  may_start j next = own_start p i l a v places k j (to_own (Start j) next (own_start_task j next))

  pub may_take_turn : (j c : ℕ) → slice_get (program p b) (places b).done ≡ Some (Apply j c) →
      (v.runs ≡ Some j) × (v.held ≡ None)
  may_take_turn j c next = (own_runs p i l a v places k j c (to_own (Apply j c) next (own_apply_task j c next)), k.own.turnless)

  -- with the turn over the buffers
  pub may_enter : (j c : ℕ) → slice_get (program p b) (places b).done ≡ Some (Apply j c) → (n : ℕ) (bytes : Memory) →
      MayEnter p (takes_turn v n bytes) c
  may_enter j c next n bytes = own_enter p i l a v places k j c (to_own (Apply j c) next (own_apply_task j c next)) n bytes

  pub may_signal : (e : ℕ) → slice_get (program p b) (places b).done ≡ Some (Signal e) → MaySignal p v e
  may_signal e next = own_signal p i l a v places k e (to_own (Signal e) next (own_signal_task e next))

  pub may_finish : (j : ℕ) → slice_get (program p b) (places b).done ≡ Some (Finish j) →
      MayFinish p v j × (j < length p.jobs)
  may_finish j next = own_finish p i l a v places k j (to_own (Finish j) next (own_finish_task j next))
