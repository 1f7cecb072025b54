-- A run of several hosts comes from a run of the compiled plan: each batch of a thread runs at once as a whole.
use Rattle.std.proofs.Common.{◌≡◌, ℕ, ◌+◌, ◌<◌, ◌≤◌, inl, inr, true, false, ◌||◌, List, [], ◌∷◌, length, Option, Some}
use Rattle.std.proofs.Common.{None, refl, sym, ap, ◌∙◌, subst, arith, not}
use Rattle.std.specs.Prelude.{is_some}
use Rattle.std.specs.List.{slice_get, list_all, filter_map, cons_option}
use Rattle.std.proofs.lemmas.Bool.{false≢true, and_from, cases_Bool}
use Rattle.vq_model.specs.declared.script.Pair.{Pair}
use Rattle.vq_model.specs.declared.script.Script.{Script}
use Rattle.vq_model.specs.Edges.{At, AtEnd, must_finish}
use Rattle.vq_model.specs.Lowering.{plan_of}
use Rattle.vq_model.specs.Machine.{State, Step, StartStep, ApplyStep, SignalStep, FinishStep, AnswerStep, CanStep}
use Rattle.vq_model.specs.Machine.{CanStart, CanFinish, RunFrom, after_step, with_signal, are_reached, put, next}
use Rattle.vq_model.specs.Plan.{Plan, signals_of, is_silent, chain_of, value}
use Rattle.vq_ground.specs.Lists.{has}
use Rattle.vq_model.specs.ScriptOfLines.{script_of}
use Rattle.vq_model.specs.Signals.{all_signals}
use Rattle.vq_ground.proofs.Gets.{get_some, get_within}
use Rattle.vq_ground.proofs.Lists.{list_all_from}
use Rattle.vq_model.proofs.Puts.{put_here, put_there, put_cases, put_keeps}
use Rattle.vq_ground.proofs.Searches.{find_member, find_fails}
use Rattle.vq_blocks.specs.declared.block.ThreadStep.{ThreadStep}
use Rattle.vq_blocks.specs.declared.block.ThreadStep.TheVariants.{Wait, Signal}
use Rattle.vq_blocks.specs.Blocks.{Told}
use Rattle.vq_blocks.specs.HostsMachine.{HostsState, HostsStep, OfRest, OfThread, CanHosts, CanTake, HostsRunFrom}
use Rattle.vq_blocks.specs.HostsMachine.{after_hosts, AreDone}
use Rattle.vq_blocks.specs.HostsRuns.{steps_in_order, signals_in_order, among_hosts}
use Rattle.vq_hosts_laws.proofs.PlainScripts.{plain_script}
use Rattle.vq_hosts_laws.proofs.StepPlaces.{first_of, IsThreadStep, batch_of_place, place_of_batch, step_within}
use Rattle.vq_hosts_laws.proofs.StepPlaces.{next_place}
use Rattle.vq_hosts_laws.proofs.StepSignals.{Steps, signal_place, signal_by}
use Rattle.vq_hosts_laws.proofs.CompiledSignals.{AreFit, step_signal, thread_chain, thread_value}
use Rattle.vq_hosts_laws.proofs.CompiledJobs.{count_plan, thread_commands, thread_question, thread_starts}
use Rattle.vq_hosts_laws.proofs.CompiledJobs.{thread_ends, thread_signals_are, thread_signals}
use Rattle.vq_hosts_laws.proofs.CompiledFinishes.{is_idle_in, must_are}
use Rattle.vq_hosts_laws.proofs.RestSteps.{step_of_rest, start_back, apply_back, signal_back, finish_back}
use Rattle.vq_hosts_laws.proofs.AmongHosts.{among_rest, among_wait, among_start, among_signal, among_finish}
use Rattle.vq_hosts_laws.proofs.AnswersAmong.{hosts_of, KeepsState, answer_same}
use Rattle.vq_hosts_laws.proofs.CompiledRuns.{Seen, seen}

module _ (told : Told) (fit : AreFit (script_of told.rest) told.threads) where
  abbrev script : Script
  script = script_of told.rest

  abbrev plan : Plan
  plan = plan_of (plain_script script told.threads)

  abbrev steps : Steps
  steps = steps_in_order told.threads

  abbrev batches : ℕ
  batches = length (steps_in_order told.threads)

  abbrev signals : ℕ
  signals = length (signals_in_order told.threads)

  abbrev hosts : State → (ℕ → ℕ) → HostsState
  hosts c done = hosts_of batches signals c done

  -- all started batches of threads are finished
  abbrev pub AreSettled : State → Type 0
  AreSettled c = (j : ℕ) → j < batches → c.progress.started j ≡ true → c.progress.finished j ≡ true

  -- from a state on, a run of the compiled plan is seen as these steps
  pub record IsSeenFrom (c : State) (ys : List HostsStep) : Type 0 where
    pub run : List Step
    pub runs : RunFrom plan c run
    pub seen_as : filter_map (among_hosts told.threads) run ≡ ys

  -- one step before a run
  seen_step : (c : State) (x : Step) (y : HostsStep) (ys : List HostsStep) → CanStep plan c x →
      among_hosts told.threads x ≡ Some y → IsSeenFrom (after_step plan c x) ys → IsSeenFrom c (y ∷ ys)
  seen_step c x y ys can is r =
      record {
        run = x ∷ r.run;
        runs = (can, r.runs);
        seen_as = ap (λ o. cons_option o (filter_map (among_hosts told.threads) r.run)) is
            ∙ ap (λ zs. y ∷ zs) r.seen_as;
      }

  unseen_step : (c : State) (x : Step) (ys : List HostsStep) → CanStep plan c x → among_hosts told.threads x ≡ None →
      IsSeenFrom (after_step plan c x) ys → IsSeenFrom c ys
  unseen_step c x ys can is r =
      record {
        run = x ∷ r.run;
        runs = (can, r.runs);
        seen_as = ap (λ o. cons_option o (filter_map (among_hosts told.threads) r.run)) is ∙ r.seen_as;
      }

  -- how runs go on, from each state in which threads are settled
  abbrev GoesOn : List HostsStep → Type 0
  GoesOn ys = (c : State) (done : ℕ → ℕ) → KeepsState told.threads c done → AreSettled c →
      HostsRunFrom told (hosts c done) ys → IsSeenFrom c ys

  module _ (c : State) (done : ℕ → ℕ) (keeps : KeepsState told.threads c done) (settled : AreSettled c) where
    -- a batch is finished where its thread has made its step, and not started where it hasn't
    made_finished : (t i j : ℕ) (step : ThreadStep) → IsThreadStep told.threads t i j step → i < done t →
        c.progress.finished j ≡ true
    made_finished t i j step k l =
        settled j (step_within told.threads t i j step k) (keeps.begun t i j step k (keeps.behind t i j step k l))

    unmade_waits : (t i j : ℕ) (step : ThreadStep) → IsThreadStep told.threads t i j step → done t ≤ i →
        c.progress.started j ≡ false
    unmade_waits t i j step k l = elim (cases_Bool (c.progress.started j)) [
      | inl h ↦ (let f = settled j (step_within told.threads t i j step k) h in
          let a = keeps.ahead t i j step k (keeps.ended t i j step k f) in
          absurd (omega arith))
      | inr h ↦ h
    ]

    unmade_unfinished : (t i j : ℕ) (step : ThreadStep) → IsThreadStep told.threads t i j step → done t ≤ i →
        c.progress.finished j ≡ false
    unmade_unfinished t i j step k l = elim (cases_Bool (c.progress.finished j)) [
      | inl h ↦ (let a = keeps.ahead t i j step k (keeps.ended t i j step k h) in absurd (omega arith))
      | inr h ↦ h
    ]

    -- Steps of the rest

    idle_back : (k : ℕ) → (is_idle_in script k ≡ true → AreDone told.threads done) → (x : ℕ) → x < batches →
        is_idle_in script k ≡ true → c.progress.finished x ≡ true
    idle_back k all x l idle =
        let g = get_some steps x l in
        let p = place_of_batch told.threads g.0.0 x g.0.1 g.1 in
        let d = all idle g.0.0 p.1.steps p.1.of_thread in
        let w = get_within p.1.steps.steps p.0 p.1.line p.1.at_place in
        made_finished g.0.0 p.0 x g.0.1 p.1 (omega arith)

    can_back : (x : Step) → CanHosts told (hosts c done) (OfRest x) → CanStep plan c (step_of_rest batches signals x)
    can_back (StartStep k) a = start_back script told.threads fit c k a.0 (idle_back k a.1)
    can_back (ApplyStep d) a = (batches + a.0, apply_back script told.threads fit c d a.0 a.1)
    can_back (SignalStep e) a = signal_back script told.threads fit c e a
    can_back (FinishStep k) a = finish_back script told.threads fit c k a
    can_back (AnswerStep k b) a =
        record {
          started = a.started;
          unanswered = a.unanswered;
          allowed = answer_same told fit c done keeps k b
              ∙ a.allowed;
        }

    settled_rest : (x : Step) → CanStep plan c (step_of_rest batches signals x) →
        AreSettled (after_step plan c (step_of_rest batches signals x))
    settled_rest (StartStep k) a =
        λ j l h. settled j l (sym (put_there c.progress.started (batches + k) true j (λ e. omega arith)) ∙ h)
    settled_rest (ApplyStep d) a = settled
    settled_rest (SignalStep e) a =
        subst (λ o. AreSettled (record c { progress = with_signal plan c.progress (signals + e) o })) (sym a.in_chain)
        settled
    settled_rest (FinishStep k) a = λ j l h. put_keeps c.progress.finished (batches + k) j (settled j l h)
    settled_rest (AnswerStep k b) a = settled

    rest_goes_on : (x : Step) (ys : List HostsStep) → CanHosts told (hosts c done) (OfRest x) →
        HostsRunFrom told (after_hosts told (hosts c done) (OfRest x)) ys → GoesOn ys → IsSeenFrom c (OfRest x ∷ ys)
    rest_goes_on x ys a r again =
        let can = can_back x a in
        let s = subst (Seen told fit c done (step_of_rest batches signals x)) (among_rest told x)
        (seen told fit c done keeps (step_of_rest batches signals x) can) in
        seen_step c (step_of_rest batches signals x) (OfRest x) ys can (among_rest told x)
        (again (after_step plan c (step_of_rest batches signals x)) done s.2 (settled_rest x can)
        (subst (λ (u : State). HostsRunFrom told (record { rest = u; done = done }) ys) (sym s.1) r))

    -- The batch of a thread's next step

    start_next : (t j : ℕ) (step : ThreadStep) → IsThreadStep told.threads t (done t) j step →
        are_reached plan c.progress.payload j (At 1) ≡ true → CanStart plan c.progress j
    start_next t j step k reached =
        let w = step_within told.threads t (done t) j step k in
        let many = count_plan script told.threads fit in
        record {
          exists = omega arith;
          waiting = unmade_waits t (done t) j step k (let z : done t ≤ done t = omega arith in z);
          ready = and_from (list_all c.progress.finished (must_finish plan j))
              (are_reached plan c.progress.payload j (At 1))
              (list_all_from c.progress.finished (must_finish plan j) each) reached;
        }
      where
        each : (x : ℕ) → has (must_finish plan j) x ≡ true → c.progress.finished x ≡ true
        each x h = let m = must_are script told.threads fit t (done t) j step x k h in made_finished t m.0 x m.1 m.3 m.2

  -- a batch that has done all finishes
  finish_next : (c : State) (t j : ℕ) (step : ThreadStep) → slice_get steps j ≡ Some (t, step) → c.progress.started j
      ≡ true → c.progress.finished j ≡ false →
      list_all c.progress.made (signals_of plan j) ≡ true → are_reached plan c.progress.payload j AtEnd ≡ true →
      CanFinish plan c j
  finish_next c t j step e started unfinished made ready =
      record {
        done = record {
          started = started;
          unfinished = unfinished;
          commands = ap (list_all (has c.progress.applied)) (thread_commands script told.threads fit j (t, step) e);
          signals = made;
          ready = ready;
        };
        answered = ap (λ q. is_silent q || is_some (c.answer j))
            (thread_question script told.threads fit j (t, step) e);
      }

  -- the step of a thread that waits
  wait_goes_on : (c : State) (done : ℕ → ℕ) (keeps : KeepsState told.threads c done) (settled : AreSettled c)
      (t j : ℕ) (pairs : List Pair) → IsThreadStep told.threads t (done t) j (Wait pairs) →
      CanTake (hosts c done) (Wait pairs) → (ys : List HostsStep) →
      HostsRunFrom told (after_hosts told (hosts c done) (OfThread t)) ys → GoesOn ys →
      IsSeenFrom c (OfThread t ∷ ys)
  wait_goes_on c done keeps settled t j pairs k can ys r again =
      seen_step c (StartStep j) (OfThread t) ys first (among_wait told j t pairs here)
      (unseen_step c1 (FinishStep j) ys last (among_finish told j within)
      (again (after_step plan c1 (FinishStep j)) more s2.1 settled2
      (subst (λ (u : State). HostsRunFrom told (record { rest = u; done = more }) ys) (sym (s2.0 ∙ s1.1)) r)))
    where
      here : slice_get steps j ≡ Some (t, Wait pairs)
      here = batch_of_place told.threads t (done t) j (Wait pairs) k

      within : j < batches
      within = step_within told.threads t (done t) j (Wait pairs) k

      more : ℕ → ℕ
      more = put done t (done t + 1)

      c1 : State
      c1 = after_step plan c (StartStep j)

      first : CanStep plan c (StartStep j)
      first = start_next c done keeps settled t j (Wait pairs) k
          (thread_starts script told.threads fit c.progress.payload j t (Wait pairs) here ∙ can)

      s1 : Seen told fit c done (StartStep j) (Some (OfThread t))
      s1 = subst (Seen told fit c done (StartStep j)) (among_wait told j t pairs here)
          (seen told fit c done keeps (StartStep j) first)

      none : (e : ℕ) → has (signals_of plan j) e ≡ true → c.progress.made e ≡ true
      none e h =
          let o = thread_signals_are script told.threads fit j t (Wait pairs) e here h in
          let d : Wait pairs ≡ Signal o.0 = o.1 in
          absurd (cc)

      last : CanStep plan c1 (FinishStep j)
      last =
          finish_next c1 t j (Wait pairs) here (put_here c.progress.started j true)
          (unmade_unfinished c done keeps settled t (done t) j (Wait pairs) k (let z : done t ≤ done t =
          omega arith in z))
          (list_all_from c.progress.made (signals_of plan j) none)
          (thread_ends script told.threads fit c.progress.payload j t (Wait pairs) here ∙ can)

      s2 : Seen told fit c1 more (FinishStep j) None
      s2 = subst (Seen told fit c1 more (FinishStep j)) (among_finish told j within)
          (seen told fit c1 more s1.2 (FinishStep j) last)

      settled2 : AreSettled (after_step plan c1 (FinishStep j))
      settled2 n l h = elim (put_cases c.progress.started j n h) [
        | inl e ↦ subst (λ x. put c.progress.finished j true x ≡ true) (sym e) (put_here c.progress.finished j true)
        | inr e ↦ put_keeps c.progress.finished j n (settled n l e)
      ]

  -- the step of a thread that signals
  signal_goes_on : (c : State) (done : ℕ → ℕ) (keeps : KeepsState told.threads c done) (settled : AreSettled c)
      (t j : ℕ) (pair : Pair) → IsThreadStep told.threads t (done t) j (Signal pair) →
      CanTake (hosts c done) (Signal pair) → (ys : List HostsStep) →
      HostsRunFrom told (after_hosts told (hosts c done) (OfThread t)) ys → GoesOn ys →
      IsSeenFrom c (OfThread t ∷ ys)
  signal_goes_on c done keeps settled t j pair k can ys r again =
      unseen_step c (StartStep j) (OfThread t ∷ ys) first (among_start told j t pair here)
      (seen_step c1 (SignalStep at) (OfThread t) ys second (among_signal told j t pair here)
      (unseen_step c2 (FinishStep j) ys last (among_finish told j within)
      (again (after_step plan c2 (FinishStep j)) more s3.1 settled3
      (subst (λ (u : State). HostsRunFrom told (record { rest = u; done = more }) ys)
      (sym (s3.0 ∙ (s2.1 ∙ ap (λ (u : State). (after_hosts told (record { rest = u; done = done })
      (OfThread t)).rest) s1.0))) r))))
    where
      here : slice_get steps j ≡ Some (t, Signal pair)
      here = batch_of_place told.threads t (done t) j (Signal pair) k

      within : j < batches
      within = step_within told.threads t (done t) j (Signal pair) k

      same : done t ≤ done t
      same = omega arith

      more : ℕ → ℕ
      more = put done t (done t + 1)

      at : ℕ
      at = signal_place steps j

      g : (at < signals) × (slice_get (all_signals (plain_script script told.threads)) at ≡ Some (signal_by j pair))
      g = step_signal script told.threads fit j t pair here

      chain : chain_of plan at ≡ Some pair.semaphore
      chain = thread_chain script told.threads fit at (signal_by j pair) g.1

      sets : value plan at ≡ pair.value
      sets = thread_value script told.threads fit at (signal_by j pair) g.0 g.1

      c1 : State
      c1 = after_step plan c (StartStep j)

      c2 : State
      c2 = after_step plan c1 (SignalStep at)

      first : CanStep plan c (StartStep j)
      first = start_next c done keeps settled t j (Signal pair) k
          (thread_starts script told.threads fit c.progress.payload j t (Signal pair) here)

      s1 : Seen told fit c done (StartStep j) None
      s1 = subst (Seen told fit c done (StartStep j)) (among_start told j t pair here)
          (seen told fit c done keeps (StartStep j) first)

      unfinished : c.progress.finished j ≡ false
      unfinished = unmade_unfinished c done keeps settled t (done t) j (Signal pair) k same

      unmade : c.progress.made at ≡ false
      unmade = elim (cases_Bool (c.progress.made at)) [
        | inl h ↦ (let a = keeps.ahead t (done t) j (Signal pair) k h in absurd (omega arith))
        | inr h ↦ h
      ]

      next_is_this : next c.progress.made (signals_of plan j) ≡ Some at
      next_is_this = by_found (next c.progress.made (signals_of plan j)) refl
        where
          by_found : (o : Option ℕ) → next c.progress.made (signals_of plan j) ≡ o →
              next c.progress.made (signals_of plan j) ≡ Some at
          by_found None h =
              absurd (false≢true (sym (find_fails (λ x. not (c.progress.made x)) (signals_of plan j) at h
              (thread_signals script told.threads fit j t pair here)) ∙ ap not unmade))
          by_found (Some e) h =
              h ∙ ap Some (thread_signals_are script told.threads fit j t (Signal pair) e here
              (find_member (λ x. not (c.progress.made x)) (signals_of plan j) e h)).2

      second : CanStep plan c1 (SignalStep at)
      second =
          record {
            job = j;
            chain = pair.semaphore;
            in_chain = chain;
            started = put_here c.progress.started j true;
            unfinished = unfinished;
            commands = ap (list_all (has c.progress.applied))
                (thread_commands script told.threads fit j (t, Signal pair) here);
            next = next_is_this;
            ready = thread_ends script told.threads fit c.progress.payload j t (Signal pair) here;
            rises = subst (λ v. c.progress.payload pair.semaphore < v) (sym sets) can;
          }

      s2 : Seen told fit c1 done (SignalStep at) (Some (OfThread t))
      s2 = subst (Seen told fit c1 done (SignalStep at)) (among_signal told j t pair here)
          (seen told fit c1 done s1.1 (SignalStep at) second)

      -- the state after the signal
      c2_is : c2 ≡ record c1 { progress = with_signal plan c1.progress at (Some pair.semaphore) }
      c2_is = ap (λ o. record c1 { progress = with_signal plan c1.progress at o }) chain

      each : (e : ℕ) → has (signals_of plan j) e ≡ true → put c.progress.made at true e ≡ true
      each e h =
          ap (put c.progress.made at true) (thread_signals_are script told.threads fit j t (Signal pair) e here h).2
          ∙ put_here c.progress.made at true

      last : CanStep plan c2 (FinishStep j)
      last =
          subst (λ (u : State). CanStep plan u (FinishStep j)) (sym c2_is)
          (finish_next (record c1 { progress = with_signal plan c1.progress at (Some pair.semaphore) }) t j
          (Signal pair) here (put_here c.progress.started j true) unfinished
          (list_all_from (put c.progress.made at true) (signals_of plan j) each)
          (thread_ends script told.threads fit (put c.progress.payload pair.semaphore (value plan at)) j t
          (Signal pair) here))

      s3 : Seen told fit c2 more (FinishStep j) None
      s3 = subst (Seen told fit c2 more (FinishStep j)) (among_finish told j within)
          (seen told fit c2 more s2.2 (FinishStep j) last)

      settled3 : AreSettled (after_step plan c2 (FinishStep j))
      settled3 = subst (λ (u : State). AreSettled (after_step plan u (FinishStep j))) (sym c2_is) each_settled
        where
          each_settled : (n : ℕ) → n < batches → put c.progress.started j true n ≡ true →
              put c.progress.finished j true n ≡ true
          each_settled n l h = elim (put_cases c.progress.started j n h) [
            | inl e ↦ subst (λ x. put c.progress.finished j true x ≡ true) (sym e) (put_here c.progress.finished j true)
            | inr e ↦ put_keeps c.progress.finished j n (settled n l e)
          ]

  -- Runs

  pub hosts_is_seen : (ys : List HostsStep) (c : State) (done : ℕ → ℕ) → KeepsState told.threads c done →
      AreSettled c → HostsRunFrom told (hosts c done) ys → IsSeenFrom c ys
  hosts_is_seen [] c done keeps settled r = record { run = []; runs = tt; seen_as = refl }
  hosts_is_seen (OfRest x ∷ ys) c done keeps settled r =
      rest_goes_on c done keeps settled x ys r.0 r.1 (hosts_is_seen ys)
  hosts_is_seen (OfThread t ∷ ys) c done keeps settled r =
      by_step r.0.line.step (next_place told.threads done t r.0.line r.0.next) r.0.can (hosts_is_seen ys)
    where
      by_step : (step : ThreadStep) → IsThreadStep told.threads t (done t) (first_of told.threads t + done t) step →
          CanTake (hosts c done) step → GoesOn ys → IsSeenFrom c (OfThread t ∷ ys)
      by_step (Wait pairs) k can again = wait_goes_on c done keeps settled t (first_of told.threads t + done t) pairs
          k can ys r.1 again
      by_step (Signal pair) k can again = signal_goes_on c done keeps settled t (first_of told.threads t + done t)
          pair k can ys r.1 again
