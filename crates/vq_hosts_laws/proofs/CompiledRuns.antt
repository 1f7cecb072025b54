-- A run of a compiled plan is one of several hosts.
use Rattle.std.proofs.Common.{◌≡◌, ℕ, ◌+◌, ◌-◌, ◌<◌, ◌≤◌, ◌⊎◌, inl, inr, Bool, true, List, [], ◌∷◌, length, Option}
use Rattle.std.proofs.Common.{Some, None, refl, sym, ap, ◌∙◌, zero, suc, subst, arith, not}
use Rattle.std.specs.List.{slice_get, list_all, filter_map, cons_option}
use Rattle.std.specs.Option.{option_map_or}
use Rattle.std.proofs.lemmas.Bool.{cases_lt, and_parts, not-true}
use Rattle.std.proofs.lemmas.Option.{same_Some}
use Rattle.vq_model.specs.declared.script.Pair.{Pair}
use Rattle.vq_model.specs.declared.script.Script.{Script}
use Rattle.vq_model.specs.Edges.{At, must_finish}
use Rattle.vq_model.specs.Lowering.{plan_of}
use Rattle.vq_model.specs.Machine.{State, Step, StartStep, ApplyStep, SignalStep, FinishStep, AnswerStep, CanStep}
use Rattle.vq_model.specs.Machine.{CanStart, CanSignal, CanFinish, RunFrom, after_step, with_signal, are_reached, put}
use Rattle.vq_model.specs.Plan.{Plan, signals_of}
use Rattle.vq_model.specs.ScriptOfLines.{script_of}
use Rattle.vq_model.specs.Signals.{all_signals}
use Rattle.vq_ground.proofs.Gets.{get_some}
use Rattle.vq_ground.proofs.Lists.{list_all_has}
use Rattle.vq_model.proofs.Puts.{put_there}
use Rattle.vq_ground.proofs.Searches.{find_member, find_passes}
use Rattle.vq_blocks.specs.declared.block.ThreadStep.{ThreadStep}
use Rattle.vq_blocks.specs.declared.block.ThreadStep.TheVariants.{Wait, Signal}
use Rattle.vq_blocks.specs.Blocks.{Told}
use Rattle.vq_blocks.specs.HostsMachine.{HostsState, HostsStep, OfRest, OfThread, CanHosts, CanTake, HostsRunFrom}
use Rattle.vq_blocks.specs.HostsMachine.{after_hosts, after_thread, AreDone}
use Rattle.vq_blocks.specs.HostsRuns.{steps_in_order, signals_in_order, among_hosts}
use Rattle.vq_hosts_laws.proofs.PlainScripts.{plain_script}
use Rattle.vq_hosts_laws.proofs.StepPlaces.{first_of, IsThreadStep, batch_of_place, place_of_batch, step_within}
use Rattle.vq_hosts_laws.proofs.StepPlaces.{step_at, is_next}
use Rattle.vq_hosts_laws.proofs.StepSignals.{Steps, signal_place, signal_by}
use Rattle.vq_hosts_laws.proofs.CompiledSignals.{AreFit, step_signal, thread_chain, thread_value}
use Rattle.vq_hosts_laws.proofs.CompiledJobs.{thread_starts, thread_signals_are, thread_signals}
use Rattle.vq_hosts_laws.proofs.CompiledFinishes.{is_idle_in, must_before, idle_must}
use Rattle.vq_hosts_laws.proofs.RestSteps.{rest_of, step_of_rest, start_rest, apply_rest, signal_rest, signal_thread}
use Rattle.vq_hosts_laws.proofs.RestSteps.{finish_rest, after_rest, after_start, after_finish, after_answer}
use Rattle.vq_hosts_laws.proofs.RestSteps.{after_signal}
use Rattle.vq_hosts_laws.proofs.ThreadKeeps.{has_come, next_is, next_starts, all_before, keeps_still}
use Rattle.vq_hosts_laws.proofs.ThreadSteps.{wait_starts, signal_starts, signal_makes, batch_finishes}
use Rattle.vq_hosts_laws.proofs.AmongHosts.{among_rest, among_wait, among_start, among_signal, among_finish}
use Rattle.vq_hosts_laws.proofs.AmongHosts.{among_answer}
use Rattle.vq_hosts_laws.proofs.AnswersAmong.{hosts_of, KeepsState, answer_same}

module _ (told : Told) (fit : AreFit (script_of told.rest) told.threads) where
  abbrev script : Script
  script = script_of told.rest

  abbrev plan : Plan
  plan = plan_of (plain_script script told.threads)

  abbrev steps : Steps
  steps = steps_in_order told.threads

  abbrev batches : ℕ
  batches = length (steps_in_order told.threads)

  abbrev signals : ℕ
  signals = length (signals_in_order told.threads)

  abbrev hosts : State → (ℕ → ℕ) → HostsState
  hosts c done = hosts_of batches signals c done

  -- A step that several hosts don't see changes nothing of theirs; one that they see may come among them, and leaves
  -- what it leaves there.
  abbrev pub Seen : State → (ℕ → ℕ) → Step → Option HostsStep → Type 0
  Seen c done x None = (rest_of batches signals (after_step plan c x) ≡ rest_of batches signals c)
      × KeepsState told.threads (after_step plan c x) done
  Seen c done x (Some y) =
      CanHosts told (hosts c done) y
      × (rest_of batches signals (after_step plan c x) ≡ (after_hosts told (hosts c done) y).rest)
      × KeepsState told.threads (after_step plan c x) ((after_hosts told (hosts c done) y).done)

  module _ (c : State) (done : ℕ → ℕ) (keeps : KeepsState told.threads c done) where
    abbrev come : ℕ → ThreadStep → Bool
    come j step = has_come steps c.progress.started c.progress.made j step

    -- a job behind those of threads is none of them
    apart : (k j : ℕ) → j < batches → j ≡ batches + k → ⊥
    apart k j l e = omega arith

    -- Steps of threads' batches

    -- a thread makes its next step
    makes_next : (t i j : ℕ) (step : ThreadStep) (k : IsThreadStep told.threads t i j step) → done t ≡ i →
        CanTake (hosts c done) step → CanHosts told (hosts c done) (OfThread t)
    makes_next t i j step k e can =
        record {
          line = k.line;
          next = is_next told.threads done t i j step k e;
          can =
              subst (CanTake (hosts c done)) (sym k.is) can;
        }

    leaves_next : (t i j : ℕ) (step : ThreadStep) (k : IsThreadStep told.threads t i j step) → done t ≡ i →
        (after_hosts told (hosts c done) (OfThread t)).rest ≡ after_thread (rest_of batches signals c) step
    leaves_next t i j step k e =
        ap (λ o. option_map_or (λ x. after_thread (rest_of batches signals c) x.step) o (rest_of batches signals c))
        (is_next told.threads done t i j step k e)
        ∙ ap (after_thread (rest_of batches signals c)) k.is

    -- where a batch may start, the one before it is finished
    last_finished : (t i j : ℕ) (step : ThreadStep) → IsThreadStep told.threads t i j step →
        list_all c.progress.finished (must_finish plan j) ≡ true →
        (m k : ℕ) (other : ThreadStep) → IsThreadStep told.threads t m k other → i ≡ suc m → c.progress.finished k
        ≡ true
    last_finished t i j step k ready m n other o e =
        ap c.progress.finished o.number
        ∙ list_all_has c.progress.finished (must_finish plan j) (first_of told.threads t + m) ready
        (must_before script told.threads fit t m j step (subst (λ x. IsThreadStep told.threads t x j step) e k))

    start_of_thread : (t i j : ℕ) (step : ThreadStep) → IsThreadStep told.threads t i j step →
        CanStart plan c.progress j → Seen c done (StartStep j) (among_hosts told.threads (StartStep j))
    start_of_thread t i j step k a = by_step step k (batch_of_place told.threads t i j step k)
      where
        ready : (list_all c.progress.finished (must_finish plan j) ≡ true)
            × (are_reached plan c.progress.payload j (At 1) ≡ true)
        ready = and_parts (list_all c.progress.finished (must_finish plan j))
            (are_reached plan c.progress.payload j (At 1)) a.ready

        by_step : (step : ThreadStep) → IsThreadStep told.threads t i j step → slice_get steps j ≡ Some (t, step) →
            Seen c done (StartStep j) (among_hosts told.threads (StartStep j))
        by_step (Wait pairs) k e =
            let last = last_finished t i j (Wait pairs) k ready.0 in
            let next = next_starts told.threads c.progress.started c.progress.finished c.progress.made done keeps t i
            j (Wait pairs) k a.waiting last in
            subst (Seen c done (StartStep j)) (sym (among_wait told j t pairs e)) (
              makes_next t i j (Wait pairs) k next
                  (sym (thread_starts script told.threads fit c.progress.payload j t (Wait pairs) e) ∙ ready.1),
              after_start script told.threads fit c j (step_within told.threads t i j (Wait pairs) k)
                  ∙ sym (leaves_next t i j (Wait pairs) k next),
              wait_starts told.threads c.progress.started c.progress.finished c.progress.made done keeps t i j pairs k
                  next (λ m n other o l. all_before told.threads c.progress.started c.progress.finished
                  c.progress.made done keeps t i last m n other o j (Wait pairs) k l),
            )
        by_step (Signal pair) k e =
            let last = last_finished t i j (Signal pair) k ready.0 in
            subst (Seen c done (StartStep j)) (sym (among_start told j t pair e)) (
              after_start script told.threads fit c j (step_within told.threads t i j (Signal pair) k),
              signal_starts told.threads c.progress.started c.progress.finished c.progress.made done keeps t i j pair
                  k (λ m n other o l. all_before told.threads c.progress.started c.progress.finished c.progress.made
                  done keeps t i last m n other o j (Signal pair) k l),
            )

    signal_of_thread : (e : ℕ) → e < signals → CanSignal plan c.progress e →
        Seen c done (SignalStep e) (among_hosts told.threads (SignalStep e))
    signal_of_thread e l a = by_signal is_signal.0 is_signal.1 is_signal.2
      where
        l_job : a.job < batches
        l_job = signal_thread script told.threads fit c e l a

        got : (y : ℕ × ThreadStep) × (slice_get steps a.job ≡ Some y)
        got = get_some steps a.job l_job

        is_signal : (pair : Pair) × (got.0.1 ≡ Signal pair) × (e ≡ signal_place steps a.job)
        is_signal =
            thread_signals_are script told.threads fit a.job got.0.0 got.0.1 e got.1
            (find_member (λ x. not (c.progress.made x)) (signals_of plan a.job) e a.next)

        by_signal : (pair : Pair) → got.0.1 ≡ Signal pair → e ≡ signal_place steps a.job →
            Seen c done (SignalStep e) (among_hosts told.threads (SignalStep e))
        by_signal pair same at =
            let t : ℕ = got.0.0 in
            let here = got.1 ∙ ap {B = Option (ℕ × ThreadStep)} (λ step. Some (t, step)) same in
            let p = place_of_batch told.threads t a.job (Signal pair) here in
            let unmade = not-true (c.progress.made e)
            (find_passes (λ x. not (c.progress.made x)) (signals_of plan a.job) e a.next) in
            let next = next_is told.threads c.progress.started c.progress.finished c.progress.made done keeps t p.0
            a.job (Signal pair) p.1 a.started (ap c.progress.made (sym at) ∙ unmade) in
            let g = step_signal script told.threads fit a.job t pair here in
            let is = ap (slice_get (all_signals (plain_script script told.threads))) at ∙ g.1 in
            let chain = thread_chain script told.threads fit e (signal_by a.job pair) is in
            let sets = thread_value script told.threads fit e (signal_by a.job pair) l is in
            let chains = same_Some a.chain pair.semaphore (sym a.in_chain ∙ chain) in
            let rises = a.rises in
            let payloads = ap c.progress.payload chains in
            let higher : c.progress.payload pair.semaphore < pair.value = omega arith in
            subst (Seen c done (SignalStep e)) (sym (ap (λ n. among_hosts told.threads (SignalStep n)) at
            ∙ among_signal told a.job t pair here)) (
              makes_next t p.0 a.job (Signal pair) p.1 next higher,
              after_signal script told.threads fit c e pair l chain sets
                  ∙ sym (leaves_next t p.0 a.job (Signal pair) p.1 next),
              subst (λ o. KeepsState told.threads (record c { progress = with_signal plan c.progress e o })
                  (put done t (done t + 1))) (sym chain)
                  (subst (λ n. KeepsState told.threads
                  (record c { progress = with_signal plan c.progress n (Some pair.semaphore) })
                  (put done t (done t + 1))) (sym at)
                  (signal_makes told.threads c.progress.started c.progress.finished c.progress.made done keeps t p.0
                  a.job pair p.1 next a.started)),
            )

    finish_of_thread : (j : ℕ) → j < batches → CanFinish plan c j →
        Seen c done (FinishStep j) (among_hosts told.threads (FinishStep j))
    finish_of_thread j l a =
        subst (Seen c done (FinishStep j)) (sym (among_finish told j l))
        (after_finish script told.threads fit c j l, by_step got.0.0 got.0.1 got.1)
      where
        got : (y : ℕ × ThreadStep) × (slice_get steps j ≡ Some y)
        got = get_some steps j l

        comes : (t : ℕ) (step : ThreadStep) → slice_get steps j ≡ Some (t, step) → come j step ≡ true
        comes t (Wait pairs) e = a.done.started
        comes t (Signal pair) e = list_all_has c.progress.made (signals_of plan j) (signal_place steps j)
            a.done.signals (thread_signals script told.threads fit j t pair e)

        by_step : (t : ℕ) (step : ThreadStep) → slice_get steps j ≡ Some (t, step) →
            KeepsState told.threads (after_step plan c (FinishStep j)) done
        by_step t step e =
            let p = place_of_batch told.threads t j step e in
            batch_finishes told.threads c.progress.started c.progress.finished c.progress.made done keeps t p.0 j step
            p.1 (comes t step e)

    -- Steps of the rest

    -- an idle step starts where all threads are done
    idle_done : (k : ℕ) → CanStart plan c.progress (batches + k) → is_idle_in script k ≡ true →
        AreDone told.threads done
    idle_done k a idle t x e = by_length (length x.steps) refl
      where
        ready : list_all c.progress.finished (must_finish plan (batches + k)) ≡ true
        ready = (and_parts (list_all c.progress.finished (must_finish plan (batches + k)))
            (are_reached plan c.progress.payload (batches + k) (At 1)) a.ready).0

        by_length : (n : ℕ) → length x.steps ≡ n → done t ≡ length x.steps
        by_length zero h = let w = keeps.within t x e in omega arith
        by_length (suc m) h =
            let w = keeps.within t x e in
            let f = list_all_has c.progress.finished (must_finish plan (batches + k)) (first_of told.threads t + m)
            ready (idle_must script told.threads fit k t m x idle e h) in
            let o = step_at told.threads t x m e (omega arith) in
            let l = keeps.ahead t m (first_of told.threads t + m) o.0 o.1
            (keeps.ended t m (first_of told.threads t + m) o.0 o.1 f) in
            omega arith

    keeps_rest : (x : Step) → CanStep plan c (step_of_rest batches signals x) →
        KeepsState told.threads (after_step plan c (step_of_rest batches signals x)) done
    keeps_rest (StartStep k) a =
        keeps_still told.threads c.progress.started c.progress.finished c.progress.made done keeps
        (put c.progress.started (batches + k) true) c.progress.finished c.progress.made
        (λ j l. put_there c.progress.started (batches + k) true j (apart k j l)) (λ j l. refl) (λ t i j pair o. refl)
    keeps_rest (ApplyStep d) a = keeps
    keeps_rest (SignalStep e) a =
        subst (λ o. KeepsState told.threads (record c { progress = with_signal plan c.progress (signals + e) o })
        done) (sym a.in_chain)
        (keeps_still told.threads c.progress.started c.progress.finished c.progress.made done keeps c.progress.started
        c.progress.finished (put c.progress.made (signals + e) true)
        (λ j l. refl) (λ j l. refl)
        (λ t i j pair o. put_there c.progress.made (signals + e) true (signal_place steps j)
        (λ z. (let w = (step_signal script told.threads fit j t pair
        (batch_of_place told.threads t i j (Signal pair) o)).0 in omega arith))))
    keeps_rest (FinishStep k) a =
        keeps_still told.threads c.progress.started c.progress.finished c.progress.made done keeps c.progress.started
        (put c.progress.finished (batches + k) true) c.progress.made
        (λ j l. refl) (λ j l. put_there c.progress.finished (batches + k) true j (apart k j l)) (λ t i j pair o. refl)
    keeps_rest (AnswerStep k b) a = keeps

    can_rest : (x : Step) → CanStep plan c (step_of_rest batches signals x) → CanHosts told (hosts c done) (OfRest x)
    can_rest (StartStep k) a = (start_rest script told.threads fit c k a, idle_done k a)
    can_rest (ApplyStep d) a = apply_rest script told.threads fit c d a
    can_rest (SignalStep e) a = signal_rest script told.threads fit c e a
    can_rest (FinishStep k) a = finish_rest script told.threads fit c k a
    can_rest (AnswerStep k b) a =
        record {
          started = a.started;
          unanswered = a.unanswered;
          allowed = sym (answer_same told fit c done keeps k b)
              ∙ a.allowed;
        }

    pub seen_rest : (x : Step) → CanStep plan c (step_of_rest batches signals x) →
        Seen c done (step_of_rest batches signals x) (among_hosts told.threads (step_of_rest batches signals x))
    seen_rest x a =
        subst (Seen c done (step_of_rest batches signals x)) (sym (among_rest told x))
        (can_rest x a, after_rest script told.threads fit c x, keeps_rest x a)

    -- All steps

    pub seen : (x : Step) → CanStep plan c x → Seen c done x (among_hosts told.threads x)
    seen (StartStep j) a = by_place (cases_lt j batches)
      where
        by_place : ((j < batches) ⊎ (batches ≤ j)) → Seen c done (StartStep j) (among_hosts told.threads (StartStep j))
        by_place (inl l) =
            let g = get_some steps j l in
            let p = place_of_batch told.threads g.0.0 j g.0.1 g.1 in
            start_of_thread g.0.0 p.0 j g.0.1 p.1 a
        by_place (inr l) =
            let z : batches + (j - batches) ≡ j = omega arith in
            subst (λ n. Seen c done (StartStep n) (among_hosts told.threads (StartStep n))) z
            (seen_rest (StartStep (j - batches)) (subst (λ n. CanStep plan c (StartStep n)) (sym z) a))
    seen (ApplyStep d) a = seen_rest (ApplyStep d) a
    seen (SignalStep e) a = by_place (cases_lt e signals)
      where
        by_place : ((e < signals) ⊎ (signals ≤ e)) →
            Seen c done (SignalStep e) (among_hosts told.threads (SignalStep e))
        by_place (inl l) = signal_of_thread e l a
        by_place (inr l) =
            let z : signals + (e - signals) ≡ e = omega arith in
            subst (λ n. Seen c done (SignalStep n) (among_hosts told.threads (SignalStep n))) z
            (seen_rest (SignalStep (e - signals)) (subst (λ n. CanStep plan c (SignalStep n)) (sym z) a))
    seen (FinishStep j) a = by_place (cases_lt j batches)
      where
        by_place : ((j < batches) ⊎ (batches ≤ j)) →
            Seen c done (FinishStep j) (among_hosts told.threads (FinishStep j))
        by_place (inl l) = finish_of_thread j l a
        by_place (inr l) =
            let z : batches + (j - batches) ≡ j = omega arith in
            subst (λ n. Seen c done (FinishStep n) (among_hosts told.threads (FinishStep n))) z
            (seen_rest (FinishStep (j - batches)) (subst (λ n. CanStep plan c (FinishStep n)) (sym z) a))
    seen (AnswerStep j b) a = by_place (cases_lt j batches)
      where
        by_place : ((j < batches) ⊎ (batches ≤ j)) →
            Seen c done (AnswerStep j b) (among_hosts told.threads (AnswerStep j b))
        by_place (inl l) = subst (Seen c done (AnswerStep j b)) (sym (among_answer told j b l))
            (after_answer script told.threads fit c j b l, keeps)
        by_place (inr l) =
            let z : batches + (j - batches) ≡ j = omega arith in
            subst (λ n. Seen c done (AnswerStep n b) (among_hosts told.threads (AnswerStep n b))) z
            (seen_rest (AnswerStep (j - batches) b) (subst (λ n. CanStep plan c (AnswerStep n b)) (sym z) a))

  -- Runs

  pub run_is_hosts : (c : State) (done : ℕ → ℕ) → KeepsState told.threads c done → (xs : List Step) →
      RunFrom plan c xs → HostsRunFrom told (hosts c done) (filter_map (among_hosts told.threads) xs)
  run_is_hosts c done keeps [] r = tt
  run_is_hosts c done keeps (x ∷ xs) r = by_seen (among_hosts told.threads x) (seen c done keeps x r.0)
      (λ d k. run_is_hosts (after_step plan c x) d k xs r.1)
    where
      by_seen : (o : Option HostsStep) → Seen c done x o →
          ((d : ℕ → ℕ) → KeepsState told.threads (after_step plan c x) d →
          HostsRunFrom told (hosts (after_step plan c x) d) (filter_map (among_hosts told.threads) xs)) →
          HostsRunFrom told (hosts c done) (cons_option o (filter_map (among_hosts told.threads) xs))
      by_seen None s again = subst (λ (u : State). HostsRunFrom told (record { rest = u; done = done })
          (filter_map (among_hosts told.threads) xs)) s.0 (again done s.1)
      by_seen (Some y) s again = (
        s.0,
        subst (λ (u : State). HostsRunFrom told (record { rest = u; done = (after_hosts told (hosts c done) y).done })
            (filter_map (among_hosts told.threads) xs)) s.1
            (again ((after_hosts told (hosts c done) y).done) s.2),
      )
