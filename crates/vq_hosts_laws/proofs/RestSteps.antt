-- The steps of the rest, among those of a compiled plan.
use Rattle.std.proofs.Common.{◌≡◌, ℕ, ◌+◌, ◌-◌, ◌<◌, ◌≤◌, ◌⊎◌, inl, inr, Bool, true, false, ◌||◌, cond, List, [], ◌∷◌}
use Rattle.std.proofs.Common.{map, length, filter, Option, Some, None, option_map, refl, sym, ap, ◌∙◌, suc, subst}
use Rattle.std.proofs.Common.{arith, not}
use Rattle.std.specs.Prelude.{◌==◌, nat_le, is_some}
use Rattle.std.specs.List.{list_all, list_any, position_or_len}
use Rattle.std.proofs.lemmas.List.Folds.{list_all-map}
use Rattle.std.proofs.lemmas.Bool.{false≢true, cases_lt, and_parts, and_from, ne_eqb}
use Rattle.vq_model.specs.declared.plan.Answer.{Answer}
use Rattle.vq_model.specs.declared.script.Pair.{Pair}
use Rattle.vq_model.specs.declared.script.Script.{Script}
use Rattle.vq_model.specs.Edges.{Stage, At, AtEnd, must_finish, stage_of}
use Rattle.vq_model.specs.Lowering.{plan_of}
use Rattle.vq_model.specs.Machine.{State, Step, StartStep, ApplyStep, SignalStep, FinishStep, AnswerStep, CanStart}
use Rattle.vq_model.specs.Machine.{CanApply, CanSignal, CanFinish, after_step, with_signal, are_reached, is_reached}
use Rattle.vq_model.specs.Machine.{next, put}
use Rattle.vq_model.specs.Plan.{Plan, commands_of, signals_of, is_silent, chain_of, value}
use Rattle.vq_ground.specs.Lists.{has}
use Rattle.vq_ground.proofs.Gets.{get_some}
use Rattle.vq_ground.proofs.Lists.{list_all_has, list_all_from, has_cases}
use Rattle.vq_ground.proofs.Options.{some_of}
use Rattle.vq_ground.proofs.Searches.{find_member}
use Rattle.vq_blocks.specs.declared.block.HostThread.{HostThread}
use Rattle.vq_blocks.specs.declared.block.ThreadStep.{ThreadStep}
use Rattle.vq_blocks.specs.HostsMachine.{with_payload}
use Rattle.vq_blocks.specs.HostsRuns.{steps_in_order, signals_in_order}
use Rattle.vq_hosts_laws.proofs.PlainScripts.{plain_script}
use Rattle.vq_hosts_laws.proofs.CompiledSignals.{AreFit, rest_chain, rest_value, same_shift, step_signal}
use Rattle.vq_hosts_laws.proofs.CompiledJobs.{count_plan, thread_commands, thread_signals_are, rest_needs, rest_any}
use Rattle.vq_hosts_laws.proofs.CompiledJobs.{rest_question, rest_commands, rest_signals}
use Rattle.vq_hosts_laws.proofs.CompiledFinishes.{is_idle_in, rest_must, rest_must_cases}

-- What a state of a compiled plan is for the rest, whose jobs and operations are numbered from these on.
abbrev pub rest_of : ℕ → ℕ → State → State
rest_of batches signals c =
    record {
      progress = record {
        payload = c.progress.payload;
        started = λ k. c.progress.started (batches + k);
        finished = λ k. c.progress.finished (batches + k);
        made = λ e. c.progress.made (signals + e);
        applied = c.progress.applied;
      };
      answer = λ k. c.answer (batches + k);
      at_start = λ k. c.at_start (batches + k);
    }

-- the step of the compiled plan that a step of the rest is
abbrev pub step_of_rest : ℕ → ℕ → Step → Step
step_of_rest batches signals (StartStep k) = StartStep (batches + k)
step_of_rest batches signals (ApplyStep c) = ApplyStep c
step_of_rest batches signals (SignalStep e) = SignalStep (signals + e)
step_of_rest batches signals (FinishStep k) = FinishStep (batches + k)
step_of_rest batches signals (AnswerStep k a) = AnswerStep (batches + k) a

-- Lists and functions

next_shift : (m : ℕ) (made : ℕ → Bool) (xs : List ℕ) → next made (map (λ e. m + e) xs)
    ≡ option_map (λ e. m + e) (next (λ e. made (m + e)) xs)
next_shift m made [] = refl
next_shift m made (x ∷ xs) = by_test (not (made (m + x))) (next_shift m made xs)
  where
    by_test : (b : Bool) → next made (map (λ e. m + e) xs) ≡ option_map (λ e. m + e) (next (λ e. made (m + e)) xs) →
        cond b (Some (m + x)) (next made (map (λ e. m + e) xs))
        ≡ option_map (λ e. m + e) (cond b (Some x) (next (λ e. made (m + e)) xs))
    by_test true i = refl
    by_test false i = i

shifted_above : (m : ℕ) (xs : List ℕ) (e : ℕ) → has (map (λ x. m + x) xs) e ≡ true → m ≤ e
shifted_above m [] e h = absurd (false≢true h)
shifted_above m (x ∷ xs) e h = by_case (has_cases (m + x) (map (λ x. m + x) xs) e h) (shifted_above m xs e)
  where
    by_case : ((m + x ≡ e) ⊎ (has (map (λ x. m + x) xs) e ≡ true)) → (has (map (λ x. m + x) xs) e ≡ true → m ≤ e) →
        m ≤ e
    by_case (inl c) f = omega arith
    by_case (inr c) f = f c

-- what a function gives from a number on
abbrev pub behind : {A : Type 0} → ℕ → (ℕ → A) → ℕ → A
behind m f k = f (m + k)

-- a change at a shifted place
pub put_shifted : {A : Type 0} (m : ℕ) (f : ℕ → A) (at : ℕ) (x : A) → behind m (put f (m + at) x)
    ≡ put (behind m f) at x
put_shifted m f at x = λ i k. cond (same_shift m k at i) x (f (m + k))

-- a change in front is no change behind
pub put_in_front : {A : Type 0} (m : ℕ) (f : ℕ → A) (at : ℕ) (x : A) → at < m → behind m (put f at x) ≡ behind m f
put_in_front m f at x l = λ i k. cond (ne_eqb (m + k) at (λ e. omega arith) i) x (f (m + k))

module _ (s : Script) (threads : List HostThread) (fit : AreFit s threads) where
  abbrev plan : Plan
  plan = plan_of (plain_script s threads)

  abbrev batches : ℕ
  batches = length (steps_in_order threads)

  abbrev signals : ℕ
  signals = length (signals_in_order threads)

  pub rest_reached : (payload : ℕ → ℕ) (k : ℕ) (at : Stage) → are_reached plan payload (batches + k) at
      ≡ are_reached (plan_of s) payload k at
  rest_reached payload k (At m) =
      λ i. cond (rest_any s threads fit k i)
      (list_any (is_reached payload) (filter (λ n. nat_le n.from m) (rest_needs s threads fit k i)))
      (list_all (is_reached payload) (filter (λ n. nat_le n.from m) (rest_needs s threads fit k i)))
  rest_reached payload k AtEnd =
      λ i. cond (rest_any s threads fit k i) (list_any (is_reached payload) (rest_needs s threads fit k i))
      (list_all (is_reached payload) (rest_needs s threads fit k i))

  module _ (c : State) where
    abbrev rest : State
    rest = rest_of batches signals c

    -- a job of the rest starts
    pub start_rest : (k : ℕ) → CanStart plan c.progress (batches + k) → CanStart (plan_of s) rest.progress k
    start_rest k a =
        let exists = a.exists in
        let many = count_plan s threads fit in
        let r = and_parts (list_all c.progress.finished (must_finish plan (batches + k)))
        (are_reached plan c.progress.payload (batches + k) (At 1)) a.ready in
        record {
          exists = omega arith;
          waiting = a.waiting;
          ready = and_from (list_all rest.progress.finished (must_finish (plan_of s) k))
              (are_reached (plan_of s) rest.progress.payload k (At 1))
              (list_all_from rest.progress.finished (must_finish (plan_of s) k)
              (λ y h. list_all_has c.progress.finished (must_finish plan (batches + k)) (batches + y) r.0
              (rest_must s threads fit k y h)))
              (sym (rest_reached c.progress.payload k (At 1)) ∙ r.1);
        }

    pub start_back : (k : ℕ) → CanStart (plan_of s) rest.progress k →
        ((x : ℕ) → x < batches → is_idle_in s k ≡ true → c.progress.finished x ≡ true) →
        CanStart plan c.progress (batches + k)
    start_back k a idle =
        let exists = a.exists in
        let many = count_plan s threads fit in
        let r = and_parts (list_all rest.progress.finished (must_finish (plan_of s) k))
        (are_reached (plan_of s) rest.progress.payload k (At 1)) a.ready in
        record {
          exists = omega arith;
          waiting = a.waiting;
          ready = and_from (list_all c.progress.finished (must_finish plan (batches + k)))
              (are_reached plan c.progress.payload (batches + k) (At 1))
              (list_all_from c.progress.finished (must_finish plan (batches + k))
              (λ x h. each x r.0 (rest_must_cases s threads fit k x h)))
              (rest_reached c.progress.payload k (At 1) ∙ r.1);
        }
      where
        each : (x : ℕ) → list_all rest.progress.finished (must_finish (plan_of s) k) ≡ true →
            ((y : ℕ) × (x ≡ batches + y) × (has (must_finish (plan_of s) k) y ≡ true)) ⊎ ((x < batches)
            × (is_idle_in s k ≡ true)) → c.progress.finished x ≡ true
        each x all (inl o) = ap c.progress.finished o.1
            ∙ list_all_has rest.progress.finished (must_finish (plan_of s) k) o.0 all o.2
        each x all (inr o) = idle x o.0 o.1

    -- the place of a command
    rest_stage : (k d : ℕ) → stage_of plan (batches + k) d ≡ stage_of (plan_of s) k d
    rest_stage k d = ap (λ ds. At (suc (position_or_len (λ x. x == d) ds))) (rest_commands s threads fit k)

    -- a command is applied
    pub apply_rest : (d : ℕ) → (j : ℕ) × CanApply plan c.progress j d → (k : ℕ) × CanApply (plan_of s) rest.progress k d
    apply_rest d a = by_place (cases_lt a.0 batches)
      where
        of_rest : (k : ℕ) → batches + k ≡ a.0 → CanApply (plan_of s) rest.progress k d
        of_rest k z =
            let b = subst (λ j. CanApply plan c.progress j d) (sym z) a.1 in
            record {
              started = b.started;
              unfinished = b.unfinished;
              next = ap (next (has c.progress.applied)) (sym (rest_commands s threads fit k)) ∙ b.next;
              ready = ap (are_reached (plan_of s) c.progress.payload k) (sym (rest_stage k d))
                  ∙ (sym (rest_reached c.progress.payload k (stage_of plan (batches + k) d)) ∙ b.ready);
            }

        by_place : ((a.0 < batches) ⊎ (batches ≤ a.0)) → (k : ℕ) × CanApply (plan_of s) rest.progress k d
        by_place (inl l) =
            let g = get_some (steps_in_order threads) a.0 l in
            let n : None ≡ Some d = ap (next (has c.progress.applied))
            (sym (thread_commands s threads fit a.0 g.0 g.1)) ∙ a.1.next in
            absurd (cc)
        by_place (inr l) = let z : batches + (a.0 - batches) ≡ a.0 =
            omega arith in (a.0 - batches, of_rest (a.0 - batches) z)

    pub apply_back : (d k : ℕ) → CanApply (plan_of s) rest.progress k d → CanApply plan c.progress (batches + k) d
    apply_back d k b =
        record {
          started = b.started;
          unfinished = b.unfinished;
          next = ap (next (has c.progress.applied)) (rest_commands s threads fit k) ∙ b.next;
          ready = rest_reached c.progress.payload k (stage_of plan (batches + k) d)
              ∙ (ap (are_reached (plan_of s) c.progress.payload k) (rest_stage k d) ∙ b.ready);
        }

    -- an operation of the rest is made
    pub signal_rest : (e : ℕ) → CanSignal plan c.progress (signals + e) → CanSignal (plan_of s) rest.progress e
    signal_rest e a = by_place (cases_lt a.job batches)
      where
        of_rest : (k : ℕ) → batches + k ≡ a.job → CanSignal (plan_of s) rest.progress e
        of_rest k z =
            let shifted : option_map (λ x. signals + x) (next rest.progress.made (signals_of (plan_of s) k))
            ≡ Some (signals + e) =
            sym (next_shift signals c.progress.made (signals_of (plan_of s) k))
            ∙ (ap (next c.progress.made) (sym (rest_signals s threads fit k) ∙ ap (signals_of plan) z) ∙ a.next) in
            let o = some_of (λ (x : ℕ). signals + x) (next rest.progress.made (signals_of (plan_of s) k))
            (signals + e) shifted in
            let same = o.2 in
            let w : o.0 ≡ e = omega arith in
            record {
              job = k;
              chain = a.chain;
              in_chain = sym (rest_chain s threads fit e) ∙ a.in_chain;
              started = ap c.progress.started z ∙ a.started;
              unfinished = ap c.progress.finished z ∙ a.unfinished;
              commands = ap (list_all (has c.progress.applied)) (sym (rest_commands s threads fit k)
                  ∙ ap (commands_of plan) z) ∙ a.commands;
              next = o.1 ∙ ap Some w;
              ready = sym (rest_reached c.progress.payload k AtEnd)
                  ∙ (ap (λ j. are_reached plan c.progress.payload j AtEnd) z ∙ a.ready);
              rises = subst (λ v. c.progress.payload a.chain < v) (rest_value s threads fit e) a.rises;
            }

        of_thread : a.job < batches → ⊥
        of_thread l =
            let g = get_some (steps_in_order threads) a.job l in
            let m = find_member (λ x. not (c.progress.made x)) (signals_of plan a.job) (signals + e) a.next in
            let n = thread_signals_are s threads fit a.job g.0.0 g.0.1 (signals + e) g.1 m in
            let w = step_signal s threads fit a.job g.0.0 n.0 (g.1
            ∙ ap {B = Option (ℕ × ThreadStep)} (λ step. Some (g.0.0, step)) n.1) in
            let below = w.0 in
            let at = n.2 in
            omega arith

        by_place : ((a.job < batches) ⊎ (batches ≤ a.job)) → CanSignal (plan_of s) rest.progress e
        by_place (inl l) = absurd (of_thread l)
        by_place (inr l) = let z : batches + (a.job - batches) ≡ a.job = omega arith in of_rest (a.job - batches) z

    pub signal_back : (e : ℕ) → CanSignal (plan_of s) rest.progress e → CanSignal plan c.progress (signals + e)
    signal_back e a =
        record {
          job = batches + a.job;
          chain = a.chain;
          in_chain = rest_chain s threads fit e ∙ a.in_chain;
          started = a.started;
          unfinished = a.unfinished;
          commands = ap (list_all (has c.progress.applied)) (rest_commands s threads fit a.job) ∙ a.commands;
          next = ap (next c.progress.made) (rest_signals s threads fit a.job)
              ∙ (next_shift signals c.progress.made (signals_of (plan_of s) a.job)
              ∙ ap (option_map (λ x. signals + x)) a.next);
          ready = rest_reached c.progress.payload a.job AtEnd ∙ a.ready;
          rises = subst (λ v. c.progress.payload a.chain < v) (sym (rest_value s threads fit e)) a.rises;
        }

    -- an operation of a thread is not made by a job of the rest
    pub signal_thread : (e : ℕ) → e < signals → (a : CanSignal plan c.progress e) → a.job < batches
    signal_thread e l a = by_place (cases_lt a.job batches)
      where
        by_place : ((a.job < batches) ⊎ (batches ≤ a.job)) → a.job < batches
        by_place (inl m) = m
        by_place (inr m) =
            let z : batches + (a.job - batches) ≡ a.job = omega arith in
            let n = find_member (λ x. not (c.progress.made x)) (signals_of plan a.job) e a.next in
            let o = shifted_above signals (signals_of (plan_of s) (a.job - batches)) e
            (ap (λ xs. has xs e) (sym (rest_signals s threads fit (a.job - batches)) ∙ ap (signals_of plan) z)
            ∙ n) in
            absurd (omega arith)

    -- a job of the rest finishes
    rest_made : (k : ℕ) → list_all c.progress.made (signals_of plan (batches + k))
        ≡ list_all rest.progress.made (signals_of (plan_of s) k)
    rest_made k = ap (list_all c.progress.made) (rest_signals s threads fit k)
        ∙ list_all-map c.progress.made (λ e. signals + e) (signals_of (plan_of s) k)

    pub finish_rest : (k : ℕ) → CanFinish plan c (batches + k) → CanFinish (plan_of s) rest k
    finish_rest k a =
        record {
          done = record {
            started = a.done.started;
            unfinished = a.done.unfinished;
            commands = ap (list_all (has c.progress.applied)) (sym (rest_commands s threads fit k)) ∙ a.done.commands;
            signals = sym (rest_made k) ∙ a.done.signals;
            ready = sym (rest_reached c.progress.payload k AtEnd) ∙ a.done.ready;
          };
          answered = ap (λ q. is_silent q || is_some (c.answer (batches + k))) (sym (rest_question s threads fit k))
              ∙ a.answered;
        }

    pub finish_back : (k : ℕ) → CanFinish (plan_of s) rest k → CanFinish plan c (batches + k)
    finish_back k a =
        record {
          done = record {
            started = a.done.started;
            unfinished = a.done.unfinished;
            commands = ap (list_all (has c.progress.applied)) (rest_commands s threads fit k) ∙ a.done.commands;
            signals = rest_made k ∙ a.done.signals;
            ready = rest_reached c.progress.payload k AtEnd ∙ a.done.ready;
          };
          answered = ap (λ q. is_silent q || is_some (c.answer (batches + k))) (rest_question s threads fit k)
              ∙ a.answered;
        }

    -- What steps leave

    -- a step of the rest
    pub after_rest : (x : Step) → rest_of batches signals (after_step plan c (step_of_rest batches signals x))
        ≡ after_step (plan_of s) rest x
    after_rest (StartStep k) =
        λ i. record rest {
          progress = record rest.progress { started = put_shifted batches c.progress.started k true i };
          at_start = put_shifted batches c.at_start k c.progress.payload i;
        }
    after_rest (ApplyStep d) = refl
    after_rest (SignalStep e) =
        ap (λ o. rest_of batches signals (record c { progress = with_signal plan c.progress (signals + e) o }))
        (rest_chain s threads fit e)
        ∙ by_chain (chain_of (plan_of s) e)
      where
        by_chain : (o : Option ℕ) → rest_of batches signals
            (record c { progress = with_signal plan c.progress (signals + e) o })
            ≡ record rest { progress = with_signal (plan_of s) rest.progress e o }
        by_chain None = refl
        by_chain (Some t) =
            λ i. record rest {
              progress = record rest.progress {
                payload = put c.progress.payload t (rest_value s threads fit e i);
                made = put_shifted signals c.progress.made e true i;
              };
            }
    after_rest (FinishStep k) =
        λ i. record rest {
          progress = record rest.progress {
            finished =
                put_shifted batches c.progress.finished k true i;
          };
        }
    after_rest (AnswerStep k a) = λ i. record rest { answer = put_shifted batches c.answer k (Some a) i }

    -- a step of a thread's batch
    pub after_start : (j : ℕ) → j < batches → rest_of batches signals (after_step plan c (StartStep j)) ≡ rest
    after_start j l =
        λ i. record rest {
          progress = record rest.progress { started = put_in_front batches c.progress.started j true l i };
          at_start = put_in_front batches c.at_start j c.progress.payload l i;
        }

    pub after_finish : (j : ℕ) → j < batches → rest_of batches signals (after_step plan c (FinishStep j)) ≡ rest
    after_finish j l = λ i. record rest {
      progress =
          record rest.progress { finished = put_in_front batches c.progress.finished j true l i };
    }

    pub after_answer : (j : ℕ) (a : Answer) → j < batches →
        rest_of batches signals (after_step plan c (AnswerStep j a)) ≡ rest
    after_answer j a l = λ i. record rest { answer = put_in_front batches c.answer j (Some a) l i }

    pub after_signal : (e : ℕ) (pair : Pair) → e < signals → chain_of plan e ≡ Some pair.semaphore → value plan e
        ≡ pair.value → rest_of batches signals (after_step plan c (SignalStep e)) ≡ with_payload rest pair
    after_signal e pair l chain sets =
        ap (λ o. rest_of batches signals (record c { progress = with_signal plan c.progress e o })) chain
        ∙ (λ i. record rest {
          progress = record rest.progress {
            payload = put c.progress.payload pair.semaphore (sets i);
            made = put_in_front signals c.progress.made e true l i;
          };
        })
