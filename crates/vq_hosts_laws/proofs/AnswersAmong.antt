-- What a job of the rest may be answered, by the compiled plan and among several hosts.
use Rattle.std.proofs.Common.{◌≡◌, ℕ, ◌+◌, ◌⊎◌, inl, inr, Bool, true, false, ◌&&◌, ◌||◌, List, length, refl, sym, ap}
use Rattle.std.proofs.Common.{◌∙◌, subst, arith, not}
use Rattle.std.specs.Prelude.{◌==◌, nat_lt}
use Rattle.std.specs.List.{list_all, list_any}
use Rattle.std.proofs.lemmas.Bool.{and_parts, and_from, eqb-true, eq-eqb, or_right, or_left}
use Rattle.vq_model.specs.declared.plan.Answer.{Answer}
use Rattle.vq_model.specs.declared.plan.Answer.TheVariants.{Reached, Timeout, NotReady, Value}
use Rattle.vq_model.specs.declared.plan.Question.{Question}
use Rattle.vq_model.specs.declared.plan.Question.TheVariants.{Reached as AsksReached, PollAll, PollAny, Fence}
use Rattle.vq_model.specs.declared.plan.Question.TheVariants.{Value as AsksValue}
use Rattle.vq_model.specs.declared.script.Pair.{Pair}
use Rattle.vq_model.specs.declared.script.Script.{Script}
use Rattle.vq_model.specs.Edges.{AtEnd}
use Rattle.vq_model.specs.Lowering.{plan_of}
use Rattle.vq_model.specs.Machine.{State, may_answer, was_since, is_reached}
use Rattle.vq_model.specs.Plan.{Plan, question, chain, value}
use Rattle.vq_model.specs.ScriptOfLines.{script_of}
use Rattle.vq_model.specs.Signals.{Signaling}
use Rattle.vq_ground.proofs.Bools.{same_tests}
use Rattle.vq_blocks.specs.declared.block.HostThread.{HostThread}
use Rattle.vq_blocks.specs.declared.block.ThreadStep.TheVariants.{Signal}
use Rattle.vq_blocks.specs.Blocks.{Told}
use Rattle.vq_blocks.specs.HostsMachine.{HostsState, was_since_among, may_be_answered, thread_signals}
use Rattle.vq_blocks.specs.HostsRuns.{steps_in_order, signals_in_order}
use Rattle.vq_hosts_laws.proofs.PlainScripts.{plain_script}
use Rattle.vq_hosts_laws.proofs.StepPlaces.{first_of, IsThreadStep, batch_of_place, place_of_batch}
use Rattle.vq_hosts_laws.proofs.StepSignals.{signal_place, signal_by}
use Rattle.vq_hosts_laws.proofs.CompiledSignals.{AreFit, thread_signal, step_signal, thread_value, rest_value}
use Rattle.vq_hosts_laws.proofs.CompiledChains.{IsThreadOp, chain_cases, chain_rest, chain_thread}
use Rattle.vq_hosts_laws.proofs.CompiledJobs.{rest_asked, rest_question}
use Rattle.vq_hosts_laws.proofs.RestSteps.{rest_of, rest_reached}
use Rattle.vq_hosts_laws.proofs.ThreadKeeps.{Keeps}
use Rattle.vq_hosts_laws.proofs.ThreadSignals.{IsMade, made_signal, signal_made}

-- the state among several hosts that a state of a compiled plan is, where threads have made so many steps
abbrev pub hosts_of : ℕ → ℕ → State → (ℕ → ℕ) → HostsState
hosts_of batches signals c done = record { rest = rest_of batches signals c; done = done }

-- what is kept of the threads in a state
abbrev pub KeepsState : List HostThread → State → (ℕ → ℕ) → Type 0
KeepsState threads c done = Keeps threads c.progress.started c.progress.finished c.progress.made done

either_part : (x y r t : Bool) → (x || (y && (r || t))) ≡ ((x || (y && r)) || (y && t))
either_part true y r t = refl
either_part false true r t = refl
either_part false false r t = refl

either_cases : (a b : Bool) → (a || b) ≡ true → (a ≡ true) ⊎ (b ≡ true)
either_cases true b h = inl refl
either_cases false b h = inr h

module _ (told : Told) (fit : AreFit (script_of told.rest) told.threads) where
  abbrev script : Script
  script = script_of told.rest

  abbrev plan : Plan
  plan = plan_of (plain_script script told.threads)

  abbrev batches : ℕ
  batches = length (steps_in_order told.threads)

  abbrev signals : ℕ
  signals = length (signals_in_order told.threads)

  module _ (c : State) (done : ℕ → ℕ) (keeps : KeepsState told.threads c done) where
    -- an operation that was made sets this value
    abbrev sets : ℕ → ℕ → Bool
    sets n e = c.progress.made e && (value plan e == n)

    abbrev sets_rest : ℕ → ℕ → Bool
    sets_rest n e = c.progress.made (signals + e) && (value (plan_of script) e == n)

    -- a signal of a thread sets this value of this timeline
    abbrev is_pair : ℕ → ℕ → Pair → Bool
    is_pair t n pair = (pair.semaphore == t) && (pair.value == n)

    rest_sets : (t n : ℕ) → list_any (λ e. sets n (signals + e)) (chain (plan_of script) t)
        ≡ list_any (sets_rest n) (chain (plan_of script) t)
    rest_sets t n = λ i. list_any (λ e. c.progress.made (signals + e)
        && (rest_value script told.threads fit e i == n)) (chain (plan_of script) t)

    op_is_made : (t n e : ℕ) → IsThreadOp script told.threads fit t e → sets n e ≡ true →
        IsMade told.threads done (is_pair t n)
    op_is_made t n e k h =
        let q = thread_signal script told.threads fit e k.signal k.below k.is in
        let p = place_of_batch told.threads q.thread q.place (Signal q.pair) q.of_step in
        let parts = and_parts (c.progress.made e) (value plan e == n) h in
        let made = ap c.progress.made (sym q.number) ∙ parts.0 in
        let sets_value = eqb-true (value plan e) n parts.1 in
        let v = thread_value script told.threads fit e k.signal k.below k.is in
        let w = ap (λ (x : Signaling). x.value) q.is in
        let y = ap (λ (x : Signaling). x.semaphore) q.is in
        let z = k.of_chain in
        let same_semaphore : q.pair.semaphore ≡ t = omega arith in
        let same_value : q.pair.value ≡ n = omega arith in
        record {
          thread = q.thread;
          place = p.0;
          pair = q.pair;
          step = subst (λ j. IsThreadStep told.threads q.thread p.0 j (Signal q.pair)) p.1.number p.1;
          made = keeps.ahead q.thread p.0 q.place (Signal q.pair) p.1 made;
          passes = and_from (q.pair.semaphore == t) (q.pair.value == n) (eq-eqb q.pair.semaphore t same_semaphore)
              (eq-eqb q.pair.value n same_value);
        }

    made_is_op : (t n : ℕ) → IsMade told.threads done (is_pair t n) → (e : ℕ) × IsThreadOp script told.threads fit t e
        × (sets n e ≡ true)
    made_is_op t n k =
        let j : ℕ = first_of told.threads k.thread + k.place in
        let made = keeps.behind k.thread k.place j (Signal k.pair) k.step k.made in
        let g = step_signal script told.threads fit j k.thread k.pair
        (batch_of_place told.threads k.thread k.place j (Signal k.pair) k.step) in
        let parts = and_parts (k.pair.semaphore == t) (k.pair.value == n) k.passes in
        let v = thread_value script told.threads fit (signal_place (steps_in_order told.threads) j)
        (signal_by j k.pair) g.0 g.1 in
        let w = eqb-true k.pair.value n parts.1 in (
          signal_place (steps_in_order told.threads) j,
          record { below = g.0; signal = signal_by j k.pair; is = g.1; of_chain = eqb-true k.pair.semaphore t parts.0 },
          and_from (c.progress.made (signal_place (steps_in_order told.threads) j))
              (value plan (signal_place (steps_in_order told.threads) j) == n) made
              (eq-eqb (value plan (signal_place (steps_in_order told.threads) j)) n (v ∙ w)),
        )

    chain_parts : (t n : ℕ) → list_any (sets n) (chain plan t) ≡ (list_any (sets_rest n) (chain (plan_of script) t)
        || list_any (is_pair t n) (thread_signals told.threads done))
    chain_parts t n =
        same_tests (list_any (sets n) (chain plan t)) (list_any (sets_rest n) (chain (plan_of script) t)
        || list_any (is_pair t n) (thread_signals told.threads done)) on back
      where
        on : list_any (sets n) (chain plan t) ≡ true →
            (list_any (sets_rest n) (chain (plan_of script) t)
            || list_any (is_pair t n) (thread_signals told.threads done)) ≡ true
        on h = elim (chain_cases script told.threads fit (sets n) t h) [
          | inl a ↦ or_left (list_any (sets_rest n) (chain (plan_of script) t))
              (list_any (is_pair t n) (thread_signals told.threads done)) (sym (rest_sets t n) ∙ a)
          | inr a ↦ or_right (list_any (sets_rest n) (chain (plan_of script) t))
              (list_any (is_pair t n) (thread_signals told.threads done))
              (signal_made told.threads done (is_pair t n) (op_is_made t n a.0 a.1 a.2))
        ]

        back : (list_any (sets_rest n) (chain (plan_of script) t)
            || list_any (is_pair t n) (thread_signals told.threads done)) ≡ true → list_any (sets n) (chain plan t)
            ≡ true
        back h = elim (either_cases (list_any (sets_rest n) (chain (plan_of script) t))
            (list_any (is_pair t n) (thread_signals told.threads done)) h) [
              | inl a ↦ chain_rest script told.threads fit (sets n) t (rest_sets t n ∙ a)
              | inr a ↦ (let o = made_is_op t n (made_signal told.threads done (is_pair t n) a) in chain_thread script
                  told.threads fit (sets n) t o.0 o.1 o.2)
            ]

    since_same : (k t n : ℕ) → was_since plan c (batches + k) t n
        ≡ was_since_among told (hosts_of batches signals c done) k t n
    since_same k t n =
        ap (λ b. (n == c.at_start (batches + k) t) || (nat_lt (c.at_start (batches + k) t) n && b)) (chain_parts t n)
        ∙ either_part (n == c.at_start (batches + k) t) (nat_lt (c.at_start (batches + k) t) n)
        (list_any (sets_rest n) (chain (plan_of script) t))
        (list_any (is_pair t n) (thread_signals told.threads done))

    by_question : (k : ℕ) (q : Question) (a : Answer) → may_answer plan c (batches + k) q a
        ≡ may_be_answered told (hosts_of batches signals c done) k q a
    by_question k AsksReached Reached = rest_reached script told.threads fit c.progress.payload k AtEnd
    by_question k PollAll Reached = ap (list_all (is_reached c.progress.payload)) (rest_asked script told.threads fit k)
    by_question k PollAny Reached = ap (list_any (is_reached c.progress.payload)) (rest_asked script told.threads fit k)
    by_question k Fence Reached = ap (list_all (is_reached c.progress.payload)) (rest_asked script told.threads fit k)
    by_question k PollAll Timeout = ap (λ ns. not (list_all (is_reached (c.at_start (batches + k))) ns))
        (rest_asked script told.threads fit k)
    by_question k PollAny Timeout = ap (λ ns. not (list_any (is_reached (c.at_start (batches + k))) ns))
        (rest_asked script told.threads fit k)
    by_question k Fence NotReady = ap (λ ns. not (list_all (is_reached (c.at_start (batches + k))) ns))
        (rest_asked script told.threads fit k)
    by_question k (AsksValue t) (Value n) = since_same k t n
    by_question k q a = refl

    -- A job of the rest may be answered the same.
    pub answer_same : (k : ℕ) (a : Answer) → may_answer plan c (batches + k) (question plan (batches + k)) a
        ≡ may_be_answered told (hosts_of batches signals c done) k (question (plan_of script) k) a
    answer_same k a =
        ap (λ q. may_answer plan c (batches + k) q a) (rest_question script told.threads fit k)
        ∙ by_question k (question (plan_of script) k) a
