-- Scripts that are the same but for the numbers of their lines have plans with the same runs.
use Rattle.std.proofs.Common.{◌≡◌, ℕ, ◌<◌, Bool, true, false, ◌&&◌, ◌||◌, cond, List, [], ◌∷◌, ◌++◌, map, length}
use Rattle.std.proofs.Common.{filter, Option, Some, None, option_map, refl, sym, ap, ◌∙◌, suc, subst, not}
use Rattle.std.specs.Prelude.{nat_le, nat_lt, ◌==◌, is_some}
use Rattle.std.specs.List.{slice_get, list_all, list_any, position_or_len}
use Rattle.std.specs.Option.{option_map_or, option_to_list}
use Rattle.std.proofs.lemmas.List.{length-map}
use Rattle.vq_model.specs.declared.plan.Answer.{Answer}
use Rattle.vq_model.specs.declared.plan.Answer.TheVariants.{Reached, Timeout, NotReady, Value}
use Rattle.vq_model.specs.declared.plan.Need.{Need}
use Rattle.vq_model.specs.declared.plan.Op.{Op}
use Rattle.vq_model.specs.declared.plan.PlanJob.{PlanJob}
use Rattle.vq_model.specs.declared.plan.Question.{Question}
use Rattle.vq_model.specs.declared.plan.Question.TheVariants.{Silent, Reached as AsksReached, PollAll, PollAny, Fence}
use Rattle.vq_model.specs.declared.plan.Question.TheVariants.{Value as AsksValue}
use Rattle.vq_model.specs.declared.script.Script.{Script}
use Rattle.vq_model.specs.Edges.{Stage, At, AtEnd, needs_at, stage_of, must_finish}
use Rattle.vq_model.specs.Lowering.{plan_of}
use Rattle.vq_model.specs.Machine.{State, Step, StartStep, ApplyStep, SignalStep, FinishStep, AnswerStep, Run}
use Rattle.vq_model.specs.Machine.{RunFrom, CanStep, after_step, with_signal, opening_state, can_start, are_reached}
use Rattle.vq_model.specs.Machine.{is_reached, may_answer, was_since, next}
use Rattle.vq_model.specs.Plan.{Plan, of_job, needs, asked, waits_for_any, commands_of, signals_of, question}
use Rattle.vq_ground.specs.Lists.{has}
use Rattle.vq_model.specs.Plan.{is_silent, chain, chain_of, value, initial}
use Rattle.vq_model.specs.SameScript.{SameButLines}
use Rattle.vq_ground.proofs.Gets.{get-map}
use Rattle.vq_hosts_laws.proofs.SameLines.{need_without_line, op_without_line, plan_job_without_lines}
use Rattle.vq_hosts_laws.proofs.SameLines.{plan_without_lines, same_plan}

-- Two plans agree in what their runs depend on.
pub record AreAlike (p q : Plan) : Type 0 where
  pub jobs : length p.jobs ≡ length q.jobs
  pub starts : (f : ℕ → Bool) (payload : ℕ → ℕ) (j : ℕ) → can_start p f payload j ≡ can_start q f payload j
  pub reached : (payload : ℕ → ℕ) (j : ℕ) (k : Stage) → are_reached p payload j k ≡ are_reached q payload j k
  pub commands : (j : ℕ) → commands_of p j ≡ commands_of q j
  pub signals : (j : ℕ) → signals_of p j ≡ signals_of q j
  pub questions : (j : ℕ) → question p j ≡ question q j
  pub answers : (s : State) (j : ℕ) (x : Question) (a : Answer) → may_answer p s j x a ≡ may_answer q s j x a
  pub chains : (e : ℕ) → chain_of p e ≡ chain_of q e
  pub values : (e : ℕ) → value p e ≡ value q e
  pub opening : (t : ℕ) → initial p t ≡ initial q t

alike_back : (p q : Plan) → AreAlike p q → AreAlike q p
alike_back p q k =
    record {
      jobs = sym k.jobs;
      starts = λ f payload j. sym (k.starts f payload j);
      reached = λ payload j x. sym (k.reached payload j x);
      commands = λ j. sym (k.commands j);
      signals = λ j. sym (k.signals j);
      questions = λ j. sym (k.questions j);
      answers = λ s j x a. sym (k.answers s j x a);
      chains = λ e. sym (k.chains e);
      values = λ e. sym (k.values e);
      opening = λ t. sym (k.opening t);
    }

module _ (p q : Plan) (k : AreAlike p q) where
  step_alike : (s : State) (x : Step) → CanStep p s x → CanStep q s x
  step_alike s (StartStep j) c =
      record {
        exists = subst (λ n. j < n) k.jobs c.exists;
        waiting = c.waiting;
        ready =
            sym (k.starts s.progress.finished s.progress.payload j) ∙ c.ready;
      }
  step_alike s (ApplyStep d) c =
      let j = c.0 in (
        j,
        record {
          started = c.1.started;
          unfinished = c.1.unfinished;
          next = ap (next (has s.progress.applied)) (sym (k.commands j)) ∙ c.1.next;
          ready = ap (λ ds. are_reached q s.progress.payload j (At (suc (position_or_len (λ x. x == d) ds))))
              (sym (k.commands j))
              ∙ (sym (k.reached s.progress.payload j (stage_of p j d)) ∙ c.1.ready);
        },
      )
  step_alike s (SignalStep e) c =
      record {
        job = c.job;
        chain = c.chain;
        in_chain = sym (k.chains e) ∙ c.in_chain;
        started = c.started;
        unfinished = c.unfinished;
        commands = ap (list_all (has s.progress.applied)) (sym (k.commands c.job)) ∙ c.commands;
        next = ap (next s.progress.made) (sym (k.signals c.job)) ∙ c.next;
        ready = sym (k.reached s.progress.payload c.job AtEnd) ∙ c.ready;
        rises = subst (λ n. s.progress.payload c.chain < n) (k.values e) c.rises;
      }
  step_alike s (FinishStep j) c =
      record {
        done = record {
          started = c.done.started;
          unfinished = c.done.unfinished;
          commands = ap (list_all (has s.progress.applied)) (sym (k.commands j)) ∙ c.done.commands;
          signals = ap (list_all s.progress.made) (sym (k.signals j)) ∙ c.done.signals;
          ready = sym (k.reached s.progress.payload j AtEnd) ∙ c.done.ready;
        };
        answered = ap (λ x. is_silent x || is_some (s.answer j)) (sym (k.questions j)) ∙ c.answered;
      }
  step_alike s (AnswerStep j a) c =
      record {
        started = c.started;
        unanswered = c.unanswered;
        allowed = ap (λ x. may_answer q s j x a) (sym (k.questions j))
            ∙ (sym (k.answers s j (question p j) a) ∙ c.allowed);
      }

  after_alike : (s : State) (x : Step) → after_step p s x ≡ after_step q s x
  after_alike s (StartStep j) = refl
  after_alike s (ApplyStep c) = refl
  after_alike s (SignalStep e) =
      ap (λ o. record s { progress = with_signal p s.progress e o }) (k.chains e) ∙ by_chain (chain_of q e)
    where
      by_chain : (o : Option ℕ) → record s { progress = with_signal p s.progress e o }
          ≡ record s { progress = with_signal q s.progress e o }
      by_chain None = refl
      by_chain (Some t) =
          ap (λ (v : ℕ). record s {
            progress =
                record s.progress {
                  payload = λ x. cond (x == t) v (s.progress.payload x);
                  made =
                      λ x. cond (x == e) true (s.progress.made x);
                };
          }) (k.values e)
  after_alike s (FinishStep j) = refl
  after_alike s (AnswerStep j a) = refl

  run_alike : (s : State) (xs : List Step) → RunFrom p s xs → RunFrom q s xs
  run_alike s [] r = r
  run_alike s (x ∷ xs) r =
      (step_alike s x r.0, subst (λ u. RunFrom q u xs) (after_alike s x) (run_alike (after_step p s x) xs r.1))

  run_from_opening : (xs : List Step) → Run p xs → Run q xs
  run_from_opening xs r = subst (λ u. RunFrom q u xs) same_opening (run_alike (opening_state p) xs r)
    where
      same_opening : opening_state p ≡ opening_state q
      same_opening =
          let same : initial p ≡ initial q = λ i t. k.opening t i in
          ap (λ (f : ℕ → ℕ). record (opening_state p) {
            progress =
                record (opening_state p).progress { payload = f };
          }) same

-- Lists of needs, without their lines

reached_from : (payload : ℕ → ℕ) (i : ℕ) (ns : List Need) →
    list_all (is_reached payload) (filter (λ n. nat_le n.from i) (map need_without_line ns))
    ≡ list_all (is_reached payload) (filter (λ n. nat_le n.from i) ns)
reached_from payload i [] = refl
reached_from payload i (n ∷ ns) = by_test (nat_le n.from i) (reached_from payload i ns)
  where
    by_test : (b : Bool) → list_all (is_reached payload) (filter (λ n. nat_le n.from i) (map need_without_line ns))
        ≡ list_all (is_reached payload) (filter (λ n. nat_le n.from i) ns) →
        list_all (is_reached payload) (cond b (need_without_line n ∷ filter (λ n. nat_le n.from i)
        (map need_without_line ns)) (filter (λ n. nat_le n.from i) (map need_without_line ns)))
        ≡ list_all (is_reached payload)
        (cond b (n ∷ filter (λ n. nat_le n.from i) ns) (filter (λ n. nat_le n.from i) ns))
    by_test true e = ap (λ b. is_reached payload n && b) e
    by_test false e = e

reached_all : (payload : ℕ → ℕ) (ns : List Need) → list_all (is_reached payload) (map need_without_line ns)
    ≡ list_all (is_reached payload) ns
reached_all payload [] = refl
reached_all payload (n ∷ ns) = ap (λ b. is_reached payload n && b) (reached_all payload ns)

any_from : (payload : ℕ → ℕ) (i : ℕ) (ns : List Need) →
    list_any (is_reached payload) (filter (λ n. nat_le n.from i) (map need_without_line ns))
    ≡ list_any (is_reached payload) (filter (λ n. nat_le n.from i) ns)
any_from payload i [] = refl
any_from payload i (n ∷ ns) = by_test (nat_le n.from i) (any_from payload i ns)
  where
    by_test : (b : Bool) → list_any (is_reached payload) (filter (λ n. nat_le n.from i) (map need_without_line ns))
        ≡ list_any (is_reached payload) (filter (λ n. nat_le n.from i) ns) →
        list_any (is_reached payload) (cond b (need_without_line n ∷ filter (λ n. nat_le n.from i)
        (map need_without_line ns)) (filter (λ n. nat_le n.from i) (map need_without_line ns)))
        ≡ list_any (is_reached payload)
        (cond b (n ∷ filter (λ n. nat_le n.from i) ns) (filter (λ n. nat_le n.from i) ns))
    by_test true e = ap (λ b. is_reached payload n || b) e
    by_test false e = e

any_all : (payload : ℕ → ℕ) (ns : List Need) → list_any (is_reached payload) (map need_without_line ns)
    ≡ list_any (is_reached payload) ns
any_all payload [] = refl
any_all payload (n ∷ ns) = ap (λ b. is_reached payload n || b) (any_all payload ns)

-- A plan without the numbers of its lines

module _ (p : Plan) where
  abbrev bare : Plan
  bare = plan_without_lines p

  same_part : {B : Type 0} (part : PlanJob → B) (none : B) →
      ((x : PlanJob) → part (plan_job_without_lines x) ≡ part x) → (j : ℕ) → of_job part none bare j
      ≡ of_job part none p j
  same_part part none same j = ap (λ o. option_map_or part o none) (get-map plan_job_without_lines p.jobs j)
      ∙ by_get (slice_get p.jobs j)
    where
      by_get : (o : Option PlanJob) → option_map_or part (option_map plan_job_without_lines o) none
          ≡ option_map_or part o none
      by_get None = refl
      by_get (Some x) = same x

  -- a list of needs
  bare_needs : (part : PlanJob → List Need) →
      ((x : PlanJob) → part (plan_job_without_lines x) ≡ map need_without_line (part x)) →
      (j : ℕ) → of_job part [] bare j ≡ map need_without_line (of_job part [] p j)
  bare_needs part same j = ap (λ o. option_map_or part o []) (get-map plan_job_without_lines p.jobs j)
      ∙ by_get (slice_get p.jobs j)
    where
      by_get : (o : Option PlanJob) → option_map_or part (option_map plan_job_without_lines o) []
          ≡ map need_without_line (option_map_or part o [])
      by_get None = refl
      by_get (Some x) = same x

  same_reached : (payload : ℕ → ℕ) (j : ℕ) (k : Stage) → are_reached bare payload j k ≡ are_reached p payload j k
  same_reached payload j (At i) =
      ap (λ b. cond b (list_any (is_reached payload) (needs_at bare j (At i)))
      (list_all (is_reached payload) (needs_at bare j (At i)))) (same_part (λ x. x.any) false (λ x. refl) j)
      ∙ (ap (λ ns. cond (waits_for_any p j) (list_any (is_reached payload) (filter (λ n. nat_le n.from i) ns))
      (list_all (is_reached payload) (filter (λ n. nat_le n.from i) ns))) (bare_needs (λ x. x.needs) (λ x. refl) j)
      ∙ (ap (λ b. cond (waits_for_any p j) b
      (list_all (is_reached payload) (filter (λ n. nat_le n.from i) (map need_without_line (needs p j)))))
      (any_from payload i (needs p j))
      ∙ ap (λ b. cond (waits_for_any p j) (list_any (is_reached payload) (needs_at p j (At i))) b)
      (reached_from payload i (needs p j))))
  same_reached payload j AtEnd =
      ap (λ b. cond b (list_any (is_reached payload) (needs bare j)) (list_all (is_reached payload) (needs bare j)))
      (same_part (λ x. x.any) false (λ x. refl) j)
      ∙ (ap (λ ns. cond (waits_for_any p j) (list_any (is_reached payload) ns) (list_all (is_reached payload) ns))
      (bare_needs (λ x. x.needs) (λ x. refl) j)
      ∙ (ap (λ b. cond (waits_for_any p j) b (list_all (is_reached payload) (map need_without_line (needs p j))))
      (any_all payload (needs p j))
      ∙ ap (λ b. cond (waits_for_any p j) (list_any (is_reached payload) (needs p j)) b)
      (reached_all payload (needs p j))))

  same_finish : (j : ℕ) → must_finish bare j ≡ must_finish p j
  same_finish j =
      λ i. option_to_list (same_part (λ x. x.previous) None (λ x. refl) j i)
      ++ option_to_list (same_part (λ x. x.host_before) None (λ x. refl) j i)
      ++ same_part (λ x. x.idle_after) [] (λ x. refl) j i

  same_op_part : {B : Type 0} (part : Op → B) (none : B) → ((x : Op) → part (op_without_line x) ≡ part x) →
      (e : ℕ) → option_map_or part (slice_get bare.ops e) none ≡ option_map_or part (slice_get p.ops e) none
  same_op_part part none same e = ap (λ o. option_map_or part o none) (get-map op_without_line p.ops e)
      ∙ by_get (slice_get p.ops e)
    where
      by_get : (o : Option Op) → option_map_or part (option_map op_without_line o) none ≡ option_map_or part o none
      by_get None = refl
      by_get (Some x) = same x

  same_chain_of : (e : ℕ) → chain_of bare e ≡ chain_of p e
  same_chain_of e = ap (option_map (λ o. o.chain)) (get-map op_without_line p.ops e) ∙ by_get (slice_get p.ops e)
    where
      by_get : (o : Option Op) → option_map (λ x. x.chain) (option_map op_without_line o) ≡ option_map (λ x. x.chain) o
      by_get None = refl
      by_get (Some x) = refl

  same_value : (e : ℕ) → value bare e ≡ value p e
  same_value e = same_op_part (λ o. o.value) 0 (λ x. refl) e

  same_asked_all : (payload : ℕ → ℕ) (j : ℕ) → list_all (is_reached payload) (asked bare j)
      ≡ list_all (is_reached payload) (asked p j)
  same_asked_all payload j = ap (list_all (is_reached payload)) (bare_needs (λ x. x.asked) (λ x. refl) j)
      ∙ reached_all payload (asked p j)

  same_asked_any : (payload : ℕ → ℕ) (j : ℕ) → list_any (is_reached payload) (asked bare j)
      ≡ list_any (is_reached payload) (asked p j)
  same_asked_any payload j = ap (list_any (is_reached payload)) (bare_needs (λ x. x.asked) (λ x. refl) j)
      ∙ any_all payload (asked p j)

  same_since : (s : State) (j t n : ℕ) → was_since bare s j t n ≡ was_since p s j t n
  same_since s j t n =
      let values_same : value bare ≡ value p = λ i e. same_value e i in
      ap (λ (f : ℕ → ℕ). (n == s.at_start j t)
      || (nat_lt (s.at_start j t) n && list_any (λ e. s.progress.made e && (f e == n)) (chain p t))) values_same

  same_answers : (s : State) (j : ℕ) (x : Question) (a : Answer) → may_answer bare s j x a ≡ may_answer p s j x a
  same_answers s j AsksReached Reached = same_reached s.progress.payload j AtEnd
  same_answers s j PollAll Reached = same_asked_all s.progress.payload j
  same_answers s j PollAny Reached = same_asked_any s.progress.payload j
  same_answers s j Fence Reached = same_asked_all s.progress.payload j
  same_answers s j PollAll Timeout = ap not (same_asked_all (s.at_start j) j)
  same_answers s j PollAny Timeout = ap not (same_asked_any (s.at_start j) j)
  same_answers s j Fence NotReady = ap not (same_asked_all (s.at_start j) j)
  same_answers s j (AsksValue t) (Value n) = same_since s j t n
  same_answers s j x a = refl

  bare_alike : AreAlike bare p
  bare_alike =
      record {
        jobs = length-map p.jobs plan_job_without_lines;
        starts = λ f payload j. (λ i. list_all f (same_finish j i) && same_reached payload j (At 1) i);
        reached = same_reached;
        commands = same_part (λ x. x.commands) [] (λ x. refl);
        signals = same_part (λ x. x.signals) [] (λ x. refl);
        questions = same_part (λ x. x.question) Silent (λ x. refl);
        answers = same_answers;
        chains = same_chain_of;
        values = same_value;
        opening = λ t. refl;
      }

-- Scripts that are the same but for lines have the same runs.
pub same_runs : (a b : Script) → SameButLines a b → (xs : List Step) → Run (plan_of a) xs → Run (plan_of b) xs
same_runs a b same xs r =
    run_from_opening (plan_without_lines (plan_of b)) (plan_of b) (bare_alike (plan_of b)) xs
    (subst (λ q. Run q xs) plans
    (run_from_opening (plan_of a) (plan_without_lines (plan_of a))
    (alike_back (plan_without_lines (plan_of a)) (plan_of a) (bare_alike (plan_of a))) xs r))
  where
    plans : plan_without_lines (plan_of a) ≡ plan_without_lines (plan_of b)
    plans = sym (same_plan a) ∙ (ap plan_of same ∙ same_plan b)
