-- The slow run, answered by the payloads that the jobs before each step leave, is a run.
use Rattle.std.proofs.Common.{◌≡◌, ◌≢◌, ℕ, zero, suc, ◌+◌, ◌<◌, ◌≤◌, Bool, true, false, not, ◌||◌, ◌&&◌, nat_lt, cond, eqb, List, [], ◌∷◌, ◌++◌, fold, map, filter, length, max, Option, Some, None, is_some, refl, sym, ap, ◌∙◌, ◌⊎◌, inl, inr, subst, arith, append-nil}
use Rattle.std.specs.List.{cons_option, list_all, list_any, filter_map, range_with_len}
use Rattle.std.specs.Option.{option_map, option_map_or}
use Rattle.std.proofs.lemmas.Bool.{and_parts, cases_eq, cond-true, cond-false, false≢true, eq-eqb, not-true, or_right}
use Rattle.std.proofs.lemmas.List.{append_assoc}
use Rattle.vq_model.specs.declared.plan.Answer.{Answer}
use Rattle.vq_model.specs.declared.plan.Answer.TheVariants.{Reached, Timeout, NotReady, Value}
use Rattle.vq_model.specs.declared.plan.Question.{Question}
use Rattle.vq_model.specs.declared.plan.Question.TheVariants.{Silent, Reached as AsksReached, PollAll, PollAny, Fence, Value as AsksValue}
use Rattle.vq_model.specs.Plan.{Plan, asked, chain, chain_of, commands_of, initial, is_silent, question, signals_of, value}
use Rattle.vq_ground.specs.Lists.{has}
use Rattle.vq_model.specs.Machine.{Progress, State, Step, StartStep, ApplyStep, SignalStep, FinishStep, AnswerStep, RunFrom, IsFinished, CanStep, after_progress, after_step, with_signal, are_reached, is_reached, may_answer, can_start, opening_state, put, state_after}
use Rattle.vq_model.specs.ProgressRuns.{ProgressFrom}
use Rattle.vq_model.specs.Edges.{AtEnd}
use Rattle.vq_model.specs.SlowRun.{greatest, is_of, is_ready, payload_after, slow_order}
use Rattle.vq_model.specs.ProgressRuns.{steps_of_jobs}
use Rattle.vq_model.specs.OutputText.{answer_at, answer_text, buffers_text}
use Rattle.vq_model.specs.Outputs.{IsOutput}
use Rattle.vq_model.specs.WellFormed.{IsWellFormed, KeepsHostOrder}
use Rattle.vq_model.specs.SureOrder.{HasSureOrder}
use Rattle.vq_model.specs.SureOrder.{KeepsChains}
use Rattle.vq_ground.proofs.Lists.{has_cases, has_here, has-append_left, has-append_right, pushed}
use Rattle.vq_model.proofs.Puts.{put_here, put_there, put_cases, put_keeps}
use Rattle.vq_run_laws.proofs.Unreached.{greatest_from}
use Rattle.vq_order_laws.proofs.Cited.{ReadyEach, slow_adds, slow_has}
use Rattle.vq_run_laws.specs.SlowAnswers.{AnswersSlowly, AreSlowAnswers, slow_answer}
use Rattle.vq_run_laws.proofs.StateFacts.{Invariant}
use Rattle.vq_run_laws.proofs.KeptRuns.{holds_at_opening, keep_progress, keep_progress_run}
use Rattle.vq_run_laws.proofs.Payloads.{Raised, raised_progress}
use Rattle.vq_run_laws.proofs.SlowSteps.{Slow, numbers, walk}
use Rattle.vq_run_laws.proofs.OneResult.{one_result}
use Rattle.vq_run_laws.proofs.OutputRuns.{run_gives_output}

-- Payloads

among_below : (n x : ℕ) (xs : List ℕ) → has xs x ≡ true → x ≤ greatest n xs
among_below n x [] h = absurd (false≢true h)
among_below n x (y ∷ ys) h = elim (has_cases y ys x h) [
  | inl e ↦
      (let r = greatest_from (max n y) ys in
      let m : y ≤ max n y = max_right n y in
      omega arith)
  | inr m ↦ among_below (max n y) x ys m
]
  where
    max_right : (a b : ℕ) → b ≤ max a b
    max_right a b = search arith

value_among : (p : Plan) (done : List ℕ) (e : ℕ) (es : List ℕ) → has es e ≡ true → is_of p done e ≡ true →
    has (map (value p) (filter (is_of p done) es)) (value p e) ≡ true
value_among p done e [] h i = absurd (false≢true h)
value_among p done e (x ∷ xs) h i =
    by_test (is_of p done x) refl (has_cases x xs e h) (λ m. value_among p done e xs m i)
  where
    by_test : (b : Bool) → is_of p done x ≡ b → (x ≡ e) ⊎ (has xs e ≡ true) →
        (has xs e ≡ true → has (map (value p) (filter (is_of p done) xs)) (value p e) ≡ true) →
        has (map (value p) (cond b (x ∷ filter (is_of p done) xs) (filter (is_of p done) xs))) (value p e) ≡ true
    by_test true q (inl s) rest =
        subst (λ z. has (value p x ∷ map (value p) (filter (is_of p done) xs)) (value p z) ≡ true) s
        (has_here (value p x) (map (value p) (filter (is_of p done) xs)))
    by_test true q (inr m) rest =
        has-append_right (value p x ∷ []) (map (value p) (filter (is_of p done) xs)) (value p e) (rest m)
    by_test false q (inl s) rest = absurd (false≢true (sym q ∙ (ap (is_of p done) s ∙ i)))
    by_test false q (inr m) rest = rest m

-- a job that is ready isn't done
ready_out : (p : Plan) (done : List ℕ) (j : ℕ) → is_ready p done j ≡ true → has done j ≡ false
ready_out p done j h =
    let both = and_parts (not (has done j) && can_start p (has done) (payload_after p done) j)
    (are_reached p (payload_after p done) j AtEnd) h in
    not-true (has done j) (and_parts (not (has done j)) (can_start p (has done) (payload_after p done) j) both.0).0

no_some : (a : Answer) → Some a ≡ None → ⊥
no_some a e = cc

module _ (p : Plan) (w : IsWellFormed p) (ch : KeepsChains p) where
  -- the payloads of a state are those that its done jobs leave
  exact : (done : List ℕ) (s : Progress) → Slow p done s → (t : ℕ) → s.payload t ≡ payload_after p done t
  exact done s k t =
      let low = numbers p w ch done s k t in
      let high : s.payload t ≤ payload_after p done t = at_most in
      omega arith
    where
      at_most : s.payload t ≤ payload_after p done t
      at_most = elim (k.facts.raised t) [
        | inl e ↦ (let l = greatest_from (initial p t) (map (value p) (filter (is_of p done) (chain p t))) in omega arith)
        | inr o ↦
            (let j = k.facts.made_job o.op o.was_made in
            let of : is_of p done o.op ≡ true = ap (λ (x : Option ℕ). option_map_or (has done) x false) j.is ∙ k.started_done j.job j.has_started in
            let m = among_below (initial p t) (value p o.op) (map (value p) (filter (is_of p done) (chain p t)))
            (value_among p done o.op (chain p t) o.in_chain of) in
            let v = o.sets in
            omega arith)
      ]

  -- Steps inside a job

  abbrev IsInner : Step → Type 0
  IsInner (ApplyStep c) = Unit {0}
  IsInner (SignalStep e) = Unit {0}
  IsInner other = ⊥

  abbrev AreInner : List Step → Type 0
  AreInner [] = Unit {0}
  AreInner (x ∷ xs) = IsInner x × AreInner xs

  applies_inner : (cs : List ℕ) → AreInner (map ApplyStep cs)
  applies_inner [] = tt
  applies_inner (c ∷ cs) = (tt, applies_inner cs)

  signals_inner : (es : List ℕ) → AreInner (map SignalStep es)
  signals_inner [] = tt
  signals_inner (e ∷ es) = (tt, signals_inner es)

  both_inner : (xs ys : List Step) → AreInner xs → AreInner ys → AreInner (xs ++ ys)
  both_inner [] ys a b = b
  both_inner (x ∷ xs) ys a b = (a.0, both_inner xs ys a.1 b)

  -- they start and finish nothing
  inner_starts : (x : Step) → IsInner x → (s : Progress) →
      ((after_progress p s x).started ≡ s.started) × ((after_progress p s x).finished ≡ s.finished)
  inner_starts (ApplyStep c) i s = (refl, refl)
  inner_starts (SignalStep e) i s = by_chain (chain_of p e)
    where
      by_chain : (o : Option ℕ) →
          ((with_signal p s e o).started ≡ s.started) × ((with_signal p s e o).finished ≡ s.finished)
      by_chain None = (refl, refl)
      by_chain (Some t) = (refl, refl)
  inner_starts (StartStep j) i s = absurd i
  inner_starts (FinishStep j) i s = absurd i
  inner_starts (AnswerStep j a) i s = absurd i

  all_start : (xs : List Step) → AreInner xs → (s : Progress) →
      ((fold (after_progress p) s xs).started ≡ s.started) × ((fold (after_progress p) s xs).finished ≡ s.finished)
  all_start [] a s = (refl, refl)
  all_start (x ∷ xs) a s =
      let one = inner_starts x a.0 s in
      let rest = all_start xs a.1 (after_progress p s x) in
      (rest.0 ∙ one.0, rest.1 ∙ one.1)

  applies_keep : (cs : List ℕ) (s : Progress) → (fold (after_progress p) s (map ApplyStep cs)).payload ≡ s.payload
  applies_keep [] s = refl
  applies_keep (c ∷ cs) s = applies_keep cs (after_progress p s (ApplyStep c))

  raised_all : (xs : List Step) (s : Progress) → Raised p s.payload s.made → ProgressFrom p s xs →
      Raised p (fold (after_progress p) s xs).payload (fold (after_progress p) s xs).made
  raised_all [] s r g = r
  raised_all (x ∷ xs) s r g = raised_all xs (after_progress p s x) (raised_progress p s x r g.0) g.1

  front_of : (xs ys : List Step) (s : Progress) → ProgressFrom p s (xs ++ ys) → ProgressFrom p s xs
  front_of [] ys s g = tt
  front_of (x ∷ xs) ys s g = (g.0, front_of xs ys (after_progress p s x) g.1)

  back_of : (xs ys : List Step) (s : Progress) → ProgressFrom p s (xs ++ ys) →
      ProgressFrom p (fold (after_progress p) s xs) ys
  back_of [] ys s g = g
  back_of (x ∷ xs) ys s g = back_of xs ys (after_progress p s x) g.1

  -- a state with other progress
  abbrev at_progress : State → Progress → State
  at_progress s q = record s { progress = q }

  -- Answers

  -- what a job may be answered, where its start and now have the payloads of the done jobs
  allowed_at : (done : List ℕ) (j : ℕ) (s : State) → s.progress.payload ≡ payload_after p done →
      s.at_start j ≡ payload_after p done → are_reached p s.progress.payload j AtEnd ≡ true → (q : Question)
      (a : Answer) → slow_answer p done j q ≡ Some a → may_answer p s j q a ≡ true
  allowed_at done j s now start ready Silent a e = absurd (let c : None ≡ Some a = e in cc)
  allowed_at done j s now start ready AsksReached a e =
      let same : Reached ≡ a = cc in subst (λ x. may_answer p s j AsksReached x ≡ true) same ready
  allowed_at done j s now start ready PollAll a e =
      by_test (list_all (is_reached (payload_after p done)) (asked p j)) refl e
    where
      by_test : (b : Bool) → list_all (is_reached (payload_after p done)) (asked p j) ≡ b →
          Some (cond b Reached Timeout) ≡ Some a → may_answer p s j PollAll a ≡ true
      by_test true h i =
          let same : Reached ≡ a = cc in
          subst (λ x. may_answer p s j PollAll x ≡ true) same
          (ap (λ f. list_all (is_reached f) (asked p j)) now ∙ h)
      by_test false h i =
          let same : Timeout ≡ a = cc in
          subst (λ x. may_answer p s j PollAll x ≡ true) same
          (ap (λ f. not (list_all (is_reached f) (asked p j))) start ∙ ap not h)
  allowed_at done j s now start ready PollAny a e =
      by_test (list_any (is_reached (payload_after p done)) (asked p j)) refl e
    where
      by_test : (b : Bool) → list_any (is_reached (payload_after p done)) (asked p j) ≡ b →
          Some (cond b Reached Timeout) ≡ Some a → may_answer p s j PollAny a ≡ true
      by_test true h i =
          let same : Reached ≡ a = cc in
          subst (λ x. may_answer p s j PollAny x ≡ true) same
          (ap (λ f. list_any (is_reached f) (asked p j)) now ∙ h)
      by_test false h i =
          let same : Timeout ≡ a = cc in
          subst (λ x. may_answer p s j PollAny x ≡ true) same
          (ap (λ f. not (list_any (is_reached f) (asked p j))) start ∙ ap not h)
  allowed_at done j s now start ready Fence a e =
      by_test (list_all (is_reached (payload_after p done)) (asked p j)) refl e
    where
      by_test : (b : Bool) → list_all (is_reached (payload_after p done)) (asked p j) ≡ b →
          Some (cond b Reached NotReady) ≡ Some a → may_answer p s j Fence a ≡ true
      by_test true h i =
          let same : Reached ≡ a = cc in
          subst (λ x. may_answer p s j Fence x ≡ true) same
          (ap (λ f. list_all (is_reached f) (asked p j)) now ∙ h)
      by_test false h i =
          let same : NotReady ≡ a = cc in
          subst (λ x. may_answer p s j Fence x ≡ true) same
          (ap (λ f. not (list_all (is_reached f) (asked p j))) start ∙ ap not h)
  allowed_at done j s now start ready (AsksValue t) a e =
      let same : Value (payload_after p done t) ≡ a = cc in
      subst (λ x. may_answer p s j (AsksValue t) x ≡ true) same
      (ap (λ b. b || later) (eq-eqb (payload_after p done t) (s.at_start j t) (ap (λ f. f t) (sym start))))
    where
      later : Bool
      later =
          nat_lt (s.at_start j t) (payload_after p done t)
          && list_any (λ x. s.progress.made x && eqb (value p x) (payload_after p done t)) (chain p t)

  -- Runs

  module _ (host : KeepsHostOrder p) (answers : ℕ → Option Answer) where
    -- a job's answer comes before its end
    abbrev answer_steps : ℕ → Option Answer → List Step
    answer_steps j None = []
    answer_steps j (Some a) = AnswerStep j a ∷ []

    abbrev inner_steps : ℕ → List Step
    inner_steps j = map ApplyStep (commands_of p j) ++ map SignalStep (signals_of p j)

    abbrev answered : List ℕ → List Step
    answered [] = []
    answered (j ∷ js) = StartStep j ∷ (inner_steps j ++ (answer_steps j (answers j) ++ (FinishStep j ∷ answered js)))

    -- where these jobs are done, they have their answers, and no other job has one
    abbrev Told : List ℕ → State → Type 0
    Told done s = (i : ℕ) → s.answer i ≡ cond (has done i) (answers i) None

    -- steps that may come from here on, after which all jobs are finished and answered
    record Good (s : State) (steps : List Step) : Type 0 where
      run : RunFrom p s steps
      finished : IsFinished p (fold (after_step p) s steps)
      told : (i : ℕ) → i < length p.jobs → (fold (after_step p) s steps).answer i ≡ answers i

    good_more : (s : State) (x : Step) (steps : List Step) → CanStep p s x → Good (after_step p s x) steps →
        Good s (x ∷ steps)
    good_more s x steps g r = record { run = (g, r.run); finished = r.finished; told = r.told }

    -- steps inside a job come as they do without answers
    good_inner : (xs : List Step) → AreInner xs → (s : State) (ys zs : List Step) →
        ProgressFrom p s.progress (xs ++ ys) → Good (at_progress s (fold (after_progress p) s.progress xs)) zs →
        Good s (xs ++ zs)
    good_inner [] a s ys zs g r = r
    good_inner (ApplyStep c ∷ xs) a s ys zs g r =
        good_more s (ApplyStep c) (xs ++ zs) g.0
        (good_inner xs a.1 (after_step p s (ApplyStep c)) ys zs g.1 r)
    good_inner (SignalStep e ∷ xs) a s ys zs g r =
        good_more s (SignalStep e) (xs ++ zs) g.0
        (good_inner xs a.1 (after_step p s (SignalStep e)) ys zs g.1 r)
    good_inner (StartStep j ∷ xs) a s ys zs g r = absurd a.0
    good_inner (FinishStep j ∷ xs) a s ys zs g r = absurd a.0
    good_inner (AnswerStep j b ∷ xs) a s ys zs g r = absurd a.0

    -- the answers with one more
    abbrev put_answer : (ℕ → Option Answer) → ℕ → Option Answer → ℕ → Option Answer
    put_answer f j None = f
    put_answer f j (Some a) = put f j (Some a)

    abbrev with_answer : State → ℕ → Option Answer → State
    with_answer s j o = record s { answer = put_answer s.answer j o }

    has_more : (done : List ℕ) (j i : ℕ) → i ≢ j → has (done ++ j ∷ []) i ≡ has done i
    has_more done j i d = by_test (has done i) refl
      where
        by_test : (b : Bool) → has done i ≡ b → has (done ++ j ∷ []) i ≡ has done i
        by_test true e = has-append_left done (j ∷ []) i e ∙ sym e
        by_test false e = by_all (has (done ++ j ∷ []) i) refl
          where
            by_all : (b : Bool) → has (done ++ j ∷ []) i ≡ b → has (done ++ j ∷ []) i ≡ has done i
            by_all false h = h ∙ sym e
            by_all true h = elim (pushed done j i h) [
              | inl m ↦ absurd (false≢true (sym e ∙ m))
              | inr q ↦ absurd (d (sym q))
            ]

    told_more : (done : List ℕ) (j : ℕ) → has done j ≡ false → (s : State) → Told done s →
        Told (done ++ j ∷ []) (with_answer s j (answers j))
    told_more done j out s k i = elim (cases_eq i j) [
      | inl e ↦
          subst (λ z. put_answer s.answer j (answers j) z ≡ cond (has (done ++ j ∷ []) z) (answers z) None) (sym e)
          (here (answers j) refl
          ∙ sym (cond-true (has (done ++ j ∷ []) j) (answers j) None (has-append_right done (j ∷ []) j (has_here j []))))
      | inr d ↦
          there (answers j) d ∙ (k i ∙ ap (λ b. cond b (answers i) None) (sym (has_more done j i d)))
    ]
      where
        here : (o : Option Answer) → answers j ≡ o → put_answer s.answer j o j ≡ o
        here None e = k j ∙ cond-false (has done j) (answers j) None out
        here (Some a) e = put_here s.answer j (Some a)

        there : (o : Option Answer) → i ≢ j → put_answer s.answer j o i ≡ s.answer i
        there None d = refl
        there (Some a) d = put_there s.answer j (Some a) i d

    -- each job of a list is answered as the slow run answers it
    abbrev Right : List ℕ → List ℕ → Type 0
    Right done [] = Unit {0}
    Right done (j ∷ js) = (answers j ≡ slow_answer p done j (question p j)) × Right (done ++ j ∷ []) js

    right : AreSlowAnswers p answers → (rest done : List ℕ) → slow_order p ≡ (done ++ rest) → Right done rest
    right f [] done e = tt
    right f (j ∷ js) done e =
        (f done j js e, right f js (done ++ j ∷ []) (e ∙ sym (append_assoc done (j ∷ []) js)))

    -- only what asks nothing has no answer
    silent_of : (done : List ℕ) (j : ℕ) (q : Question) → slow_answer p done j q ≡ None → is_silent q ≡ true
    silent_of done j Silent e = refl
    silent_of done j AsksReached e = absurd (let c : Some Reached ≡ None = e in cc)
    silent_of done j PollAll e = absurd (no_some _ e)
    silent_of done j PollAny e = absurd (no_some _ e)
    silent_of done j Fence e = absurd (no_some _ e)
    silent_of done j (AsksValue t) e = absurd (no_some _ e)

    asks_of : (done : List ℕ) (j : ℕ) (q : Question) (a : Answer) → slow_answer p done j q ≡ Some a →
        is_silent q ≡ false
    asks_of done j Silent a e = absurd (no_some a (sym e))
    asks_of done j AsksReached a e = refl
    asks_of done j PollAll a e = refl
    asks_of done j PollAny a e = refl
    asks_of done j Fence a e = refl
    asks_of done j (AsksValue t) a e = refl

    -- a job that asks changes no payload
    quiet : (j : ℕ) → signals_of p j ≡ [] → (s : Progress) →
        (fold (after_progress p) s (inner_steps j)).payload ≡ s.payload
    quiet j e s =
        ap (λ es. (fold (after_progress p) s (map ApplyStep (commands_of p j) ++ map SignalStep es)).payload) e
        ∙ (ap (λ xs. (fold (after_progress p) s xs).payload) (append-nil (map ApplyStep (commands_of p j)))
        ∙ applies_keep (commands_of p j) s)

    module _ (done : List ℕ) (j : ℕ) (js : List ℕ) (out : has done j ≡ false) (s : State) (k : Slow p done s.progress)
        (told : Told done s) (now : answers j ≡ slow_answer p done j (question p j)) (more : List Step)
        (g : ProgressFrom p s.progress (StartStep j ∷ (inner_steps j ++ (FinishStep j ∷ more)))) where
      abbrev begun : State
      begun = after_step p s (StartStep j)

      abbrev ended : Progress
      ended = fold (after_progress p) begun.progress (inner_steps j)

      inside : AreInner (inner_steps j)
      inside =
          both_inner (map ApplyStep (commands_of p j)) (map SignalStep (signals_of p j))
          (applies_inner (commands_of p j)) (signals_inner (signals_of p j))

      finish : ProgressFrom p ended (FinishStep j ∷ more)
      finish = back_of (inner_steps j) (FinishStep j ∷ more) begun.progress g.1

      fronts : ProgressFrom p s.progress (StartStep j ∷ inner_steps j)
      fronts = (g.0, front_of (inner_steps j) (FinishStep j ∷ more) begun.progress g.1)

      kept : Invariant p ended
      kept = keep_progress_run p w ch s.progress (StartStep j ∷ inner_steps j) k.facts fronts

      same : ((ended).started ≡ put s.progress.started j true) × ((ended).finished ≡ s.progress.finished)
      same = all_start (inner_steps j) inside begun.progress

      slow_more : Slow p (done ++ j ∷ []) (after_progress p ended (FinishStep j))
      slow_more =
          record {
            facts = keep_progress p w ch ended (FinishStep j) kept finish.0;
            raised = raised_all (StartStep j ∷ inner_steps j) s.progress k.raised fronts;
            finished_done = λ i h. elim (pushed done j i h) [
              | inl m ↦ put_keeps ended.finished j i (ap (λ f. f i) same.1 ∙ k.finished_done i m)
              | inr e ↦ subst (λ z. put ended.finished j true z ≡ true) e (put_here ended.finished j true)
            ];
            started_done = λ i h. elim (put_cases s.progress.started j i (ap (λ f. f i) (sym same.0) ∙ h)) [
              | inl e ↦ subst (λ z. has (done ++ j ∷ []) z ≡ true) (sym e)
                  (has-append_right done (j ∷ []) j (has_here j []))
              | inr o ↦ has-append_left done (j ∷ []) i (k.started_done i o)
            ];
          }

      -- the job's answer is allowed
      can_answer : (a : Answer) → answers j ≡ Some a → CanStep p (at_progress begun ended) (AnswerStep j a)
      can_answer a e =
          let is : slow_answer p done j (question p j) ≡ Some a = sym now ∙ e in
          let none = (host.asks j (asks_of done j (question p j) a is)).1 in
          let here : s.progress.payload ≡ payload_after p done = (λ i t. exact done s.progress k t i) in
          record {
            started = finish.0.started;
            unanswered = ap is_some (told j ∙ cond-false (has done j) (answers j) None out);
            allowed = allowed_at done j (at_progress begun ended) (quiet j none begun.progress ∙ here)
                (put_here s.at_start j s.progress.payload ∙ here) finish.0.ready (question p j) a is;
          }

      -- the job, whole
      job_good : Good (after_step p (with_answer (at_progress begun ended) j (answers j)) (FinishStep j)) (answered js) →
          Good s (answered (j ∷ js))
      job_good rest =
          good_more s (StartStep j) (inner_steps j ++ (answer_steps j (answers j) ++ (FinishStep j ∷ answered js))) g.0
          (good_inner (inner_steps j) inside begun (FinishStep j ∷ more)
          (answer_steps j (answers j) ++ (FinishStep j ∷ answered js)) g.1
          (by_answer (answers j) refl rest))
        where
          by_answer : (o : Option Answer) → answers j ≡ o →
              Good (after_step p (with_answer (at_progress begun ended) j o) (FinishStep j)) (answered js) →
              Good (at_progress begun ended) (answer_steps j o ++ (FinishStep j ∷ answered js))
          by_answer None e r =
              good_more (at_progress begun ended) (FinishStep j) (answered js)
              (record {
                done = finish.0;
                answered = ap (λ b. b || is_some (s.answer j)) (silent_of done j (question p j) (sym now ∙ e));
              }) r
          by_answer (Some a) e r =
              good_more (at_progress begun ended) (AnswerStep j a) (FinishStep j ∷ answered js) (can_answer a e)
              (good_more (with_answer (at_progress begun ended) j (Some a)) (FinishStep j) (answered js)
              (record {
                done = finish.0;
                answered = or_right (is_silent (question p j)) (is_some (put s.answer j (Some a) j))
                    (ap is_some (put_here s.answer j (Some a)));
              }) r)

    answered_run : (rest done : List ℕ) → ReadyEach p done rest →
        ((i : ℕ) → i < length p.jobs → has (done ++ rest) i ≡ true) → Right done rest → (s : State) →
        Slow p done s.progress → Told done s → Good s (answered rest)
    answered_run [] done r all x s k told =
        record {
          run = tt;
          finished = λ i l. k.finished_done i (ap (λ zs. has zs i) (sym (append-nil done)) ∙ all i l);
          told = λ i l. told i
              ∙ cond-true (has done i) (answers i) None (ap (λ zs. has zs i) (sym (append-nil done)) ∙ all i l);
        }
    answered_run (j ∷ js) done r all x s k told =
        let go = (walk p w ch (j ∷ js) done r all s.progress k).0 in
        let more = steps_of_jobs p js in
        let g : ProgressFrom p s.progress (StartStep j ∷ (inner_steps j ++ (FinishStep j ∷ more))) = (
          go.0,
          subst (ProgressFrom p (after_progress p s.progress (StartStep j)))
              (sym (append_assoc (map ApplyStep (commands_of p j)) (map SignalStep (signals_of p j)) (FinishStep j ∷ more))) go.1,
        ) in
        let out = ready_out p done j r.0 in
        job_good done j js out s k told x.0 more g
        (answered_run js (done ++ j ∷ []) r.2 (λ i l. ap (λ zs. has zs i) (append_assoc done (j ∷ []) js) ∙ all i l) x.1
        (after_step p (with_answer (at_progress (after_step p s (StartStep j)) (ended done j js out s k told x.0 more g)) j (answers j)) (FinishStep j))
        (slow_more done j js out s k told x.0 more g)
        (told_more done j out (at_progress (after_step p s (StartStep j)) (ended done j js out s k told x.0 more g)) told))

-- what two functions give on a range
pub same_lines : {X : Type 0} (f g : ℕ → Option X) (n b : ℕ) → ((i : ℕ) → b ≤ i → i < b + n → f i ≡ g i) →
    filter_map f (range_with_len b n) ≡ filter_map g (range_with_len b n)
same_lines f g zero b h = refl
same_lines f g (suc n) b h =
    (λ t. cons_option (h b (omega arith) (omega arith) t) (same_lines f g n (b + 1) (λ i l m. h i (omega arith) (omega arith)) t))

pub answers_slowly : (p : Plan) → IsWellFormed p → KeepsHostOrder p → HasSureOrder p → AnswersSlowly p
answers_slowly p w host o answers f =
    let a = slow_adds p (length p.jobs) [] in
    let g = answered_run p w o.chains host answers a.rest [] a.each
    (λ i l. ap (λ zs. has zs i) (sym a.whole) ∙ slow_has p o.reachable i l) (right p w o.chains host answers f a.rest [] a.whole)
    (opening_state p)
    (record {
      facts = holds_at_opening p;
      raised = λ e t c m. absurd (false≢true m);
      finished_done = λ i h. absurd (false≢true h);
      started_done = λ i h. absurd (false≢true h);
    }) (λ i. refl) in
    let steps = answered p w o.chains host answers a.rest in
    let out = run_gives_output p w host o steps g.run g.finished in
    let lines = same_lines (λ j. option_map (answer_at p j) ((state_after p steps).answer j)) (λ j. option_map (answer_at p j) (answers j)) (length p.jobs) 0
    (λ i l m. ap (option_map (answer_at p i)) (g.told i (omega arith))) in
    let bytes = one_result p w o steps g.run g.finished in
    subst (IsOutput p)
    (λ t. answer_text (lines t) ++ buffers_text p.script.buffers (bytes t)) out
