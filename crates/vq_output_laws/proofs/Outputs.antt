-- Each output of a plan is the text of a finished run.
use Rattle.std.proofs.Common.{ℕ, Bool, true, false, List, [], ◌∷◌, ◌++◌, ◌+◌, ◌≡◌, ◌<◌, ◌⊎◌, Some, Option, filter, fold, map, not, zero, suc, refl, sym, ap, ◌∙◌, inl, inr, subst, arith, append-nil, length}
use Rattle.std.specs.List.{filter_map, range_with_len}
use Rattle.std.specs.Option.{option_map}
use Rattle.std.proofs.lemmas.Bool.{cond-false, cond-true, false≢true}
use Rattle.std.proofs.lemmas.List.{append_assoc}
use Rattle.vq_ground.specs.Lists.{has}
use Rattle.vq_ground.proofs.Numbers.{has_range, in_range}
use Rattle.vq_model.specs.Plan.{Plan, is_silent, job_of, question}
use Rattle.vq_model.specs.Edges.{must_finish}
use Rattle.vq_model.specs.Machine.{CanStep, IsFinished, Run, RunFrom, State, Step, after_step, opening_state, state_after}
use Rattle.vq_model.specs.Outputs.{AllAllowed, Answered, IsIn, IsOutput, answer_lines}
use Rattle.vq_model.specs.OutputText.{answer_at, answer_text, buffers_text}
use Rattle.vq_model.specs.SlowRun.{bytes_after, final}
use Rattle.vq_model.specs.SureOrder.{HasSureOrder}
use Rattle.vq_model.specs.WellFormed.{IsWellFormed, KeepsHostOrder}
use Rattle.vq_run_laws.proofs.Cited.{holds_at_opening, one_result, same_lines}
use Rattle.vq_output_laws.specs.ToldOutputs.{AnswersWaitsForAny, OutputsAreTold}
use Rattle.vq_output_laws.proofs.Asking.{Told}
use Rattle.vq_output_laws.proofs.Goals.{IsClosed, awaited_job, finishes}
use Rattle.vq_output_laws.proofs.Growing.{Brings, Grows, Path, Sound, brings_each, brings_here, go, is_in, joined, of_in, stay}
use Rattle.vq_output_laws.proofs.Ready.{silent_for_all}
use Rattle.vq_output_laws.proofs.Telling.{passed_by, tells}
use Rattle.vq_output_laws.proofs.Wants.{signaler_exists, signaler_silent}

-- Paths as lists of steps

module _ (p : Plan) where
  run_push : (s : State) (xs : List Step) (x : Step) → RunFrom p s xs → CanStep p (fold (after_step p) s xs) x → RunFrom p s (xs ++ x ∷ [])
  run_push s [] x r c = (c, tt)
  run_push s (y ∷ xs) x r c = (r.0, run_push (after_step p s y) xs x r.1 c)

  fold_push : (s : State) (xs : List Step) (x : Step) → fold (after_step p) s (xs ++ x ∷ []) ≡ after_step p (fold (after_step p) s xs) x
  fold_push s [] x = refl
  fold_push s (y ∷ xs) x = fold_push (after_step p s y) xs x

  steps_on : (s u : State) → Path p s u → (xs : List Step) × RunFrom p s xs × (fold (after_step p) s xs ≡ u)
  steps_on s u stay = ([], tt, refl)
  steps_on s u (go v x a c) =
      let r = steps_on s v a in
      (r.0 ++ x ∷ [], run_push s r.0 x r.1 (subst (λ z. CanStep p z x) (sym r.2) c), fold_push s r.0 x ∙ ap (λ z. after_step p z x) r.2)

module _ (p : Plan) (w : IsWellFormed p) (host : KeepsHostOrder p) (o : HasSureOrder p) (any : AnswersWaitsForAny p) where
  -- All answers

  record Goes (answers : List Answered) (s : State) : Type 0 where
    to : State
    path : Path p s to
    holds : Told p answers (length p.jobs) to

  abbrev asking_from : ℕ → ℕ → List ℕ
  asking_from n b = filter (λ j. not (is_silent (question p j))) (range_with_len b n)

  abbrev Rest : ℕ → Type 0
  Rest n = (b : ℕ) → b + n ≡ length p.jobs → (before answers : List Answered) → map (λ x. x.job) answers ≡ asking_from n b → AllAllowed p before answers → (s : State) → Told p before b s → Goes (before ++ answers) s

  none_left : Rest 0
  none_left b l before [] e a s k = record { to = s; path = stay; holds = subst (λ zs. Told p zs (length p.jobs) s) (sym (append-nil before)) (subst (λ z. Told p before z s) (let q : b ≡ length p.jobs = omega arith in q) k) }
  none_left b l before (x ∷ xs) e a s k = absurd (let c : x.job ∷ map (λ x. x.job) xs ≡ [] = e in cc)

  silent_left : (n : ℕ) → Rest n → (b : ℕ) → b + suc n ≡ length p.jobs → is_silent (question p b) ≡ true → (before answers : List Answered) → map (λ x. x.job) answers ≡ asking_from (suc n) b → AllAllowed p before answers → (s : State) → Told p before b s → Goes (before ++ answers) s
  silent_left n rest b l q before answers e a s k =
      rest (b + 1) (omega arith) before answers (e ∙ cond-false (not (is_silent (question p b))) (b ∷ asking_from n (b + 1)) (asking_from n (b + 1)) (ap not q)) a s (passed_by p w host o any before b s q k)

  asking_left : (n : ℕ) → Rest n → (b : ℕ) → b + suc n ≡ length p.jobs → is_silent (question p b) ≡ false → (before answers : List Answered) → map (λ x. x.job) answers ≡ b ∷ asking_from n (b + 1) → AllAllowed p before answers → (s : State) → Told p before b s → Goes (before ++ answers) s
  asking_left n rest b l q before [] e a s k = absurd (let c : [] ≡ b ∷ asking_from n (b + 1) = e in cc)
  asking_left n rest b l q before (x ∷ xs) e a s k =
      let is : x.job ≡ b = cc in
      let others : map (λ x. x.job) xs ≡ asking_from n (b + 1) = cc in
      let t = tells p w host o any before x s (subst (λ z. Told p before z s) (sym is) k) (omega arith) (subst (λ z. is_silent (question p z) ≡ false) (sym is) q) a.0 in
      let next : Told p (before ++ x ∷ []) (b + 1) t.to = subst (λ z. Told p (before ++ x ∷ []) (z + 1) t.to) is t.holds in
      let r = rest (b + 1) (omega arith) (before ++ x ∷ []) xs others a.1 t.to next in
      record { to = r.to; path = joined p s t.to r.to t.path r.path; holds = subst (λ zs. Told p zs (length p.jobs) r.to) (append_assoc before (x ∷ []) xs) r.holds }

  all_left : (n : ℕ) → Rest n
  all_left zero b l before answers e a s k = none_left b l before answers e a s k
  all_left (suc n) b l before answers e a s k = by_question (is_silent (question p b)) refl (all_left n)
    where
      by_question : (q : Bool) → is_silent (question p b) ≡ q → Rest n → Goes (before ++ answers) s
      by_question true q rest = silent_left n rest b l q before answers e a s k
      by_question false q rest =
          asking_left n rest b l q before answers (e ∙ cond-true (not (is_silent (question p b))) (b ∷ asking_from n (b + 1)) (asking_from n (b + 1)) (ap not q)) a s k

  opening : Told p [] 0 (opening_state p)
  opening =
      record {
        sound = record { facts = holds_at_opening p; raised = λ e t c m. absurd (false≢true m) };
        finished = λ j l q. absurd (let z : ⊥ = omega arith in z);
        waiting = λ j l q. refl;
        unanswered = λ j l. refl;
        silent = λ j q. refl;
        low = λ e j m l q. absurd (false≢true m);
        lines = refl;
      }

  -- All jobs

  module _ (s : State) (answers : List Answered) (k : Told p answers (length p.jobs) s) where
    record AnyJob (j : ℕ) : Type 0 where
      silent : is_silent (question p j) ≡ true
      exists : j < length p.jobs

    abbrev AnyOp : ℕ → Type 0
    AnyOp e = (j : ℕ) × (job_of p e ≡ Some j)

    everything : IsClosed p AnyJob AnyOp s
    everything =
        record {
          silent = λ j m. m.silent;
          for_all = λ j m. silent_for_all p any j m.silent;
          exists = λ j m. m.exists;
          first = λ i j m x. by_question i (before_all i j m x) (is_silent (question p i)) refl;
          awaited = λ r j m x. awaited_job p w o j r x;
          makes = λ e j m q. record { silent = signaler_silent p w host o e j q; exists = signaler_exists p w host o e j q };
          earlier = λ e f j m q r l. (j, r);
        }
      where
        before_all : (i j : ℕ) → AnyJob j → has (must_finish p j) i ≡ true → i < length p.jobs
        before_all i j m x = let l = w.finished_first i j x in let y = m.exists in omega arith

        by_question : (i : ℕ) → i < length p.jobs → (b : Bool) → is_silent (question p i) ≡ b → (s.progress.finished i ≡ true) ⊎ (AnyJob i × ((e : ℕ) → job_of p e ≡ Some i → AnyOp e))
        by_question i l true q = inr (record { silent = q; exists = l }, λ e r. (i, r))
        by_question i l false q = inl (k.finished i l q)

    one_finishes : (j : ℕ) → j < length p.jobs → (u : State) → Sound p u → Grows AnyJob AnyOp s u → Brings p AnyJob AnyOp u (λ v. v.progress.finished j ≡ true)
    one_finishes j l u ku gu = by_question (is_silent (question p j)) refl
      where
        by_question : (b : Bool) → is_silent (question p j) ≡ b → Brings p AnyJob AnyOp u (λ v. v.progress.finished j ≡ true)
        by_question true q = finishes p w o AnyJob AnyOp s everything j (record { silent = q; exists = l }) (λ e r. (j, r)) u ku gu
        by_question false q = brings_here p w o.chains AnyJob AnyOp u (λ v. v.progress.finished j ≡ true) ku (gu.finished j (k.finished j l q))

    all_finish : Brings p AnyJob AnyOp s (λ u. (j : ℕ) → IsIn j (range_with_len 0 (length p.jobs)) → u.progress.finished j ≡ true)
    all_finish =
        brings_each p w o.chains AnyJob AnyOp ℕ (λ j v. v.progress.finished j ≡ true) (λ j a b g h. g.finished j h) (range_with_len 0 (length p.jobs)) s k.sound
        (λ j m u ku gu. one_finishes j (let l = in_range (length p.jobs) 0 j (of_in (range_with_len 0 (length p.jobs)) j m) in omega arith) u ku gu)

  -- The law

  module _ (text : List ℕ) (out : IsOutput p text) where
    record Ends : Type 0 where
      to : State
      path : Path p (opening_state p) to
      finished : IsFinished p to
      lines : filter_map (λ j. option_map (answer_at p j) (to.answer j)) (range_with_len 0 (length p.jobs)) ≡ answer_lines p out.answers

    ends : Ends
    ends =
        let g = all_left (length p.jobs) 0 (omega arith) [] out.answers out.in_order out.allowed (opening_state p) opening in
        let f = all_finish g.to out.answers g.holds in
        record {
          to = f.to;
          path = joined p (opening_state p) g.to f.to g.path f.path;
          finished = λ j l. f.holds j (is_in (range_with_len 0 (length p.jobs)) j (has_range (length p.jobs) 0 j (omega arith) (omega arith)));
          lines =
              same_lines (λ j. option_map (answer_at p j) (f.to.answer j)) (λ j. option_map (answer_at p j) (g.to.answer j)) (length p.jobs) 0 (λ j a l. ap (λ (y : Option _). option_map (answer_at p j) y) (f.grows.answer j))
              ∙ g.holds.lines;
        }

    told_by : (e : Ends) → (steps : List Step) × Run p steps × IsFinished p (state_after p steps) × (text ≡ (answer_text (filter_map (λ j. option_map (answer_at p j) ((state_after p steps).answer j)) (range_with_len 0 (length p.jobs))) ++ buffers_text p.script.buffers (bytes_after p (state_after p steps).progress.applied)))
    told_by e =
        let r = steps_on p (opening_state p) e.to e.path in
        let f : IsFinished p (state_after p r.0) = subst (IsFinished p) (sym r.2) e.finished in (
          r.0,
          r.1,
          f,
          out.spelled
              ∙ (ap (λ zs. answer_text zs ++ buffers_text p.script.buffers (final p)) (sym e.lines ∙ ap (λ (z : State). filter_map (λ j. option_map (answer_at p j) (z.answer j)) (range_with_len 0 (length p.jobs))) (sym r.2))
              ∙ ap (λ m. answer_text (filter_map (λ j. option_map (answer_at p j) ((state_after p r.0).answer j)) (range_with_len 0 (length p.jobs))) ++ buffers_text p.script.buffers m) (sym (one_result p w o r.0 r.1 f))),
        )

  pub outputs_are_told : OutputsAreTold p
  outputs_are_told text out = told_by text out (ends text out)
