-- The answers of every run stand in their windows.
use Rattle.std.proofs.Common.{◌≤◌, None, refl, arith, ℕ, List, [], ◌∷◌, fold, Option, ◌≡◌, zero, suc, ◌+◌, Bool, true, false, not, ◌++◌, length, map, filter, Some, is_some, option_map, sym, ap, ◌∙◌, subst, append-nil, add-one, zero-add}
use Rattle.std.proofs.lemmas.Bool.{false≢true, cond-true, cond-false}
use Rattle.vq_model.specs.Plan.{Plan, initial, question, is_silent}
use Rattle.vq_model.specs.Machine.{opening_state, State, Step, after_step, RunFrom, IsFinished, Run, state_after}
use Rattle.vq_run_laws.proofs.Answerings.{Answering, none_told, step_keeps}
use Rattle.vq_model.specs.WellFormed.{IsWellFormed, KeepsHostOrder}
use Rattle.vq_model.specs.SureOrder.{KeepsChains}
use Rattle.vq_model.specs.Outputs.{Answered, AllAllowed, answer_lines, IsOutput}
use Rattle.vq_run_laws.proofs.StateFacts.{Invariant}
use Rattle.vq_run_laws.proofs.KeptRuns.{keep, holds_at_opening}
use Rattle.std.specs.List.{filter_map, cons_option, range_with_len}
use Rattle.std.proofs.lemmas.List.Elements.{filter_map-append}
use Rattle.vq_model.specs.declared.plan.Answer.{Answer}
use Rattle.vq_model.specs.OutputText.{answer_at, answer_text, answers_of, buffers_text}
use Rattle.vq_run_laws.proofs.PairLists.{told_before}
use Rattle.vq_model.specs.SureOrder.{HasSureOrder}
use Rattle.vq_model.specs.SlowRun.{bytes_after}
use Rattle.vq_ground.proofs.Numbers.{range_push}
use Rattle.vq_run_laws.proofs.OneResult.{one_result}

-- Runs

answering_opening : (p : Plan) → Answering p (opening_state p) (λ j. None)
answering_opening p =
    record {
      agrees = λ j. refl;
      named = λ j x t. none_told t refl;
      asking = λ j x t. none_told t refl;
      done = λ j f q. absurd (false≢true f);
      first_done = λ i j st m. absurd (false≢true st);
      earlier_done = λ i j l hi hj st. absurd (false≢true st);
      raised = λ e t m c. absurd (false≢true m);
      above = λ t. let l : initial p t ≤ initial p t = omega arith in l;
      from_start = λ h t st. absurd (false≢true st);
      start_is = λ h t st. absurd (false≢true st);
      low = λ h t m st q l. absurd (false≢true st);
      shown = λ j x e t sh. none_told t refl;
      allowed = λ j x t. none_told t refl;
    }

run_answers : (p : Plan) → IsWellFormed p → KeepsHostOrder p → KeepsChains p → (s : State) (told : ℕ → Option Answered) (xs : List Step) → Invariant p s.progress → Answering p s told → RunFrom p s xs → (told' : ℕ → Option Answered) × Answering p (fold (after_step p) s xs) told'
run_answers p w host ch s told [] k a r = (told, a)
run_answers p w host ch s told (x ∷ xs) k a r =
    let one = step_keeps p w host ch s told k a x r.0 in
    run_answers p w host ch (after_step p s x) one.0 xs (keep p w ch s x k r.0) one.1 r.1

module _ (p : Plan) (s : State) (told : ℕ → Option Answered) (a : Answering p s told) where
  told_push : (n : ℕ) → told_before told (n + 1) ≡ told_before told n ++ cons_option (told n) []
  told_push n =
      ap (told_before told) (add-one n) ∙ (ap (filter_map told) (range_push 0 n) ∙ (filter_map-append told (range_with_len 0 n) ((0 + n) ∷ []) ∙ ap (λ m. told_before told n ++ cons_option (told m) []) (zero-add n)))

  -- each answer is allowed after those before it
  all_allowed : (n b : ℕ) → AllAllowed p (told_before told b) (filter_map told (range_with_len b n))
  all_allowed zero b = tt
  all_allowed (suc n) b = by_first (told b) refl (told_push b) (all_allowed n (b + 1))
    where
      by_first : (o : Option Answered) → told b ≡ o → told_before told (b + 1) ≡ told_before told b ++ cons_option o [] → AllAllowed p (told_before told (b + 1)) (filter_map told (range_with_len (b + 1) n)) → AllAllowed p (told_before told b) (cons_option o (filter_map told (range_with_len (b + 1) n)))
      by_first None e q f = subst (λ zs. AllAllowed p zs (filter_map told (range_with_len (b + 1) n))) (q ∙ append-nil (told_before told b)) f
      by_first (Some x) e q f = (a.allowed b x e, subst (λ zs. AllAllowed p zs (filter_map told (range_with_len (b + 1) n))) q f)

  lines_of_told : (n b : ℕ) → filter_map (λ j. option_map (answer_at p j) (s.answer j)) (range_with_len b n) ≡ answer_lines p (filter_map told (range_with_len b n))
  lines_of_told zero b = refl
  lines_of_told (suc n) b = by_first (told b) refl (lines_of_told n (b + 1))
    where
      by_first : (o : Option Answered) → told b ≡ o → filter_map (λ j. option_map (answer_at p j) (s.answer j)) (range_with_len (b + 1) n) ≡ answer_lines p (filter_map told (range_with_len (b + 1) n)) → cons_option (option_map (answer_at p b) (s.answer b)) (filter_map (λ j. option_map (answer_at p j) (s.answer j)) (range_with_len (b + 1) n)) ≡ answer_lines p (cons_option o (filter_map told (range_with_len (b + 1) n)))
      by_first None e f = ap (λ o. cons_option (option_map (answer_at p b) o) (filter_map (λ j. option_map (answer_at p j) (s.answer j)) (range_with_len (b + 1) n))) (sym (a.agrees b) ∙ ap (option_map (λ y. y.answer)) e) ∙ f
      by_first (Some x) e f =
          ap (λ o. cons_option (option_map (answer_at p b) o) (filter_map (λ j. option_map (answer_at p j) (s.answer j)) (range_with_len (b + 1) n))) (sym (a.agrees b) ∙ ap (option_map (λ y. y.answer)) e)
          ∙ (ap (λ j. answer_at p j x.answer ∷ filter_map (λ j. option_map (answer_at p j) (s.answer j)) (range_with_len (b + 1) n)) (sym (a.named b x e)) ∙ ap (λ zs. answer_at p x.job x.answer ∷ zs) f)

  jobs_told : IsFinished p s → (n b : ℕ) → b + n ≤ length p.jobs → map (λ x. x.job) (filter_map told (range_with_len b n)) ≡ filter (λ j. not (is_silent (question p j))) (range_with_len b n)
  jobs_told f zero b l = refl
  jobs_told f (suc n) b l = by_first (told b) refl (is_silent (question p b)) refl (jobs_told f n (b + 1) (omega arith))
    where
      rest : List ℕ
      rest = filter (λ j. not (is_silent (question p j))) (range_with_len (b + 1) n)

      by_first : (o : Option Answered) → told b ≡ o → (q : Bool) → is_silent (question p b) ≡ q → map (λ x. x.job) (filter_map told (range_with_len (b + 1) n)) ≡ filter (λ j. not (is_silent (question p j))) (range_with_len (b + 1) n) → map (λ x. x.job) (cons_option o (filter_map told (range_with_len (b + 1) n))) ≡ filter (λ j. not (is_silent (question p j))) (b ∷ range_with_len (b + 1) n)
      by_first None e true q r =
          r ∙ sym (cond-false (not (is_silent (question p b))) (b ∷ filter (λ j. not (is_silent (question p j))) (range_with_len (b + 1) n)) (filter (λ j. not (is_silent (question p j))) (range_with_len (b + 1) n)) (ap not q))
      by_first None e false q r = absurd (false≢true (ap (λ (o : Option Answer). is_some o) (sym (ap (option_map (λ y. y.answer)) e) ∙ a.agrees b) ∙ a.done b (f b (omega arith)) q))
      by_first (Some x) e true q r = absurd (false≢true (sym (a.asking b x e).0 ∙ q))
      by_first (Some x) e false q r =
          ap (λ j. j ∷ map (λ y. y.job) (filter_map told (range_with_len (b + 1) n))) (a.named b x e)
          ∙ (ap (λ zs. b ∷ zs) r ∙ sym (cond-true (not (is_silent (question p b))) (b ∷ filter (λ j. not (is_silent (question p j))) (range_with_len (b + 1) n)) (filter (λ j. not (is_silent (question p j))) (range_with_len (b + 1) n)) (ap not q)))

-- the text of a finished run of a lawful plan is one of its outputs
pub run_gives_output : (p : Plan) → IsWellFormed p → KeepsHostOrder p → HasSureOrder p → (steps : List Step) → Run p steps → IsFinished p (state_after p steps) → IsOutput p (answers_of p (state_after p steps) ++ buffers_text p.script.buffers (bytes_after p (state_after p steps).progress.applied))
run_gives_output p w host lawful steps run done =
    let s : State = state_after p steps in
    let r = run_answers p w host lawful.chains (opening_state p) (λ j. None) steps (holds_at_opening p) (answering_opening p) run in
    let told : ℕ → Option Answered = r.0 in
    let a : Answering p s told = r.1 in
    record {
      answers = filter_map told (range_with_len 0 (length p.jobs));
      in_order = jobs_told p s told a done (length p.jobs) 0 (omega arith);
      allowed = all_allowed p s told a (length p.jobs) 0;
      spelled =
          ap (λ zs. answer_text zs ++ buffers_text p.script.buffers (bytes_after p s.progress.applied)) (lines_of_told p s told a (length p.jobs) 0)
          ∙ ap (λ m. answer_text (answer_lines p (filter_map told (range_with_len 0 (length p.jobs)))) ++ buffers_text p.script.buffers m) (one_result p w lawful steps run done);
    }
