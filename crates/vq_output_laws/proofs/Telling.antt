-- A host step that asks is answered and finished, and one that doesn't is passed by.
use Rattle.std.proofs.Common.{ℕ, Bool, true, false, List, [], ◌∷◌, ◌++◌, ◌+◌, ◌≡◌, ◌≤◌, ◌<◌, ◌⊎◌, Some, Option, is_some, refl, sym, ap, ◌∙◌, inl, inr, subst, arith, append-nil, length}
use Rattle.std.specs.List.{cons_option, filter_map, list_all, range_with_len}
use Rattle.std.specs.Option.{option_map, option_map_or}
use Rattle.std.proofs.lemmas.Bool.{cases_eq, cases_lt, false≢true, or_right}
use Rattle.std.proofs.lemmas.List.{map-append}
use Rattle.std.proofs.lemmas.List.Elements.{filter_map-append}
use Rattle.std.proofs.lemmas.Option.{slice_get_past}
use Rattle.vq_ground.specs.Lists.{has}
use Rattle.vq_ground.proofs.Lists.{list_all_from}
use Rattle.vq_ground.proofs.Numbers.{range_more}
use Rattle.vq_model.specs.declared.plan.Answer.{Answer}
use Rattle.vq_model.specs.declared.plan.AnswerLine.{AnswerLine}
use Rattle.vq_model.specs.Plan.{Plan, commands_of, is_host_lane, is_host_step, is_silent, question}
use Rattle.vq_model.specs.Edges.{AtEnd}
use Rattle.vq_model.specs.Machine.{AnswerStep, CanStep, FinishStep, StartStep, State, after_step, put}
use Rattle.vq_model.specs.Outputs.{Allowed, Answered, IsIn, Shows, answer_lines, here, there}
use Rattle.vq_model.specs.OutputText.{answer_at}
use Rattle.vq_model.specs.Sure.{IsSure}
use Rattle.vq_model.specs.SureOrder.{HasSureOrder}
use Rattle.vq_model.specs.WellFormed.{IsWellFormed, KeepsHostOrder}
use Rattle.vq_model.specs.Windows.{IsMadeWith}
use Rattle.vq_model.proofs.Puts.{put_cases, put_here, put_keeps, put_there}
use Rattle.vq_order_laws.proofs.Cited.{are_reached_still, sure_for_later}
use Rattle.vq_run_laws.proofs.Cited.{same_lines}
use Rattle.vq_output_laws.specs.ToldOutputs.{AnswersWaitsForAny}
use Rattle.vq_output_laws.proofs.Asking.{CanTell, Carried, IsReadyFor, MakeFirst, MakeNext, RunFirst, RunNext, Told, begins, begun, first, told_now}
use Rattle.vq_output_laws.proofs.Growing.{Sound, Grows, Path, go, joined, sound_step}
use Rattle.vq_output_laws.proofs.Wants.{for_shown, for_step}

-- Lists

in_front : {A : Type 0} (x : A) (xs ys : List A) → IsIn x xs → IsIn x (xs ++ ys)
in_front x [] ys i = elim i [ ]
in_front x (y ∷ xs) ys here = here
in_front x (y ∷ xs) ys (there i) = there (in_front x xs ys i)

in_last : {A : Type 0} (x : A) (xs : List A) → IsIn x (xs ++ x ∷ [])
in_last x [] = here
in_last x (y ∷ xs) = there (in_last x xs)

-- a carried operation is carried by more answers
pub carried_on : (p : Plan) (before more : List Answered) (e : ℕ) → Carried p before e → Carried p (before ++ more) e
carried_on p before more e c = record { told = c.told; shown = c.shown; one_of = in_front c.told before more c.one_of; shows = c.shows; made_with = c.made_with }

-- a job that is a host step is one
pub host_exists : (p : Plan) (j : ℕ) → is_host_step p j ≡ true → j < length p.jobs
host_exists p j h = elim (cases_lt j (length p.jobs)) [
  | inl l ↦ l
  | inr past ↦ absurd (false≢true (sym (ap (λ (x : Option _). option_map_or (λ y. is_host_lane y.lane) x false) (slice_get_past p.jobs j past)) ∙ h))
]

module _ (p : Plan) (w : IsWellFormed p) (host : KeepsHostOrder p) (o : HasSureOrder p) (any : AnswersWaitsForAny p) (before : List Answered) where
  -- a job that asks nothing adds no answer
  pub passed_by : (b : ℕ) (s : State) → is_silent (question p b) ≡ true → Told p before b s → Told p before (b + 1) s
  passed_by b s silent k =
      record {
        sound = k.sound;
        finished = λ j l q. elim (cases_eq j b) [ inl e ↦ absurd (false≢true (sym q ∙ subst (λ z. is_silent (question p z) ≡ true) (sym e) silent)) | inr d ↦ k.finished j (omega (arith, d)) q ];
        waiting = λ j l q. k.waiting j (omega arith) q;
        unanswered = λ j l. k.unanswered j (omega arith);
        silent = k.silent;
        low = λ e j m l q. k.low e j m (omega arith) q;
        lines =
            ap (filter_map (λ j. option_map (answer_at p j) (s.answer j))) (range_more b)
            ∙ (filter_map-append (λ j. option_map (answer_at p j) (s.answer j)) (range_with_len 0 b) (b ∷ [])
            ∙ (ap (λ (y : Option Answer). filter_map (λ j. option_map (answer_at p j) (s.answer j)) (range_with_len 0 b) ++ cons_option (option_map (answer_at p b) y) []) (k.silent b silent)
            ∙ (append-nil (filter_map (λ j. option_map (answer_at p j) (s.answer j)) (range_with_len 0 b)) ∙ k.lines)));
      }

  -- a state to which a run goes on, in which one more step is answered
  pub record Tells (told : Answered) (s : State) : Type 0 where
    pub to : State
    pub path : Path p s to
    pub holds : Told p (before ++ told ∷ []) (told.job + 1) to

  module _ (told : Answered) (s : State) (k : Told p before told.job s) (exists : told.job < length p.jobs) (asks : is_silent (question p told.job) ≡ false) (allowed : Allowed p before told) where
    module _ (v : State) (kv : Sound p v) (gv : Grows (RunFirst p w host o any before told s k exists asks allowed) (MakeFirst p w host o any before told s k exists asks allowed) s v) (rv : IsReadyFor p w host o any before told s k exists asks allowed v) where
      module _ (u : State) (ku : Sound p u) (gu : Grows (RunNext p w host o any before told s k exists asks allowed v kv gv rv) (MakeNext p w host o any before told s k exists asks allowed v kv gv rv) (begun p w host o any before told s k exists asks allowed v kv gv rv) u) (cu : CanTell p w host o any before told s k exists asks allowed v kv gv rv u) where
        abbrev answered : State
        answered = after_step p u (AnswerStep told.job told.answer)

        abbrev ended : State
        ended = after_step p answered (FinishStep told.job)

        same_answer : (j : ℕ) → u.answer j ≡ s.answer j
        same_answer j = gu.answer j ∙ gv.answer j

        has_started : u.progress.started told.job ≡ true
        has_started = gu.started told.job (put_here v.progress.started told.job true)

        unfinished : (b : Bool) → u.progress.finished told.job ≡ b → u.progress.finished told.job ≡ false
        unfinished false e = e
        unfinished true e = absurd (elim (gu.finished_may told.job e) [
          | inl f ↦ false≢true (sym (k.waiting told.job (omega arith) asks) ∙ early (kv.facts.finished_started told.job f))
          | inr f ↦ false≢true (sym asks ∙ f.silent)
        ])
          where
            early : v.progress.started told.job ≡ true → s.progress.started told.job ≡ true
            early f = elim (gv.started_may told.job f) [ inl y ↦ y | inr y ↦ absurd (false≢true (sym asks ∙ y.silent)) ]

        answers : CanStep p u (AnswerStep told.job told.answer)
        answers =
            record {
              started = has_started;
              unanswered = ap (λ (y : Option Answer). is_some y) (same_answer told.job ∙ k.unanswered told.job (omega arith));
              allowed = cu.may_be;
            }

        finishes : CanStep p answered (FinishStep told.job)
        finishes =
            record {
              done = record {
                started = has_started;
                unfinished = unfinished (u.progress.finished told.job) refl;
                commands = list_all_from (has u.progress.applied) (commands_of p told.job) cu.applied;
                signals = ap (λ zs. list_all u.progress.made zs) (host.asks told.job asks).1;
                ready = are_reached_still p v.progress.payload u.progress.payload gu.payload told.job AtEnd rv.reached;
              };
              answered = or_right (is_silent (question p told.job)) _ (ap (λ (y : Option Answer). is_some y) (put_here u.answer told.job (Some told.answer)));
            }

        -- what is made by now
        mades : (e : ℕ) → u.progress.made e ≡ true → (s.progress.made e ≡ true) ⊎ (IsSure p e told.job ⊎ ((f : ℕ) × Shows p told f × IsMadeWith p f e))
        mades e m = by_next (gu.made_may e m)
          where
            by_first : (s.progress.made e ≡ true) ⊎ MakeFirst p w host o any before told s k exists asks allowed e → (s.progress.made e ≡ true) ⊎ (IsSure p e told.job ⊎ ((f : ℕ) × Shows p told f × IsMadeWith p f e))
            by_first (inl y) = inl y
            by_first (inr (for_step y)) = inr (inl y)
            by_first (inr (for_shown f x y)) = inr (inr (f, x.1, y))

            by_next : (v.progress.made e ≡ true) ⊎ MakeNext p w host o any before told s k exists asks allowed v kv gv rv e → (s.progress.made e ≡ true) ⊎ (IsSure p e told.job ⊎ ((f : ℕ) × Shows p told f × IsMadeWith p f e))
            by_next (inl y) = by_first (gv.made_may e y)
            by_next (inr (for_step y)) = inr (inl y)
            by_next (inr (for_shown f x y)) = inr (inr (f, x, y))

        low_on : (e j : ℕ) → u.progress.made e ≡ true → told.job + 1 ≤ j → is_silent (question p j) ≡ false → IsSure p e j ⊎ Carried p (before ++ told ∷ []) e
        low_on e j m l q = by_made (mades e m)
          where
            by_made : (s.progress.made e ≡ true) ⊎ (IsSure p e told.job ⊎ ((f : ℕ) × Shows p told f × IsMadeWith p f e)) → IsSure p e j ⊎ Carried p (before ++ told ∷ []) e
            by_made (inl y) = elim (k.low e j y (omega arith) q) [ inl z ↦ inl z | inr z ↦ inr (carried_on p before (told ∷ []) e z) ]
            by_made (inr (inl y)) = inl (sure_for_later p o.reachable host (host_exists p) e told.job j (omega arith) (host.asks told.job asks).0 (host.asks j q).0 y)
            by_made (inr (inr y)) = inr (record { told = told; shown = y.0; one_of = in_last told before; shows = y.1; made_with = y.2 })

        not_job : (j : ℕ) → told.job + 1 ≤ j → j ≡ told.job → ⊥
        not_job j l q = omega arith

        unstarted : (j : ℕ) → told.job + 1 ≤ j → is_silent (question p j) ≡ false → (b : Bool) → u.progress.started j ≡ b → u.progress.started j ≡ false
        unstarted j l q false e = e
        unstarted j l q true e = absurd (elim (gu.started_may j e) [
          | inl y ↦ elim (put_cases v.progress.started told.job j y) [
            | inl z ↦ not_job j l z
            | inr z ↦ elim (gv.started_may j z) [
              | inl x ↦ false≢true (sym (k.waiting j (omega arith) q) ∙ x)
              | inr x ↦ false≢true (sym q ∙ x.silent)
            ]
          ]
          | inr y ↦ false≢true (sym q ∙ y.silent)
        ])

        abbrev line_of : ℕ → Option AnswerLine
        line_of j = option_map (answer_at p j) (ended.answer j)

        lines_on : filter_map line_of (range_with_len 0 (told.job + 1)) ≡ answer_lines p (before ++ told ∷ [])
        lines_on =
            ap (filter_map line_of) (range_more told.job)
            ∙ (filter_map-append line_of (range_with_len 0 told.job) (told.job ∷ [])
            ∙ (ap (λ zs. zs ++ cons_option (line_of told.job) []) (same_lines line_of (λ j. option_map (answer_at p j) (s.answer j)) told.job 0 earlier ∙ k.lines)
            ∙ (ap (λ (y : Option Answer). answer_lines p before ++ cons_option (option_map (answer_at p told.job) y) []) (put_here u.answer told.job (Some told.answer))
            ∙ sym (map-append (λ x. answer_at p x.job x.answer) before (told ∷ [])))))
          where
            earlier : (j : ℕ) → 0 ≤ j → j < 0 + told.job → line_of j ≡ option_map (answer_at p j) (s.answer j)
            earlier j z l = ap (λ (y : Option Answer). option_map (answer_at p j) y) (put_there u.answer told.job (Some told.answer) j (λ q. absurd (let y : ⊥ = omega arith in y)) ∙ same_answer j)

        all_told : Told p (before ++ told ∷ []) (told.job + 1) ended
        all_told =
            record {
              sound = sound_step p w o.chains answered (FinishStep told.job) (sound_step p w o.chains u (AnswerStep told.job told.answer) ku answers) finishes;
              finished = λ j l q. elim (cases_eq j told.job) [
                | inl e ↦ subst (λ z. put u.progress.finished told.job true z ≡ true) (sym e) (put_here u.progress.finished told.job true)
                | inr d ↦ put_keeps u.progress.finished told.job j (gu.finished j (gv.finished j (k.finished j (omega (arith, d)) q)))
              ];
              waiting = λ j l q. unstarted j l q (u.progress.started j) refl;
              unanswered = λ j l. put_there u.answer told.job (Some told.answer) j (not_job j l) ∙ (same_answer j ∙ k.unanswered j (omega arith));
              silent = λ j q. put_there u.answer told.job (Some told.answer) j (λ e. absurd (false≢true (sym asks ∙ subst (λ z. is_silent (question p z) ≡ true) e q))) ∙ (same_answer j ∙ k.silent j q);
              low = low_on;
              lines = lines_on;
            }

        pub tells_after : Path p s u → Tells told s
        tells_after path = record { to = ended; path = go answered (FinishStep told.job) (go u (AnswerStep told.job told.answer) path answers) finishes; holds = all_told }

      tells_begun : Path p s v → Tells told s
      tells_begun path =
          let t = told_now p w host o any before told s k exists asks allowed v kv gv rv in
          tells_after t.to t.sound t.grows t.holds (joined p s (begun p w host o any before told s k exists asks allowed v kv gv rv) t.to (go v (StartStep told.job) path (begins p w host o any before told s k exists asks allowed v kv gv rv)) t.path)

    -- its answer is told
    pub tells : Tells told s
    tells =
        let f = first p w host o any before told s k exists asks allowed in
        tells_begun f.to f.sound f.grows f.holds f.path
