-- One host step that asks, up to its answer: a run brings about what it waits for, starts it, and brings about what its
-- answer shows.
use Rattle.std.proofs.Common.{ℕ, Bool, true, false, List, [], ◌≡◌, ◌≤◌, ◌<◌, ◌⊎◌, Some, None, Option, cond, eqb, ltb, ◌&&◌, refl, sym, ap, ◌∙◌, inl, inr, subst, arith, length}
use Rattle.std.specs.List.{filter_map, list_all, list_any, range_with_len}
use Rattle.std.specs.Option.{option_map, option_to_list}
use Rattle.std.proofs.lemmas.Bool.{and_from, cases_eq, eq-eqb, false≢true, lt-leb, lt-ltb, or_left, or_right}
use Rattle.vq_ground.proofs.Lists.{any_has, list_all_from}
use Rattle.vq_model.specs.declared.plan.Answer.{Answer}
use Rattle.vq_model.specs.declared.plan.Answer.TheVariants.{NotReady, Reached, Timeout, Value}
use Rattle.vq_model.specs.declared.plan.Need.{Need}
use Rattle.vq_model.specs.declared.plan.Question.{Question}
use Rattle.vq_model.specs.declared.plan.Question.TheVariants.{Reached as AsksReached, PollAll, PollAny, Fence, Value as AsksValue}
use Rattle.vq_model.specs.Plan.{Plan, asked, chain, chain_of, initial, is_silent, job_of, question, value, waits_for_any}
use Rattle.vq_model.specs.Edges.{At, AtEnd, must_finish}
use Rattle.vq_model.specs.HappensBefore.{HappensBefore}
use Rattle.vq_model.specs.Machine.{CanStep, StartStep, State, after_step, are_reached, is_reached, may_answer, was_since}
use Rattle.vq_model.specs.Outputs.{Allowed, AllowedBy, Answered, IsAboveLow, IsIn, IsShownReached, MayRead, Shows, ShowsBy, answer_lines, carried, from_floor, here, shown_pairs}
use Rattle.vq_model.specs.OutputText.{answer_at}
use Rattle.vq_model.specs.Sure.{IsSure}
use Rattle.vq_model.specs.SureOrder.{HasSureOrder}
use Rattle.vq_model.specs.WellFormed.{IsWellFormed, KeepsHostOrder}
use Rattle.vq_model.specs.Windows.{IsMadeWith, at_first as initially, sure}
use Rattle.vq_model.proofs.Puts.{put_here}
use Rattle.vq_order_laws.proofs.Cited.{are_reached_still, op_job}
use Rattle.vq_plan_laws.proofs.Cited.{reached_earlier}
use Rattle.vq_output_laws.specs.ToldOutputs.{AnswersWaitsForAny}
use Rattle.vq_output_laws.proofs.Growing.{Sound, Grows, Brings, brings_here, brings_on, grows_on, sound_step}
use Rattle.vq_output_laws.proofs.Jobs.{Applied, Runs, apply_all, low}
use Rattle.vq_output_laws.proofs.Pairs.{all_of, any_of, not_all_of, not_any_of}
use Rattle.vq_output_laws.proofs.Ready.{IsReady, Picks, is_wait, pairs_brought, ready, shown_brought, silent_for_all}
use Rattle.vq_output_laws.proofs.Shown.{pairs_possible, shown_before}
use Rattle.vq_output_laws.proofs.Wants.{MayMake, MayRun, for_shown, for_step}

-- an operation that is made with one that an answer shows
pub record Carried (p : Plan) (before : List Answered) (e : ℕ) : Type 0 where
  pub told : Answered
  pub shown : ℕ
  pub one_of : IsIn told before
  pub shows : Shows p told shown
  pub made_with : IsMadeWith p shown e

-- A state in which the steps that ask and are written before one are answered so, and no more is made than is sure for
-- each later one or carried by an answer.
pub record Told (p : Plan) (before : List Answered) (b : ℕ) (s : State) : Type 0 where
  pub sound : Sound p s
  pub finished : (j : ℕ) → j < b → is_silent (question p j) ≡ false → s.progress.finished j ≡ true
  pub waiting : (j : ℕ) → b ≤ j → is_silent (question p j) ≡ false → s.progress.started j ≡ false
  pub unanswered : (j : ℕ) → b ≤ j → s.answer j ≡ None
  pub silent : (j : ℕ) → is_silent (question p j) ≡ true → s.answer j ≡ None
  pub low : (e j : ℕ) → s.progress.made e ≡ true → b ≤ j → is_silent (question p j) ≡ false → IsSure p e j ⊎ Carried p before e
  pub lines : filter_map (λ j. option_map (answer_at p j) (s.answer j)) (range_with_len 0 b) ≡ answer_lines p before

module _ (p : Plan) (w : IsWellFormed p) (host : KeepsHostOrder p) (o : HasSureOrder p) (any : AnswersWaitsForAny p) (before : List Answered) (told : Answered) (s : State) (k : Told p before told.job s) (exists : told.job < length p.jobs) (asks : is_silent (question p told.job) ≡ false) (allowed : Allowed p before told) where
  -- Up to its start

  abbrev pub WaitShows : ℕ → Type 0
  WaitShows e = (is_wait (question p told.job) ≡ true) × Shows p told e

  pub wait_shows : (e i : ℕ) → WaitShows e → job_of p e ≡ Some i → HappensBefore p told.job i → ⊥
  wait_shows e i x q b = shown_before p w host o told.job asks before told refl allowed e i x.1 q b

  abbrev pub RunFirst : ℕ → Type 0
  RunFirst = MayRun p w host o (silent_for_all p any) told.job asks WaitShows wait_shows

  abbrev pub MakeFirst : ℕ → Type 0
  MakeFirst = MayMake p w host o (silent_for_all p any) told.job asks WaitShows wait_shows

  pub picks : waits_for_any p told.job ≡ true → Picks p w host o any told.job asks WaitShows wait_shows s k.finished exists
  picks e = by_answer told.answer refl (subst (λ q. AllowedBy p before told q told.answer) is allowed)
    where
      is : question p told.job ≡ AsksReached
      is = any told.job e

      by_answer : (x : Answer) → told.answer ≡ x → AllowedBy p before told AsksReached x → Picks p w host o any told.job asks WaitShows wait_shows s k.finished exists
      by_answer Reached f a =
          let m = a e in
          record {
            pair = m.0;
            one_of = m.2;
            ceiling = m.3;
            shows = λ y res. (
              ap is_wait is,
              subst (λ q. ShowsBy p told y q told.answer) (sym is) (subst (ShowsBy p told y AsksReached) (sym f)
                  (m.0, subst (IsIn m.0) (sym (ap (λ b. cond b (option_to_list told.pick) []) e ∙ ap (λ (z : Option Need). option_to_list z) m.1)) here, res)),
            );
          }
      by_answer Timeout f a = absurd a
      by_answer NotReady f a = absurd a
      by_answer (Value n) f a = absurd a

  abbrev pub IsReadyFor : State → Type 0
  IsReadyFor = IsReady p w host o any told.job asks WaitShows wait_shows s k.finished

  pub first : Brings p RunFirst MakeFirst s IsReadyFor
  first = ready p w host o any told.job asks WaitShows wait_shows s k.finished exists picks k.sound

  -- Its start

  module _ (v : State) (kv : Sound p v) (gv : Grows RunFirst MakeFirst s v) (rv : IsReadyFor v) where
    abbrev pub begun : State
    begun = after_step p v (StartStep told.job)

    pub begins : CanStep p v (StartStep told.job)
    begins =
        record {
          exists = exists;
          waiting = by_start (v.progress.started told.job) refl;
          ready = and_from (list_all v.progress.finished (must_finish p told.job)) (are_reached p v.progress.payload told.job (At 1)) (list_all_from v.progress.finished (must_finish p told.job) rv.first) (reached_earlier p w v.progress.payload told.job 0 rv.reached);
        }
      where
        by_start : (b : Bool) → v.progress.started told.job ≡ b → v.progress.started told.job ≡ false
        by_start false e = e
        by_start true e = absurd (elim (gv.started_may told.job e) [
          | inl f ↦ false≢true (sym (k.waiting told.job (omega arith) asks) ∙ f)
          | inr f ↦ false≢true (sym asks ∙ f.silent)
        ])

    pub begun_sound : Sound p begun
    begun_sound = sound_step p w o.chains v (StartStep told.job) kv begins

    at_start_is : (t : ℕ) → begun.at_start told.job t ≡ v.progress.payload t
    at_start_is t = ap (λ (f : ℕ → ℕ). f t) (put_here v.at_start told.job v.progress.payload)

    -- but for a wait, each payload at its start is shown
    start_shown : is_wait (question p told.job) ≡ false → (t : ℕ) → IsShownReached p before told.job t (v.progress.payload t)
    start_shown q t = elim (kv.facts.raised t) [
      | inl i ↦ subst (IsShownReached p before told.job t) (sym i) (from_floor initially)
      | inr r ↦ subst (IsShownReached p before told.job t) r.sets (by_made r.op (w.of_chain r.op t r.in_chain) (gv.made_may r.op r.was_made))
    ]
      where
        by_made : (e : ℕ) → chain_of p e ≡ Some t → (s.progress.made e ≡ true) ⊎ MakeFirst e → IsShownReached p before told.job t (value p e)
        by_made e c (inl m) = elim (k.low e told.job m (omega arith) asks) [
          | inl u ↦ from_floor (sure c u)
          | inr u ↦ carried u.told u.shown u.one_of u.shows u.made_with c
        ]
        by_made e c (inr (for_step u)) = from_floor (sure c u)
        by_made e c (inr (for_shown f u m)) = absurd (false≢true (sym q ∙ u.0))

    -- Its answer

    pub shows : (e i : ℕ) → Shows p told e → job_of p e ≡ Some i → HappensBefore p told.job i → ⊥
    shows e i x q b = shown_before p w host o told.job asks before told refl allowed e i x q b

    -- the steps before it are still finished
    pub done : (i : ℕ) → i < told.job → is_silent (question p i) ≡ false → begun.progress.finished i ≡ true
    done i l q = gv.finished i (k.finished i l q)

    abbrev pub RunNext : ℕ → Type 0
    RunNext = MayRun p w host o (silent_for_all p any) told.job asks (Shows p told) shows

    abbrev pub MakeNext : ℕ → Type 0
    MakeNext = MayMake p w host o (silent_for_all p any) told.job asks (Shows p told) shows

    abbrev FromBegun : (State → Type 0) → Type 0
    FromBegun Q = (u : State) → Sound p u → Grows RunNext MakeNext begun u → Brings p RunNext MakeNext u Q

    -- what an `ok` shows is brought about
    shown_pairs_reached : (q : Question) → question p told.job ≡ q → told.answer ≡ Reached → AllowedBy p before told q Reached → FromBegun (λ u. (n : Need) → IsIn n (shown_pairs p told q) → is_reached u.progress.payload n ≡ true)
    shown_pairs_reached q i f a =
        pairs_brought p w host o any told.job asks (Shows p told) shows begun done (shown_pairs p told q) (pairs_possible p w host o told.job asks before told refl q a)
        (λ n e m r. subst (λ z. ShowsBy p told e z told.answer) (sym i) (subst (ShowsBy p told e q) (sym f) (n, m, r)))

    -- a payload at its start is below a pair that isn't reached
    unreached : (u : State) → Grows RunNext MakeNext begun u → is_wait (question p told.job) ≡ false → (n : Need) → IsAboveLow p before told.job n → is_reached (u.at_start told.job) n ≡ false
    unreached u g q n a =
        let x = a (v.progress.payload n.chain) (start_shown q n.chain) in
        let y = g.at_start told.job n.chain (put_here v.progress.started told.job true) ∙ at_start_is n.chain in
        lt-leb n.value (u.at_start told.job n.chain) (omega arith)

    -- a value of a read
    read_brought : (t n : ℕ) → question p told.job ≡ AsksValue t → told.answer ≡ Value n → MayRead p before told.job t n → FromBegun (λ u. was_since p u told.job t n ≡ true)
    read_brought t n i f a u ku g = elim (cases_eq n (v.progress.payload t)) [
      | inl q ↦ brings_here p w o.chains RunNext MakeNext u (λ z. was_since p z told.job t n ≡ true) ku (or_left (eqb n (u.at_start told.job t)) _ (eq-eqb n (u.at_start told.job t) (let y = at_start u g in omega arith)))
      | inr d ↦ elim a.known [
        | inl q ↦ absurd (let l = low p w o v kv t in let m = a.low (v.progress.payload t) (start_shown (ap is_wait i) t) in let z : ⊥ = omega (arith, d) in z)
        | inr e ↦
            (let j = op_job p e.0 t e.1 in
            let m = a.low (v.progress.payload t) (start_shown (ap is_wait i) t) in
            let l = low p w o v kv t in
            brings_on p w o.chains RunNext MakeNext u (λ z. z.progress.made e.0 ≡ true) (λ z. was_since p z told.job t n ≡ true)
            (shown_brought p w host o any told.job asks (Shows p told) shows begun done e.0 j.0 (subst (λ z. ShowsBy p told e.0 z told.answer) (sym i) (subst (ShowsBy p told e.0 (AsksValue t)) (sym f) (e.1, above d m l, e.2))) j.1 u ku g)
            (λ x kx gx made. brings_here p w o.chains RunNext MakeNext x (λ z. was_since p z told.job t n ≡ true) kx
            (since x (grows_on RunNext MakeNext begun u x g gx) e.0 e.1 e.2 made (strictly d m))))
      ]
    ]
      where
        at_start : (u : State) → Grows RunNext MakeNext begun u → u.at_start told.job t ≡ v.progress.payload t
        at_start u g = g.at_start told.job t (put_here v.progress.started told.job true) ∙ at_start_is t

        strictly : (n ≡ v.progress.payload t → ⊥) → v.progress.payload t ≤ n → v.progress.payload t < n
        strictly d m = omega (arith, d)

        above : (n ≡ v.progress.payload t → ⊥) → v.progress.payload t ≤ n → initial p t ≤ v.progress.payload t → initial p t < n
        above d m l = let x = strictly d m in omega arith

        since : (x : State) → Grows RunNext MakeNext begun x → (e : ℕ) → chain_of p e ≡ Some t → value p e ≡ n → x.progress.made e ≡ true → v.progress.payload t < n → was_since p x told.job t n ≡ true
        since x g e c q made l =
            or_right (eqb n (x.at_start told.job t)) (ltb (x.at_start told.job t) n && list_any (λ e. x.progress.made e && eqb (value p e) n) (chain p t))
            (and_from (ltb (x.at_start told.job t) n) (list_any (λ e. x.progress.made e && eqb (value p e) n) (chain p t)) (lt-ltb (x.at_start told.job t) n (let y = at_start x g in omega arith))
            (any_has (λ e. x.progress.made e && eqb (value p e) n) (chain p t) e (w.in_chain e t c) (and_from (x.progress.made e) (eqb (value p e) n) made (eq-eqb (value p e) n q))))

    abbrev pub MayBe : Question → Answer → State → Type 0
    MayBe q x u = may_answer p u told.job q x ≡ true

    answered : (q : Question) (x : Answer) → question p told.job ≡ q → told.answer ≡ x → AllowedBy p before told q x → FromBegun (MayBe q x)
    answered AsksReached Reached i f a u ku g = brings_here p w o.chains RunNext MakeNext u (MayBe AsksReached Reached) ku (are_reached_still p begun.progress.payload u.progress.payload g.payload told.job AtEnd rv.reached)
    answered PollAll Reached i f a u ku g =
        brings_on p w o.chains RunNext MakeNext u _ (MayBe PollAll Reached) (shown_pairs_reached PollAll i f a u ku g)
        (λ z kz gz r. brings_here p w o.chains RunNext MakeNext z (MayBe PollAll Reached) kz (all_of (is_reached z.progress.payload) (asked p told.job) r))
    answered Fence Reached i f a u ku g =
        brings_on p w o.chains RunNext MakeNext u _ (MayBe Fence Reached) (shown_pairs_reached Fence i f a u ku g)
        (λ z kz gz r. brings_here p w o.chains RunNext MakeNext z (MayBe Fence Reached) kz (all_of (is_reached z.progress.payload) (asked p told.job) r))
    answered PollAny Reached i f a u ku g =
        brings_on p w o.chains RunNext MakeNext u _ (MayBe PollAny Reached) (shown_pairs_reached PollAny i f a u ku g)
        (λ z kz gz r. brings_here p w o.chains RunNext MakeNext z (MayBe PollAny Reached) kz (any_of (is_reached z.progress.payload) (asked p told.job) a.0 a.2 (r a.0 (subst (IsIn a.0) (sym (ap (λ (y : Option Need). option_to_list y) a.1)) here))))
    answered PollAll Timeout i f a u ku g =
        brings_here p w o.chains RunNext MakeNext u (MayBe PollAll Timeout) ku (not_all_of (is_reached (u.at_start told.job)) (asked p told.job) a.0 a.1 (unreached u g (ap is_wait i) a.0 a.2))
    answered PollAny Timeout i f a u ku g =
        brings_here p w o.chains RunNext MakeNext u (MayBe PollAny Timeout) ku (not_any_of (is_reached (u.at_start told.job)) (asked p told.job) (λ n m. unreached u g (ap is_wait i) n (a n m)))
    answered Fence NotReady i f a u ku g =
        brings_here p w o.chains RunNext MakeNext u (MayBe Fence NotReady) ku (not_all_of (is_reached (u.at_start told.job)) (asked p told.job) a.0 a.1 (unreached u g (ap is_wait i) a.0 a.2))
    answered (AsksValue t) (Value n) i f a u ku g = read_brought t n i f a u ku g
    answered q x i f a u ku g = absurd a

    -- It has run, and its answer may be given.
    pub record CanTell (u : State) : Type 0 where
      pub applied : Applied p told.job u
      pub may_be : MayBe (question p told.job) told.answer u

    pub told_now : Brings p RunNext MakeNext begun CanTell
    told_now =
        brings_on p w o.chains RunNext MakeNext begun (λ u. Runs p told.job u × Applied p told.job u) CanTell
        (apply_all p w o RunNext MakeNext told.job begun begun_sound (record { started = put_here v.progress.started told.job true; unfinished = unfinished (v.progress.finished told.job) refl; reached = rv.reached }))
        (λ u ku gu r. brings_on p w o.chains RunNext MakeNext u (MayBe (question p told.job) told.answer) CanTell
        (answered (question p told.job) told.answer refl refl allowed u ku gu)
        (λ z kz gz m. brings_here p w o.chains RunNext MakeNext z CanTell kz (record { applied = λ c h. gz.applied c (r.1 c h); may_be = m })))
      where
        unfinished : (b : Bool) → v.progress.finished told.job ≡ b → v.progress.finished told.job ≡ false
        unfinished false e = e
        unfinished true e = absurd (false≢true (sym begins.waiting ∙ kv.facts.finished_started told.job e))
