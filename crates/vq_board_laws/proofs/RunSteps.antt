-- The start and the finish of a job keep the rule.
use Rattle.std.proofs.Common.{◌≡◌, ℕ, ◌<◌, ◌≤◌, Bool, true, false, List, [], ◌∷◌, ◌++◌, length, set, refl, ap, sym, ◌∙◌, subst, arith, inl, inr, Option, Some, None, ltb, take, take_all, not, ◌&&◌, ◌||◌}
use mathlib.Core.Logic.{dite}
use mathlib.Core.Option.{some, none}
use lib.ListN.{get_elem?}
use native.Mathlib.Decide.{ℕ_discrete, dec_le}
use Rattle.std.specs.Prelude.{is_some}
use Rattle.std.specs.List.{list_all, slice_get}
use Rattle.std.specs.Option.{option_to_list, option_map_or}
use Rattle.std.proofs.lemmas.Bool.{lt-ltb, le-ltb, ltb-true, false_from_ne_true, false≢true, and_from, or_left, or_right}
use Rattle.atomic_table.specs.Table.{State, step, keeps, Allows}
use Rattle.vq_model.specs.declared.plan.Lane.{Lane}
use Rattle.vq_model.specs.declared.plan.Lane.TheVariants.{Host as HostLane, Queue as QueueLane}
use Rattle.vq_model.specs.declared.plan.PlanJob.{PlanJob}
use Rattle.vq_model.specs.Plan.{Plan, is_batch, is_host_step, is_host_lane, is_silent, question, previous, host_before, idle_after, commands_of, signals_of}
use Rattle.vq_ground.specs.Lists.{has}
use Rattle.vq_model.specs.Edges.{AtEnd, At, must_finish}
use Rattle.vq_model.specs.Machine.{Progress, State as MachineState, put, are_reached, CanStart, StartStep, FinishStep, IsDone, after_progress, after_step}
use Rattle.vq_ground.proofs.Lists.{has_here, has_there, has_cases, has-append_cases, list_all_from, in_option}
use Rattle.vq_model.proofs.Puts.{put_here, put_there}
use Rattle.vq_model.proofs.Plans.{batch_of, batch_no_step}
use Rattle.vq_plan_laws.proofs.Cited.{plan_well_formed, plan_hosts}
use Rattle.vq_board_laws.specs.declared.view.Told.{Told}
use Rattle.vq_board_laws.specs.declared.view.View.{View}
use Rattle.vq_board_laws.specs.declared.view.LoggedBuffers.{LoggedBuffers}
use Rattle.vq_board_laws.specs.declared.view.JobState.TheVariants.{Finished}
use Rattle.vq_board_laws.specs.declared.view.Fact.TheVariants.{Job}
use Rattle.vq_board_laws.specs.Roles.{runner, runner_of, role_number}
use Rattle.vq_board_laws.specs.Words.{Words, words_of, job_word, made_of, log_of, payload_of, shown}
use Rattle.vq_board_laws.specs.Knowledge.{Knows, state_number}
use Rattle.vq_board_laws.specs.Jobs.{Jobs}
use Rattle.vq_board_laws.specs.Log.{Log}
use Rattle.vq_board_laws.specs.Reached.{IsReached, SinceStart, InOrder, IsPayload, answer_told}
use Rattle.vq_board_laws.specs.Rule.{Kept}
use Rattle.vq_board_laws.specs.RunLaws.{RunLaws}
use Rattle.vq_board_laws.specs.May.{MayStart, MayFinish}
use Rattle.vq_board_laws.specs.Steps.{Mine, starts, finishes, started, finished}
use Rattle.vq_board_laws.proofs.Columns.{put_each}
use Rattle.vq_board_laws.proofs.Frames.{facts_stay, so_of, knowledge_stays, ownership_stays, points_stay, references_stay}
use Rattle.vq_board_laws.proofs.JobParts.{kept_job, so_job, log_rejob, runs_none, jobs_late}
use Rattle.vq_board_laws.proofs.Needs.{needs_reached}
use Rattle.vq_board_laws.proofs.Payloads.{is_payload}
use Rattle.vq_board_laws.proofs.Runs.{end_state, order_stays, reach_further}
use Rattle.vq_board_laws.proofs.Since.{since_rises, since_nothing}
use Rattle.vq_board_laws.proofs.Taken.{none_taken, none_dropped}

-- Small facts

-- the jobs of the host's lane are run by the host's pass
pub runner_of_host : (p : Plan) (j : ℕ) → is_host_step p j ≡ true → runner p j ≡ 0
runner_of_host p j h = by_job (slice_get p.jobs j) h
  where
    by_job : (o : Option PlanJob) → option_map_or (λ (x : PlanJob). is_host_lane x.lane) o false ≡ true → option_map_or (λ (x : PlanJob). role_number p (runner_of x.lane)) o 0 ≡ 0
    by_job None e = refl
    by_job (Some x) e = by_lane x.lane e
      where
        by_lane : (l : Lane) → is_host_lane l ≡ true → role_number p (runner_of l) ≡ 0
        by_lane HostLane t = refl
        by_lane (QueueLane q) t = absurd (false≢true t)

-- Start

module _ (p : Plan) (laws : RunLaws p) (s : State LoggedBuffers View) (id j : ℕ) (v : View) (k : Kept p s) (at : get_elem? s.views id ≡ some v) (may : MayStart p v j) where
  abbrev d : Words
  d = words_of s.words

  -- the job hasn't started
  low : d.job j < 3
  low = elim (dec_le 3 (d.job j)) [
    | yes h ↦ absurd (false≢true (sym may.new ∙ (k.rule.jobs.own id v at).0.begun_all j may.runner h))
    | no h ↦ omega arith
  ]

  -- a batch is released
  ready : is_batch p j ≡ true → 1 < d.job j
  ready batch =
      let far = may.released (batch_no_step p j batch) in
      let least : 2 ≤ state_number far.0 = far.1 in
      let h : state_number far.0 ≤ d.job j = so_of d v.known (Job j far.0) (k.rule.knowledge id v at) far.2 in omega arith

  reached : are_reached p (payload_of p (made_of d)) j (At 1) ≡ true
  reached = needs_reached p d s.views v.known j (At 1) laws k.rule.run (k.rule.knowledge id v at) may.reached

  known_finished : (i : ℕ) → Knows v.known (Job i Finished) → ltb 3 (d.job i) ≡ true
  known_finished i h = lt-ltb 3 (d.job i) (let g : 4 ≤ d.job i = so_of d v.known (Job i Finished) (k.rule.knowledge id v at) h in omega arith)

  before_finished : (i : ℕ) → host_before p j ≡ Some i → ltb 3 (d.job i) ≡ true
  before_finished i e =
      let t = (plan_hosts p k.plan).before_batch i j e in
      let batch = batch_of p j may.exists t.2 in
      lt-ltb 3 (d.job i) (k.rule.jobs.waited i j batch (let g = ready batch in omega arith) t.0 t.1)

  first_finished : (i : ℕ) → has (must_finish p j) i ≡ true → ltb 3 (d.job i) ≡ true
  first_finished i h = elim (has-append_cases (option_to_list (previous p j) ++ option_to_list (host_before p j)) (idle_after p j) i h) [
    | inl m ↦ elim (has-append_cases (option_to_list (previous p j)) (option_to_list (host_before p j)) i m) [
      | inl n ↦ known_finished i (may.previous i (in_option (previous p j) i n))
      | inr n ↦ before_finished i (in_option (host_before p j) i n)
    ]
    | inr m ↦ known_finished i (may.idle_after i m)
  ]

  -- the host steps before a host step are finished
  lane_finished : (i : ℕ) → is_host_step p i ≡ true → is_host_step p j ≡ true → i < j → 3 < d.job i
  lane_finished i host mine l =
      let t = (plan_hosts p k.plan).lane i j l host mine in
      let q : ℕ = t.0 in
      let last : 3 < d.job q = ltb-true 3 (d.job q) (first_finished q t.4) in
      dite (ℕ_discrete i q) (λ e. subst (λ (a : ℕ). 3 < d.job a) (sym e) last) (λ ne. k.rule.jobs.lane i q host t.3 (let at_most = t.1 in omega arith) (omega arith))

  pub can_begin : CanStart p (shown p d) j
  can_begin = record {
    exists = may.exists;
    waiting = le-ltb 2 (d.job j) (let l = low in omega arith);
    ready = and_from (list_all (shown p d).finished (must_finish p j)) (are_reached p (payload_of p (made_of d)) j (At 1))
        (list_all_from (shown p d).finished (must_finish p j) first_finished)
        reached;
  }

  -- the words after the start show what the machine has after it
  pub begun_shows : after_progress p (shown p d) (StartStep j) ≡ shown p (record d { job = put d.job j 3 })
  begun_shows = λ i. record {
    payload = payload_of p (made_of d);
    started = λ a. put_each d.job j 3 (λ b y. put (shown p d).started j true b ≡ ltb 2 y) (put_here (shown p d).started j true) (λ b ne. put_there (shown p d).started j true b ne) a i;
    finished = λ a. put_each d.job j 3 (λ b y. ltb 3 (d.job b) ≡ ltb 3 y) (le-ltb 3 (d.job j) (let l = low in omega arith)) (λ b ne. refl) a i;
    made = made_of d;
    applied = log_of p d;
  }

  -- the machine before the start, and after it
  abbrev end : MachineState
  end = end_state p (shown p d) d.job s.views k.rule.run

  abbrev begun : MachineState
  begun = after_step p end (StartStep j)

  paid : end.progress.payload ≡ payload_of p (made_of d)
  paid = ap (λ (z : Progress). z.payload) k.rule.run.leads

  -- at the start of the job the payloads are what they are now
  since_start : SinceStart p begun (Some j) []
  since_start =
      let here : (a t : ℕ) → Some j ≡ Some a → begun.at_start a t ≡ end.progress.payload t =
      λ a t e. let same : j ≡ a = cc in subst (λ (z : ℕ). put end.at_start j end.progress.payload z t ≡ end.progress.payload t) same (ap (λ (f : ℕ → ℕ). f t) (put_here end.at_start j end.progress.payload)) in record {
        payload = λ a t e. subst (IsPayload p t) (sym (here a t e ∙ ap (λ (f : ℕ → ℕ). f t) paid)) (is_payload p (made_of d) t (plan_well_formed p k.plan));
        rises = λ a t e. let h = here a t e in omega arith;
        noted = λ a e t i m. absurd (false≢true m);
      }

  -- the other passes run other jobs
  since_else : (u : View) (i : ℕ) → get_elem? s.views i ≡ some u → SinceStart p end u.runs u.unmade → SinceStart p begun u.runs u.unmade
  since_else u i e o =
      let there : (a t : ℕ) → u.runs ≡ Some a → begun.at_start a t ≡ end.at_start a t =
      λ a t theirs. ap (λ (f : ℕ → ℕ). f t) (put_there end.at_start j end.progress.payload a (λ same. let three = ((k.rule.jobs.own i u e).0.runs_one a theirs).1 in let is : d.job a ≡ d.job j = ap d.job same in let l = low in omega arith)) in record {
        payload = λ a t f. subst (IsPayload p t) (sym (there a t f)) (o.payload a t f);
        rises = λ a t f. let h = there a t f in let r = o.rises a t f in omega arith;
        noted = λ a b t f m c. let h = there a t f in let r = o.noted a b t f m c in omega arith;
      }

  order_begun : (told : List Told) → InOrder p d.job told → InOrder p (put d.job j 3) told
  order_begun = order_stays p d.job (put d.job j 3) (put_each d.job j 3 (λ a y. 2 < d.job a → 2 < y) (λ h. omega arith) (λ a ne h. h)) (put_each d.job j 3 (λ a y. 3 < y → 3 < d.job a) (λ h. absurd (omega arith)) (λ a ne h. h))

  started_shown : IsReached p (shown p (record d { job = put d.job j 3 })) (put d.job j 3) (set s.views id (starts v j))
  started_shown =
      let r = k.rule.run in
      reach_further p (shown p d) (shown p (record d { job = put d.job j 3 })) (StartStep j) d.job (put d.job j 3) s.views id (starts v j) r
      (subst (λ (z : Progress). CanStart p z j) (sym r.leads) can_begin)
      (ap (λ (z : Progress). after_progress p z (StartStep j)) r.leads ∙ begun_shows)
      (λ h. r.answers id v at h)
      (λ i u ne h a same. same)
      since_start
      (λ i u ne e. since_else u i e)
      (λ h. order_begun v.told (r.told id v at h))
      (λ i u ne h e. order_begun u.told)

  -- of a job that hasn't started nothing is applied and nothing is made
  none_applied : (c : ℕ) → has (commands_of p j) c ≡ true → has (log_of p d) c ≡ false
  none_applied c m = false_from_ne_true (has (log_of p d) c) (λ h.
      let t = k.rule.jobs.applied_begun c h in
      let same : t.0 ≡ j = (plan_well_formed p k.plan).one_job c t.0 j t.1 m in
      let is : d.job t.0 ≡ d.job j = ap d.job same in
      let l = low in let g = t.2 in omega arith)

  none_made : (e : ℕ) → has (signals_of p j) e ≡ true → made_of d e ≡ false
  none_made e m = false_from_ne_true (made_of d e) (λ h. let g = k.rule.jobs.made_begun e j h ((plan_well_formed p k.plan).of_job e j m) in let l = low in omega arith)

  started_jobs : Jobs p (put d.job j 3) (made_of d) (log_of p d) (set s.views id (starts v j))
  started_jobs =
      let own = (k.rule.jobs.own id v at).0 in
      jobs_late p d.job (made_of d) (log_of p d) j 3 s.views id v (starts v j) k.rule.jobs k.rule.ownership.roles at may.runner (let l = low in omega arith) (omega arith) ready refl
      record {
        begun_all = put_each d.job j 3 (λ b y. runner p b ≡ v.role → 2 < y → has (j ∷ v.begun) b ≡ true) (λ _ _. has_here j v.begun) (λ b ne l h. has_there j v.begun b (own.begun_all b l h));
        runs_one = λ a e. let same : j ≡ a = cc in subst (λ (z : ℕ). (runner p z ≡ v.role) × (put d.job j 3 z ≡ 3) × (z < length p.jobs)) same (may.runner, put_here d.job j 3, may.exists);
        entered_commands = λ a c e h. absurd (none_taken (commands_of p a) c h);
        later_commands = λ a c e h. let same : j ≡ a = cc in none_applied c (subst (λ (z : ℕ). has (commands_of p z) c ≡ true) (sym same) (ap (λ (xs : List ℕ). has xs c) (sym (none_dropped (commands_of p a))) ∙ h));
        made_signals = λ a e r h. absurd (none_taken (signals_of p a) e h);
        later_signals = λ a e r h. let same : j ≡ a = cc in none_made e (subst (λ (z : ℕ). has (signals_of p z) e ≡ true) (sym same) (ap (λ (xs : List ℕ). has xs e) (sym (none_dropped (signals_of p a))) ∙ h));
      }
      (λ _. lane_finished)
      (λ _. reached)

  started_log : Log p (put d.job j 3) d.place d.turn (log_of p d) s.homes (set s.views id (starts v j))
  started_log =
      let h = k.rule.log.holding id v at in
      log_rejob p d.job d.place d.turn (log_of p d) s.homes s.views id j 3 (starts v j) k.rule.log (λ _. refl) record {
        counted = h.counted;
        folded = h.folded;
        job = λ n e. let t = h.job n e in absurd (let a = t.1 in let b = may.idle in cc);
        own = λ a e named.
            let same : j ≡ a = cc in
            let is : d.job a ≡ d.job j = ap d.job (sym same) in
            let t = (k.rule.log.taken a named).0 in
            let l = low in absurd (omega arith);
      }

pub starts_job : (p : Plan) (slots id : ℕ) (m : Mine) (j : ℕ) → RunLaws p → MayStart p m.0 j → Allows (Kept p) slots id m (job_word j) (λ _. 3) (λ _. started (step slots (job_word j) 3 0 none) m 3)
starts_job p slots id m j laws may s k deep at fits =
    let d : Words = words_of s.words in
    let r = k.rule in
    let v : View = m.0 in
    let w : View = starts v j in
    let up : d.job j ≤ 3 = (let l = low p laws s id j v k at may in omega arith) in (
      w,
      keeps,
      tt,
      kept_job p s j 3 (set s.views id w) k may.exists record {
        knowledge = knowledge_stays d (record d { job = put d.job j 3 }) s.views id w (so_job d j 3 up) r.knowledge
            (subst (λ (z : ℕ). 3 ≤ z) (sym (put_here d.job j 3)) (omega arith), facts_stay d (record d { job = put d.job j 3 }) v.known (so_job d j 3 up) (r.knowledge id v at));
        run = started_shown p laws s id j v k at may;
        jobs = started_jobs p laws s id j v k at may;
        log = started_log p laws s id j v k at may;
        ownership = ownership_stays p d.count s.views id v w r.ownership at refl;
        points = points_stay p d.op d.point d.count s.views id v w r.points at refl;
        references = references_stay d.point s.views id v w r.references at refl;
      },
      λ i same. let is : j ≡ i = omega arith in ap (λ (z : ℕ). (starts v z, m.1)) is,
    )

-- Finish

module _ (p : Plan) (laws : RunLaws p) (s : State LoggedBuffers View) (id j : ℕ) (v : View) (k : Kept p s) (at : get_elem? s.views id ≡ some v) (may : MayFinish p v j) where
  abbrev now : Words
  now = words_of s.words

  pub runs : (runner p j ≡ v.role) × (now.job j ≡ 3) × (j < length p.jobs)
  runs = (k.rule.jobs.own id v at).0.runs_one j may.runs

  pub can_end : IsDone p (shown p now) j
  can_end =
      let own = (k.rule.jobs.own id v at).0 in
      let cs : take v.entered (commands_of p j) ≡ commands_of p j = (let whole = may.commands in take_all v.entered (commands_of p j) (omega arith)) in
      let es : take v.signaled (signals_of p j) ≡ signals_of p j = (let whole = may.signals in take_all v.signaled (signals_of p j) (omega arith)) in
      record {
        started = lt-ltb 2 (now.job j) (let t = runs.1 in omega arith);
        unfinished = le-ltb 3 (now.job j) (let t = runs.1 in omega arith);
        commands = list_all_from (has (log_of p now)) (commands_of p j) (λ c h. own.entered_commands j c may.runs (ap (λ (xs : List ℕ). has xs c) cs ∙ h));
        signals = list_all_from (made_of now) (signals_of p j) (λ e h. own.made_signals j e may.runs (ap (λ (xs : List ℕ). has xs e) es ∙ h));
        ready = needs_reached p now s.views v.known j AtEnd laws k.rule.run (k.rule.knowledge id v at) may.reached;
      }

  -- the words after the finish show what the machine has after it
  pub ended_shows : after_progress p (shown p now) (FinishStep j) ≡ shown p (record now { job = put now.job j 4 })
  ended_shows = λ i. record {
    payload = payload_of p (made_of now);
    started = λ a. put_each now.job j 4 (λ b y. ltb 2 (now.job b) ≡ ltb 2 y) (lt-ltb 2 (now.job j) (let t = runs.1 in omega arith)) (λ b ne. refl) a i;
    finished = λ a. put_each now.job j 4 (λ b y. put (shown p now).finished j true b ≡ ltb 3 y) (put_here (shown p now).finished j true) (λ b ne. put_there (shown p now).finished j true b ne) a i;
    made = made_of now;
    applied = log_of p now;
  }

  -- the machine before the finish
  abbrev ends : MachineState
  ends = end_state p (shown p now) now.job s.views k.rule.run

  -- a job that asks is the host's
  of_host : is_silent (question p j) ≡ false → id ≡ 0
  of_host asks = sym (k.rule.ownership.roles id v at) ∙ (sym runs.0 ∙ runner_of_host p j ((plan_hosts p k.plan).asks j asks).0)

  answered : (b : Bool) → is_silent (question p j) ≡ b → (is_silent (question p j) || is_some (ends.answer j)) ≡ true
  answered true e = or_left (is_silent (question p j)) (is_some (ends.answer j)) e
  answered false e = or_right (is_silent (question p j)) (is_some (ends.answer j)) (ap is_some (k.rule.run.answers id v at (of_host e) j) ∙ may.answered e)

  -- what is told is told in order, where the job is silent or answered
  order_ended : (told : List Told) → (is_silent (question p j) ≡ false → is_some (answer_told told j) ≡ true) → InOrder p now.job told → InOrder p (put now.job j 4) told
  order_ended told mine o = record {
    falling = o.falling;
    asks = o.asks;
    begun = λ a h. put_each now.job j 4 (λ b y. 2 < now.job b → 2 < y) (λ g. omega arith) (λ b ne g. g) a (o.begun a h);
    finished = put_each now.job j 4 (λ b y. 3 < y → is_silent (question p b) ≡ false → is_some (answer_told told b) ≡ true) (λ _ e. mine e) (λ b _. o.finished b);
  }

  finished_shown : IsReached p (shown p (record now { job = put now.job j 4 })) (put now.job j 4) (set s.views id (finishes v j))
  finished_shown =
      let r = k.rule.run in
      reach_further p (shown p now) (shown p (record now { job = put now.job j 4 })) (FinishStep j) now.job (put now.job j 4) s.views id (finishes v j) r
      record { done = subst (λ (z : Progress). IsDone p z j) (sym r.leads) can_end; answered = answered (is_silent (question p j)) refl }
      (ap (λ (z : Progress). after_progress p z (FinishStep j)) r.leads ∙ ended_shows)
      (λ h. r.answers id v at h)
      (λ i u ne h a same. same)
      (since_nothing p (after_step p ends (FinishStep j)) v.unmade)
      (λ i u ne e. since_rises p ends (after_step p ends (FinishStep j)) u.runs u.unmade refl (λ a. omega arith))
      (λ h. order_ended v.told may.answered (r.told id v at h))
      (λ i u ne h e. order_ended u.told (λ asks. absurd (ne (h ∙ sym (of_host asks)))))

  finished_jobs : Jobs p (put now.job j 4) (made_of now) (log_of p now) (set s.views id (finishes v j))
  finished_jobs =
      let own = (k.rule.jobs.own id v at).0 in
      jobs_late p now.job (made_of now) (log_of p now) j 4 s.views id v (finishes v j) k.rule.jobs k.rule.ownership.roles at runs.0 (let t = runs.1 in omega arith) (omega arith) (λ _. let t = runs.1 in omega arith) refl
      (runs_none p (put now.job j 4) (made_of now) (log_of p now) v.role v.begun v.entered v.signaled
      (put_each now.job j 4 (λ b y. runner p b ≡ v.role → 2 < y → has v.begun b ≡ true) (λ l _. own.begun_all j l (let t = runs.1 in omega arith)) (λ b ne. own.begun_all b)))
      (λ _ i h g l. k.rule.jobs.lane i j h g l (let t = runs.1 in omega arith))
      (λ _. k.rule.jobs.reached j (let t = runs.1 in omega arith))

  finished_log : Log p (put now.job j 4) now.place now.turn (log_of p now) s.homes (set s.views id (finishes v j))
  finished_log =
      let h = k.rule.log.holding id v at in
      log_rejob p now.job now.place now.turn (log_of p now) s.homes s.views id j 4 (finishes v j) k.rule.log
      (λ named. absurd (let t = h.own j may.runs named in let a = t.1 in let b = may.turnless in cc))
      record {
        counted = h.counted;
        folded = h.folded;
        job = λ n e. absurd (let b = may.turnless in cc);
        own = λ a e named. absurd cc;
      }

pub finishes_job : (p : Plan) (slots id : ℕ) (m : Mine) (j : ℕ) → RunLaws p → MayFinish p m.0 j → Allows (Kept p) slots id m (job_word j) (λ _. 4) (λ _. finished (step slots (job_word j) 4 0 none) m 4)
finishes_job p slots id m j laws may s k deep at fits =
    let d : Words = words_of s.words in
    let r = k.rule in
    let v : View = m.0 in
    let w : View = finishes v j in
    let own = runs p laws s id j v k at may in
    let up : d.job j ≤ 4 = (let t = own.1 in omega arith) in (
      w,
      keeps,
      tt,
      kept_job p s j 4 (set s.views id w) k own.2 record {
        knowledge = knowledge_stays d (record d { job = put d.job j 4 }) s.views id w (so_job d j 4 up) r.knowledge
            (subst (λ (z : ℕ). 4 ≤ z) (sym (put_here d.job j 4)) (omega arith), facts_stay d (record d { job = put d.job j 4 }) v.known (so_job d j 4 up) (r.knowledge id v at));
        run = finished_shown p laws s id j v k at may;
        jobs = finished_jobs p laws s id j v k at may;
        log = finished_log p laws s id j v k at may;
        ownership = ownership_stays p d.count s.views id v w r.ownership at refl;
        points = points_stay p d.op d.point d.count s.views id v w r.points at refl;
        references = references_stay d.point s.views id v w r.references at refl;
      },
      λ i same. let is : j ≡ i = omega arith in ap (λ (z : ℕ). (finishes v z, m.1)) is,
    )
