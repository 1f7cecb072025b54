-- The signal of an operation keeps the rule.
use Rattle.std.proofs.Common.{◌≡◌, ◌≢◌, ◌⊎◌, ℕ, suc, ◌+◌, ◌%◌, ◌^◌, ◌<◌, ◌≤◌, Bool, true, false, List, [], length, take, take_all, drop, set, refl, ap, sym, ◌∙◌, subst, arith, inl, inr, Option, Some, length-set, lt-ltb, le-ltb}
use mathlib.Core.Option.{some, none}
use mathlib.Core.Logic.{dite}
use Rattle.std.proofs.lemmas.Option.{same_Some}
use Rattle.vq_ground.proofs.Gets.{get_has}
use native.Mathlib.Decide.{ℕ_discrete, dec_le}
use lib.ListN.{get_elem?}
use Rattle.std.specs.List.{slice_get}
use Rattle.std.proofs.lemmas.Bool.{false_from_ne_true, false≢true}
use Rattle.atomic_table.specs.Table.{State, step, keeps, Allows}
use Rattle.vq_model.specs.Plan.{Plan, value, chain_of, job_of, commands_of, signals_of}
use Rattle.vq_ground.specs.Lists.{has}
use Rattle.vq_model.specs.Edges.{At, AtEnd}
use Rattle.vq_model.specs.Machine.{put, Progress, State as RunState, SignalStep, CanSignal, with_signal, after_progress, after_step}
use Rattle.vq_model.specs.WellFormed.{IsWellFormed}
use Rattle.vq_ground.proofs.Lists.{has_here, has_there, list_all_from}
use Rattle.vq_model.proofs.Puts.{put_here, put_keeps}
use Rattle.vq_plan_laws.proofs.Cited.{plan_well_formed}
use Rattle.vq_order_laws.proofs.Cited.{op_chain, are_reached_still}
use Rattle.vq_point_laws.specs.PointWord.{parts}
use Rattle.vq_board_laws.specs.declared.view.View.{View}
use Rattle.vq_board_laws.specs.declared.view.LoggedBuffers.{LoggedBuffers}
use Rattle.vq_board_laws.specs.declared.view.Reference.{Reference}
use Rattle.vq_board_laws.specs.declared.view.Fact.{Fact}
use Rattle.vq_board_laws.specs.declared.view.Fact.TheVariants.{Job, Taken, Bound, BoundTo, Made, Past}
use Rattle.vq_board_laws.specs.Roles.{runner}
use Rattle.vq_board_laws.specs.Words.{Words, Carries, words_of, point_word, made_of, log_of, payload_of, shown, shows_made}
use Rattle.vq_board_laws.specs.Knowledge.{IsSo, Knows}
use Rattle.vq_board_laws.specs.Jobs.{Jobs, OwnJobs, OwnPhases}
use Rattle.vq_board_laws.specs.Points.{Points, OwnShelf, Lists, IsWord, reference}
use Rattle.vq_board_laws.specs.References.{References, refs_to}
use Rattle.vq_board_laws.specs.PointSteps.{signals, signaled}
use Rattle.vq_board_laws.specs.MayPoints.{MaySignal}
use Rattle.vq_board_laws.specs.Reached.{IsReached, SinceStart}
use Rattle.vq_board_laws.specs.RunLaws.{RunLaws}
use Rattle.vq_board_laws.specs.Rule.{Rule, Kept}
use Rattle.vq_board_laws.specs.Steps.{Mine}
use Rattle.vq_board_laws.proofs.Columns.{put_each, point_set}
use Rattle.vq_board_laws.proofs.Frames.{facts_stay, knowledge_stays, so_of, log_stays, ownership_stays}
use Rattle.vq_board_laws.proofs.JobParts.{runs_none}
use Rattle.vq_board_laws.proofs.MadeWords.{bound_value, past_value, signaled_value, made_point_at}
use Rattle.vq_board_laws.proofs.Needs.{needs_reached}
use Rattle.vq_board_laws.proofs.Payloads.{payload_set, payload_rises}
use Rattle.vq_board_laws.proofs.PointBits.{signaled_held, signaled_set, signaled_op, signaled_refs, signaled_word, signaled_fits, no_word}
use Rattle.vq_board_laws.proofs.Runs.{end_state, reach_further}
use Rattle.vq_board_laws.proofs.Taken.{next_at, taken_more, drop_next, dropped_has, later_greater}
use Rattle.vq_board_laws.proofs.Views.{each_pass, same_length, other_role, sum_stays}

module _ (p : Plan) (s : State LoggedBuffers View) (id e q : ℕ) (v : View) (laws : RunLaws p) (may : MaySignal p v e) (bound : Knows v.known (BoundTo e q)) (k : Kept p s) (at : get_elem? s.views id ≡ some v) where
  abbrev d : Words
  d = words_of s.words

  abbrev n : ℕ
  n = d.point q

  abbrev x : ℕ
  x = n + 2 ^ 48

  abbrev d' : Words
  d' = record d { point = put d.point q x }

  abbrev j : ℕ
  j = may.job

  abbrev made : ℕ → Bool
  made = made_of d

  abbrev made' : ℕ → Bool
  made' = made_of d'

  abbrev log : List ℕ
  log = log_of p d

  abbrev w : View
  w = signals v e q n

  own : OwnJobs p d.job made log v.role v.begun v.runs v.entered v.signaled
  own = (k.rule.jobs.own id v at).0

  runs : (runner p j ≡ v.role) × (d.job j ≡ 3) × (j < length p.jobs)
  runs = own.runs_one j may.runs

  formed : IsWellFormed p
  formed = plan_well_formed p k.plan

  in_job : has (signals_of p j) e ≡ true
  in_job = get_has (signals_of p j) v.signaled e may.next

  job : job_of p e ≡ Some j
  job = formed.of_job e j in_job

  in_chain : (t : ℕ) × (chain_of p e ≡ Some t)
  in_chain = op_chain p e j job

  unmade : made e ≡ false
  unmade = own.later_signals j e may.runs (subst (λ (es : List ℕ). has es e ≡ true) (sym (drop_next (signals_of p j) v.signaled e may.next)) (has_here e (drop (suc v.signaled) (signals_of p j))))

  pub word : d.op e ≡ q + 2
  word = elim (so_of d v.known (BoundTo e q) (k.rule.knowledge id v at) bound) [
    | inl h ↦ h
    | inr h ↦ absurd (false≢true (sym unmade ∙ past_value d.op d.point e h))
  ]

  carries : Carries n e
  carries = k.rule.points.carried e q word

  clear : (parts n).signaled ≡ false
  clear = false_from_ne_true (parts n).signaled (λ h. false≢true (sym unmade ∙ (bound_value d.op d.point e q word ∙ signaled_value n e carries h)))

  up : (a : ℕ) → Carries n a → Carries x a
  up a c = record { held = signaled_held n clear ∙ c.held; op = signaled_op n clear ∙ c.op }

  down : (a : ℕ) → Carries x a → Carries n a
  down a c = record { held = sym (signaled_held n clear) ∙ c.held; op = sym (signaled_op n clear) ∙ c.op }

  made_now : made' e ≡ true
  made_now = bound_value d.op d'.point e q word ∙ (ap (λ (y : ℕ). shows_made y e) (put_here d.point q x) ∙ signaled_value x e (up e carries) (signaled_set n clear))

  made_else : (a : ℕ) → a ≢ e → made' a ≡ made a
  made_else a ne = made_point_at d.op d.point q x a (λ is. absurd (ne (sym (k.rule.points.carried a q is).op ∙ carries.op)))

  made_is : put made e true ≡ made'
  made_is = λ i a. put_each made e true (λ b y. y ≡ made' b) (sym made_now) (λ b ne. sym (made_else b ne)) a i

  -- what is made stays made
  made_up : (a : ℕ) → made a ≡ true → made' a ≡ true
  made_up a h = ap (λ (m : ℕ → Bool). m a) (sym made_is) ∙ put_keeps made e a h

  so_signal : (f : Fact) → IsSo d f → IsSo d' f
  so_signal (Job a s) h = h
  so_signal (Taken a) h = elim h [ inl ne ↦ inl ne | inr c ↦ inr (c.0, put_each d.point q x (λ b y. Carries (d.point b) a → Carries y a) (up a) (λ b _ g. g) c.0 c.1) ]
  so_signal (Bound a) h = h
  so_signal (BoundTo a b) h = h
  so_signal (Made a) h = made_up a h
  so_signal (Past a) h = h

  -- The run

  low : payload_of p made in_chain.0 < value p e
  low =
      let r = k.rule.run in
      elim (dec_le (value p e) (payload_of p made in_chain.0)) [
        | yes h ↦ absurd (false≢true (sym unmade ∙ (ap (λ (z : Progress). z.made e) (sym r.leads) ∙ (laws.0 r.steps r.run e in_chain.0 in_chain.1).1
            (subst (λ (z : Progress). value p e ≤ z.payload in_chain.0) (sym r.leads) h))))
        | no h ↦ omega arith
      ]

  pub can_signal : CanSignal p (shown p d) e
  can_signal =
      let all : take v.entered (commands_of p j) ≡ commands_of p j = (let whole = may.commands in take_all v.entered (commands_of p j) (omega arith)) in
      record {
        job = j;
        chain = in_chain.0;
        in_chain = in_chain.1;
        started = lt-ltb 2 (d.job j) (let t = runs.1 in omega arith);
        unfinished = le-ltb 3 (d.job j) (let t = runs.1 in omega arith);
        commands = list_all_from (has log) (commands_of p j) (λ c h. own.entered_commands j c may.runs (ap (λ (xs : List ℕ). has xs c) all ∙ h));
        next = next_at made (signals_of p j) v.signaled e may.next (λ a h. own.made_signals j a may.runs h) unmade;
        ready = needs_reached p d s.views v.known j AtEnd laws k.rule.run (k.rule.knowledge id v at) may.reached;
        rises = low;
      }

  payload_is : (u : ℕ) → put (payload_of p made) in_chain.0 (value p e) u ≡ payload_of p made' u
  payload_is u = payload_set p formed made e in_chain.0 in_chain.1 low u ∙ ap (λ (m : ℕ → Bool). payload_of p m u) made_is

  payload_up : (u : ℕ) → payload_of p made u ≤ payload_of p made' u
  payload_up u = subst (λ (m : ℕ → Bool). payload_of p made u ≤ payload_of p m u) made_is (payload_rises p formed made e in_chain.0 in_chain.1 low u)

  -- the words after the signal show what the machine has after it
  pub signal_shows : after_progress p (shown p d) (SignalStep e) ≡ shown p d'
  signal_shows = ap (with_signal p (shown p d) e) in_chain.1 ∙ (λ i. record { payload = λ u. payload_is u i; started = (shown p d).started; finished = (shown p d).finished; made = made_is i; applied = log })

  abbrev end : RunState
  end = end_state p (shown p d) d.job s.views k.rule.run

  abbrev later : RunState
  later = after_step p end (SignalStep e)

  later_is : later.progress ≡ shown p d'
  later_is = ap (λ (z : Progress). after_progress p z (SignalStep e)) k.rule.run.leads ∙ signal_shows

  end_up : (u : ℕ) → end.progress.payload u ≤ later.progress.payload u
  end_up u =
      let a : end.progress.payload u ≡ payload_of p made u = ap (λ (z : Progress). z.payload u) k.rule.run.leads in
      let b : later.progress.payload u ≡ payload_of p made' u = ap (λ (z : Progress). z.payload u) later_is in
      let c = payload_up u in omega arith

  since_up : (running : Option ℕ) (noted : List ℕ) → SinceStart p end running noted → SinceStart p later running noted
  since_up running noted o = record { payload = o.payload; rises = λ a u is. (let l = o.rises a u is in let r = end_up u in omega arith); noted = o.noted }

  signaled_run : IsReached p (shown p d') d'.job (set s.views id w)
  signaled_run =
      let r = k.rule.run in
      reach_further p (shown p d) (shown p d') (SignalStep e) d.job d.job s.views id w r (subst (λ (z : Progress). CanSignal p z e) (sym r.leads) can_signal) later_is
      (λ h. r.answers id v at h)
      (λ i u ne h a is. is)
      (since_up v.runs v.unmade (r.since id v at))
      (λ i u ne t o. since_up u.runs u.unmade o)
      (λ h. r.told id v at h)
      (λ i u ne h t o. o)

  -- The jobs

  -- the signals of a job that another pass runs are as they were
  jobs_else : (u : View) → u.role ≢ v.role → OwnJobs p d.job made log u.role u.begun u.runs u.entered u.signaled → OwnJobs p d.job made' log u.role u.begun u.runs u.entered u.signaled
  jobs_else u ne o = record {
    begun_all = o.begun_all;
    runs_one = o.runs_one;
    entered_commands = o.entered_commands;
    later_commands = o.later_commands;
    made_signals = λ a b is h. made_up b (o.made_signals a b is h);
    later_signals = λ a b is h. made_else b (λ same.
        let theirs : job_of p e ≡ Some a = sym (ap (job_of p) same) ∙ formed.of_job b a (dropped_has (signals_of p a) u.signaled b h) in
        let one : a ≡ j = same_Some a j (sym theirs ∙ job) in
        ne (sym (o.runs_one a is).0 ∙ (ap (runner p) one ∙ runs.0))) ∙ o.later_signals a b is h;
  }

  own_next : OwnJobs p d.job made' log v.role v.begun v.runs v.entered (suc v.signaled)
  own_next = record {
    begun_all = own.begun_all;
    runs_one = own.runs_one;
    entered_commands = own.entered_commands;
    later_commands = own.later_commands;
    made_signals = λ a b is h.
        let same : j ≡ a = (let g = may.runs in cc) in
        elim (taken_more (signals_of p j) v.signaled e b may.next (subst (λ (z : ℕ). has (take (suc v.signaled) (signals_of p z)) b ≡ true) (sym same) h)) [
          | inl m ↦ made_up b (own.made_signals j b may.runs m)
          | inr here ↦ subst (λ (z : ℕ). made' z ≡ true) here made_now
        ];
    later_signals = λ a b is h.
        let same : j ≡ a = (let g = may.runs in cc) in
        let after : has (drop (suc v.signaled) (signals_of p j)) b ≡ true = subst (λ (z : ℕ). has (drop (suc v.signaled) (signals_of p z)) b ≡ true) (sym same) h in
        let above = later_greater (signals_of p j) v.signaled e b (formed.signals j) may.next after in
        made_else b (λ here. omega arith)
        ∙ own.later_signals j b may.runs (subst (λ (es : List ℕ). has es b ≡ true) (sym (drop_next (signals_of p j) v.signaled e may.next)) (has_there e (drop (suc v.signaled) (signals_of p j)) b after));
  }

  signaled_jobs : Jobs p d.job made' log (set s.views id w)
  signaled_jobs =
      let roles = k.rule.ownership.roles in
      record {
        own = each_pass (λ i z. OwnJobs p d.job made' log z.role z.begun z.runs z.entered z.signaled × OwnPhases p d.job z.role z.submitted z.released) s.views id w
            (own_next, (k.rule.jobs.own id v at).1)
            (λ i u ne t. (jobs_else u (other_role i id u v (roles i u t) (roles id v at) ne) (k.rule.jobs.own i u t).0, (k.rule.jobs.own i u t).1));
        absent = λ role h. let a = k.rule.jobs.absent role (same_length s.views id role w h) in (runs_none p d.job made' log role [] 0 0 a.0.begun_all, a.1);
        waited = k.rule.jobs.waited;
        lane = k.rule.jobs.lane;
        ranged = k.rule.jobs.ranged;
        applied_begun = k.rule.jobs.applied_begun;
        made_begun = λ a b h o. dite (ℕ_discrete a e)
            (λ is. let one : b ≡ j = same_Some b j (sym o ∙ (ap (job_of p) is ∙ job)) in let same = ap d.job one in let t = runs.1 in omega arith)
            (λ ne. k.rule.jobs.made_begun a b (sym (made_else a ne) ∙ h) o);
        reached = λ a h. are_reached_still p (payload_of p made) (payload_of p made') payload_up a (At 1) (k.rule.jobs.reached a h);
      }

  -- The points

  shelf_up : (role : ℕ) (owned : List ℕ) (carrying : List Reference) (b past : List ℕ) → OwnShelf p d.op d.point role owned carrying b past → OwnShelf p d.op d'.point role owned carrying b past
  shelf_up role owned carrying b past o = record {
    free = put_each d.point q x (λ a y. has owned a ≡ true → ((f : ℕ) → ¬ Lists carrying (reference a f)) → y ≡ 0) (λ mem empty. absurd (no_word n e (o.free q mem empty) carries)) (λ a _. o.free a);
    taken = λ a f m. let t = o.taken a f m in (t.0, t.1, put_each d.point q x (λ c y. Carries (d.point c) f → Carries y f) (up f) (λ c _ g. g) a t.2);
    complete = λ a f l. put_each d.point q x (λ c y. Carries y f → Lists carrying (reference c f)) (λ c. o.complete q f l (down f c)) (λ c _. o.complete c f l) a;
    single = o.single;
    bound_all = o.bound_all;
    bound_only = o.bound_only;
    past_all = o.past_all;
    past_only = o.past_only;
  }

  signaled_points : Points p d.op d'.point d.count (set s.views id w)
  signaled_points =
      let o = k.rule.points in
      record {
        carried = λ a. put_each d.point q x (λ c y. d.op a ≡ c + 2 → Carries y a) (λ is. up a (o.carried a q is)) (λ c _. o.carried a c);
        home = λ c a. put_each d.point q x (λ b y. Carries y a → (d.op a ≡ 0) ⊎ (d.op a ≡ b + 2) ⊎ (d.op a ≡ 1)) (λ h. o.home q a (down a h)) (λ b _. o.home b a) c;
        past_set = λ c a. put_each d.point q x (λ b y. Carries y a → d.op a ≡ 1 → (parts y).signaled ≡ true) (λ h is. signaled_set n clear) (λ b _. o.past_set b a) c;
        clear = λ c a. put_each d.point q x (λ b y. Carries y a → d.op a ≡ 0 → (parts y).signaled ≡ false)
            (λ h is. absurd (let same : e ≡ a = sym carries.op ∙ (down a h).op in let there = ap d.op same in let here = word in omega arith))
            (λ b _. o.clear b a) c;
        unmade = put_each d.point q x (λ a y. d.count ≤ a → y ≡ 0) (λ h. absurd (no_word n e (o.unmade q h) carries)) (λ a _. o.unmade a);
        words = put_each d.point q x (λ a y. IsWord y) (signaled_word n clear (o.words q) carries.held) (λ a _. o.words a);
        shelves = each_pass (λ i z. OwnShelf p d.op d'.point z.role z.owned z.carrying z.bound z.past) s.views id w (shelf_up v.role v.owned v.carrying v.bound v.past (o.shelves id v at))
            (λ i u _ t. shelf_up u.role u.owned u.carrying u.bound u.past (o.shelves i u t));
        absent = λ role h. shelf_up role [] [] [] [] (o.absent role (same_length s.views id role w h));
      }

  refs_up : (rs : List Reference) → ((a f : ℕ) → Lists rs (reference a f) → Carries (d.point a) f) → (a f : ℕ) → Lists rs (reference a f) → Carries (d'.point a) f
  refs_up rs h a f m = put_each d.point q x (λ c y. Carries (d.point c) f → Carries y f) (up f) (λ c _ g. g) a (h a f m)

  signaled_references : References d'.point (set s.views id w)
  signaled_references =
      let o = k.rule.references in
      record {
        carried = each_pass (λ i z. (a f : ℕ) → Lists z.refs (reference a f) → Carries (d'.point a) f) s.views id w (refs_up v.refs (o.carried id v at)) (λ i u _ t. refs_up u.refs (o.carried i u t));
        few = each_pass (λ i z. length z.refs ≤ 16) s.views id w (o.few id v at) (λ i u _ t. o.few i u t);
        counts = λ a. put_each d.point q x (λ c y. (parts y).refs ≡ (parts (d.point c)).refs) (signaled_refs n clear) (λ c _. refl) a ∙ (o.counts a ∙ sym (sum_stays (refs_to a) s.views id v w at refl));
      }

  signaled_kept : q < length p.ops → Kept p record { words = set s.words (point_word q) x; homes = s.homes; views = set s.views id w }
  signaled_kept inside = record {
    plan = k.plan;
    lawful = k.lawful;
    count = length-set s.words (point_word q) x ∙ k.count;
    rule = subst (λ (z : Words). Rule p z s.homes (set s.views id w)) (sym (point_set s.words q x (let c = k.count in omega arith))) record {
      knowledge = knowledge_stays d d' s.views id w so_signal k.rule.knowledge (made_now, facts_stay d d' v.known so_signal (k.rule.knowledge id v at));
      run = signaled_run;
      jobs = signaled_jobs;
      log = log_stays p d.job d.place d.turn log s.homes s.views id v w k.rule.log at refl;
      ownership = ownership_stays p d.count s.views id v w k.rule.ownership at refl;
      points = signaled_points;
      references = signaled_references;
    };
  }

-- the operation that a pass may signal next is one
one_signal : (p : Plan) (v : View) (e f : ℕ) → MaySignal p v e → MaySignal p v f → e ≡ f
one_signal p v e f a b =
    let same : a.job ≡ b.job = same_Some a.job b.job (sym a.runs ∙ b.runs) in
    same_Some e f (sym a.next ∙ (ap (λ (j : ℕ). slice_get (signals_of p j) v.signaled) same ∙ b.next))

pub signals_op : (p : Plan) (slots id : ℕ) (m : Mine) (e q : ℕ) → RunLaws p → MaySignal p m.0 e → Knows m.0.known (BoundTo e q) → q < length p.ops
    → Allows (Kept p) slots id m (point_word q) (λ n. (n + 2 ^ 48) % 2 ^ 64) (signaled (step slots (point_word q) (2 ^ 48) 0 none) m)
signals_op p slots id m e q laws may bound inside s k deep at fits =
    let v : View = m.0 in
    let found : ℕ = (words_of s.words).point q in
    let no_wrap : (found + 2 ^ 48) % 2 ^ 64 ≡ found + 2 ^ 48 = signaled_fits found (clear p s id e q v laws may bound k at) (k.rule.points.words q) in
    let plan : v.plan ≡ p = k.rule.ownership.plans id v at in (
      signals v e q found,
      keeps,
      tt,
      subst (λ (z : ℕ). Kept p record { words = set s.words (point_word q) z; homes = s.homes; views = set s.views id (signals v e q found) }) (sym no_wrap)
          (signaled_kept p s id e q v laws may bound k at inside),
      λ a f is its.
          let a_is : q ≡ a = omega arith in
          let f_is : e ≡ f = one_signal p v e f may (subst (λ (z : Plan). MaySignal z v f) plan its) in
          ap (λ (z : ℕ × ℕ). (signals v z.1 z.0 found, m.1)) (λ i. (a_is i, f_is i)),
    )
