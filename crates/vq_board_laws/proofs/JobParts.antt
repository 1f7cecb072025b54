-- The parts of the rule where a job's word changes.
use Rattle.std.proofs.Common.{◌≡◌, ◌≢◌, ℕ, suc, ◌<◌, ◌≤◌, Bool, true, List, [], length, set, refl, ap, sym, ◌∙◌, subst, arith, Option, None, length-set}
use mathlib.Core.Option.{some}
use mathlib.Core.Option as maybe
use lib.ListN.{get_elem?}
use Rattle.atomic_table.specs.Table.{State}
use Rattle.vq_model.specs.Plan.{Plan, is_batch, is_host_step}
use Rattle.vq_ground.specs.Lists.{has}
use Rattle.vq_model.specs.Edges.{At}
use Rattle.vq_model.specs.Machine.{put, are_reached}
use Rattle.vq_model.proofs.Puts.{put_there}
use Rattle.vq_board_laws.specs.declared.view.View.{View}
use Rattle.vq_board_laws.specs.declared.view.LoggedBuffers.{LoggedBuffers}
use Rattle.vq_board_laws.specs.declared.view.Fact.{Fact}
use Rattle.vq_board_laws.specs.declared.view.Fact.TheVariants.{Job, Taken, Bound, BoundTo, Made, Past}
use Rattle.vq_board_laws.specs.Roles.{runner, submitter}
use Rattle.vq_board_laws.specs.Words.{Words, words_of, job_word, payload_of}
use Rattle.vq_board_laws.specs.Knowledge.{IsSo, Each, state_number}
use Rattle.vq_board_laws.specs.Jobs.{Jobs, OwnJobs, OwnPhases}
use Rattle.vq_board_laws.specs.Log.{Log, Holding}
use Rattle.vq_board_laws.specs.Rule.{Rule, Kept}
use Rattle.vq_board_laws.proofs.Columns.{put_each, job_set}
use Rattle.vq_board_laws.proofs.Views.{each_pass, away, other_role}

-- The word of a job, in the list of words

pub kept_job : (p : Plan) (s : State LoggedBuffers View) (j x : ℕ) (views : List View) → Kept p s → j < length p.jobs → Rule p (record (words_of s.words) { job = put (words_of s.words).job j x }) s.homes views
    → Kept p record { words = set s.words (job_word j) x; homes = s.homes; views = views }
kept_job p s j x views k inside r = record {
  plan = k.plan;
  lawful = k.lawful;
  count = length-set s.words (job_word j) x ∙ k.count;
  rule = subst (λ (d : Words). Rule p d s.homes views) (sym (job_set s.words j x (let c = k.count in omega arith))) r;
}

-- what was so stays so where the word rises
pub so_job : (d : Words) (j x : ℕ) → d.job j ≤ x → (f : Fact) → IsSo d f → IsSo (record d { job = put d.job j x }) f
so_job d j x up (Job i s) h = put_each d.job j x (λ a y. state_number s ≤ d.job a → state_number s ≤ y) (λ g. omega arith) (λ a ne g. g) i h
so_job d j x up (Taken e) h = h
so_job d j x up (Bound e) h = h
so_job d j x up (BoundTo e q) h = h
so_job d j x up (Made e) h = h
so_job d j x up (Past e) h = h

-- The log and the turn

pub log_rejob : (p : Plan) (job place : ℕ → ℕ) (turn : ℕ) (log : List ℕ) (homes : List (maybe.Option LoggedBuffers)) (views : List View) (id j x : ℕ) (w : View) → Log p job place turn log homes views
    → (turn ≡ suc j → x ≡ 3) → Holding p turn log w.runs w.held w.bytes → Log p (put job j x) place turn log homes (set views id w)
log_rejob p job place turn log homes views id j x w k named mine = record {
  later = k.later;
  free = k.free;
  taken = put_each job j x (λ b y. turn ≡ suc b → (y ≡ 3) × (b < length p.jobs)) (λ g. (named g, (k.taken j g).1)) (λ b _. k.taken b);
  holding = each_pass (λ i z. Holding p turn log z.runs z.held z.bytes) views id w mine (λ i u _ e. k.holding i u e);
}

-- A batch that isn't started

abbrev pub RunFields : Type 0
RunFields = ℕ × List ℕ × Option ℕ × ℕ × ℕ

abbrev pub run_fields : View → RunFields
run_fields v = (v.role, v.begun, v.runs, v.entered, v.signaled)

abbrev pub PhaseFields : Type 0
PhaseFields = ℕ × List ℕ × List ℕ

abbrev pub phase_fields : View → PhaseFields
phase_fields v = (v.role, v.submitted, v.released)

abbrev pub OwnRun : Plan → (ℕ → ℕ) → (ℕ → Bool) → List ℕ → RunFields → Type 0
OwnRun p job made log t = OwnJobs p job made log t.0 t.1 t.2 t.3 t.4

-- of a role that runs no job nothing is said but that what it runs has begun
pub runs_none : (p : Plan) (job : ℕ → ℕ) (made : ℕ → Bool) (log : List ℕ) (role : ℕ) (begun : List ℕ) (entered signaled : ℕ) → ((j : ℕ) → runner p j ≡ role → 2 < job j → has begun j ≡ true)
    → OwnRun p job made log (role, begun, None, entered, signaled)
runs_none p job made log role begun entered signaled all = record {
  begun_all = all;
  runs_one = λ j e. absurd cc;
  entered_commands = λ j c e. absurd cc;
  later_commands = λ j c e. absurd cc;
  made_signals = λ j c e. absurd cc;
  later_signals = λ j c e. absurd cc;
}

module _ (p : Plan) (job : ℕ → ℕ) (made : ℕ → Bool) (log : List ℕ) (j x : ℕ) where
  -- the jobs that a role runs, where the word of a job that hasn't begun rises
  own_early : job j < x → x ≤ 2 → (t : RunFields) → OwnRun p job made log t → OwnRun p (put job j x) made log t
  own_early up low t o = record {
    begun_all = put_each job j x (λ b y. runner p b ≡ t.0 → 2 < y → has t.1 b ≡ true) (λ _ h. absurd (omega arith)) (λ b _. o.begun_all b);
    runs_one = λ a g. let r = o.runs_one a g in (r.0, put_there job j x a (λ e. let h = ap job e in let three = r.1 in omega arith) ∙ r.1, r.2);
    entered_commands = o.entered_commands;
    later_commands = o.later_commands;
    made_signals = o.made_signals;
    later_signals = o.later_signals;
  }

  -- The word of a batch that hasn't begun rises: what is left to show is of what the passes submitted and released.
  pub jobs_early : (views : List View) (id : ℕ) (v w : View) → Jobs p job made log views → Each (λ i z. z.role ≡ i) views → get_elem? views id ≡ some v → job j < x → x ≤ 2 → run_fields w ≡ run_fields v
      → OwnPhases p (put job j x) v.role w.submitted w.released
      → ((role : ℕ) (submitted released : List ℕ) → role ≢ v.role → OwnPhases p job role submitted released → OwnPhases p (put job j x) role submitted released)
      → ((i : ℕ) → is_batch p j ≡ true → i < j → is_host_step p i ≡ true → 3 < job i)
      → Jobs p (put job j x) made log (set views id w)
  jobs_early views id v w k roles at up low same mine others before =
      let rises : (a : ℕ) → 2 < job a → 2 < put job j x a = put_each job j x (λ a y. 2 < job a → 2 < y) (λ h. absurd (omega arith)) (λ a ne h. h) in
      let more : (a : ℕ) → 3 < job a → 3 < put job j x a = put_each job j x (λ a y. 3 < job a → 3 < y) (λ h. absurd (omega arith)) (λ a ne h. h) in
      record {
        own = each_pass (λ i z. OwnRun p (put job j x) made log (run_fields z) × OwnPhases p (put job j x) z.role z.submitted z.released) views id w
            (own_early up low (run_fields w) (subst (OwnRun p job made log) (sym same) (k.own id v at).0), subst (λ (n : ℕ). OwnPhases p (put job j x) n w.submitted w.released) (sym (ap (λ (t : RunFields). t.0) same)) mine)
            (λ i u ne e. (own_early up low (run_fields u) (k.own i u e).0, others u.role u.submitted u.released (other_role i id u v (roles i u e) (roles id v at) ne) (k.own i u e).1));
        absent = λ role h. let t = away views id v w role at (roles id v at) h in let a = k.absent role t.0 in (own_early up low (role, [], None, 0, 0) a.0, others role [] [] t.1 a.1);
        waited = λ i. put_each job j x (λ b y. is_batch p b ≡ true → 0 < y → i < b → is_host_step p i ≡ true → 3 < put job j x i) (λ b _ l h. more i (before i b l h)) (λ b ne c g l h. more i (k.waited i b c g l h));
        lane = λ i. put_each job j x (λ b y. is_host_step p i ≡ true → is_host_step p b ≡ true → i < b → 2 < y → 3 < put job j x i) (λ _ _ _ h. absurd (omega arith)) (λ b ne g h l t. more i (k.lane i b g h l t));
        ranged = put_each job j x (λ a y. y ≤ 4) (omega arith) (λ a ne. k.ranged a);
        applied_begun = λ c h. let t = k.applied_begun c h in (t.0, t.1, rises t.0 t.2);
        made_begun = λ e a h o. rises a (k.made_begun e a h o);
        reached = put_each job j x (λ a y. 2 < y → are_reached p (payload_of p made) a (At 1) ≡ true) (λ h. absurd (omega arith)) (λ a ne. k.reached a);
      }

  -- what is submitted and released stays so
  phases_late : (is_batch p j ≡ true → 1 < job j) → (role : ℕ) (submitted released : List ℕ) → OwnPhases p job role submitted released → OwnPhases p (put job j x) role submitted released
  phases_late ready role submitted released o = record {
    submitted_all = λ h. put_each job j x (λ b y. is_batch p b ≡ true → 0 < y → has submitted b ≡ true) (λ batch _. o.submitted_all h j batch (let g = ready batch in omega arith)) (λ b ne. o.submitted_all h b);
    released_all = put_each job j x (λ b y. is_batch p b ≡ true → submitter p b ≡ role → 1 < y → has released b ≡ true) (λ batch l _. o.released_all j batch l (ready batch)) (λ b ne. o.released_all b);
  }

  -- the jobs that another role runs, where a job that it doesn't run goes on
  own_else : (t : RunFields) → ((a : ℕ) → runner p a ≡ t.0 → a ≢ j) → OwnRun p job made log t → OwnRun p (put job j x) made log t
  own_else t apart o = record {
    begun_all = put_each job j x (λ b y. runner p b ≡ t.0 → 2 < y → has t.1 b ≡ true) (λ l _. absurd (apart j l refl)) (λ b _. o.begun_all b);
    runs_one = λ a g. let r = o.runs_one a g in (r.0, put_there job j x a (apart a r.0) ∙ r.1, r.2);
    entered_commands = o.entered_commands;
    later_commands = o.later_commands;
    made_signals = o.made_signals;
    later_signals = o.later_signals;
  }

  -- The word of a job that is released, or of a host step, rises: what is left to show is of the jobs that the pass runs.
  pub jobs_late : (views : List View) (id : ℕ) (v w : View) → Jobs p job made log views → Each (λ i z. z.role ≡ i) views → get_elem? views id ≡ some v → runner p j ≡ v.role → job j ≤ x → x ≤ 4
      → (is_batch p j ≡ true → 1 < job j) → phase_fields w ≡ phase_fields v
      → OwnRun p (put job j x) made log (v.role, w.begun, w.runs, w.entered, w.signaled)
      → (2 < x → (i : ℕ) → is_host_step p i ≡ true → is_host_step p j ≡ true → i < j → 3 < job i)
      → (2 < x → are_reached p (payload_of p made) j (At 1) ≡ true)
      → Jobs p (put job j x) made log (set views id w)
  jobs_late views id v w k roles at runs up low ready same mine lane reached =
      let rises : (a : ℕ) → 2 < job a → 2 < put job j x a = put_each job j x (λ a y. 2 < job a → 2 < y) (λ h. omega arith) (λ a ne h. h) in
      let more : (a : ℕ) → 3 < job a → 3 < put job j x a = put_each job j x (λ a y. 3 < job a → 3 < y) (λ h. omega arith) (λ a ne h. h) in
      let apart : (role : ℕ) → role ≢ v.role → (a : ℕ) → runner p a ≡ role → a ≢ j = λ role ne a l g. ne (sym l ∙ (ap (runner p) g ∙ runs)) in
      let P : PhaseFields → Type 0 = λ t. OwnPhases p (put job j x) t.0 t.1 t.2 in
      record {
        own = each_pass (λ i z. OwnRun p (put job j x) made log (run_fields z) × OwnPhases p (put job j x) z.role z.submitted z.released) views id w
            (subst (λ (n : ℕ). OwnRun p (put job j x) made log (n, w.begun, w.runs, w.entered, w.signaled)) (sym (ap (λ (t : PhaseFields). t.0) same)) mine, subst P (sym same) (phases_late ready v.role v.submitted v.released (k.own id v at).1))
            (λ i u ne e. (own_else (run_fields u) (apart u.role (other_role i id u v (roles i u e) (roles id v at) ne)) (k.own i u e).0, phases_late ready u.role u.submitted u.released (k.own i u e).1));
        absent = λ role h. let t = away views id v w role at (roles id v at) h in let a = k.absent role t.0 in (own_else (role, [], None, 0, 0) (apart role t.1) a.0, phases_late ready role [] [] a.1);
        waited = λ i. put_each job j x (λ b y. is_batch p b ≡ true → 0 < y → i < b → is_host_step p i ≡ true → 3 < put job j x i) (λ b _ l h. more i (k.waited i j b (let g = ready b in omega arith) l h)) (λ b ne c g l h. more i (k.waited i b c g l h));
        lane = λ i. put_each job j x (λ b y. is_host_step p i ≡ true → is_host_step p b ≡ true → i < b → 2 < y → 3 < put job j x i) (λ g h l t. more i (lane t i g h l)) (λ b ne g h l t. more i (k.lane i b g h l t));
        ranged = put_each job j x (λ a y. y ≤ 4) low (λ a ne. k.ranged a);
        applied_begun = λ c h. let t = k.applied_begun c h in (t.0, t.1, rises t.0 t.2);
        made_begun = λ e a h o. rises a (k.made_begun e a h o);
        reached = put_each job j x (λ a y. 2 < y → are_reached p (payload_of p made) a (At 1) ≡ true) reached (λ a ne. k.reached a);
      }
