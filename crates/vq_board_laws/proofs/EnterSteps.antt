-- Entering a command in the log keeps the rule.
use Rattle.std.proofs.Common.{◌≡◌, ◌≢◌, ℕ, suc, ◌+◌, ◌<◌, true, false, List, [], ◌∷◌, ◌++◌, length, set, refl, ap, sym, ◌∙◌, subst, arith, inl, inr, Some, take, drop, length-set, length-append}
use mathlib.Core.Option.{some, none}
use lib.ListN.{get_elem?}
use Rattle.std.proofs.lemmas.Bool.{lt-ltb, le-ltb}
use Rattle.vq_spec.proofs.Cited.{bytes_push}
use Rattle.vq_ground.proofs.Gets.{get_has}
use Rattle.atomic_table.specs.Table.{State, step, keeps, Allows}
use Rattle.vq_model.specs.declared.script.Command.{Command}
use Rattle.vq_model.specs.Memory.{effect}
use Rattle.vq_model.specs.Plan.{Plan, commands_of, command_at}
use Rattle.vq_ground.specs.Lists.{has}
use Rattle.vq_model.specs.Edges.{stage_of}
use Rattle.vq_model.specs.Machine.{Progress, State as MachineState, put, CanApply, ApplyStep, after_progress, after_step}
use Rattle.vq_ground.proofs.Lists.{has_here, has_there, has-append_left, has-append_right, pushed, not_pushed}
use Rattle.vq_model.proofs.Puts.{put_there}
use Rattle.vq_plan_laws.proofs.Cited.{plan_well_formed}
use Rattle.vq_board_laws.specs.declared.view.View.{View}
use Rattle.vq_board_laws.specs.declared.view.LoggedBuffers.{LoggedBuffers}
use Rattle.vq_board_laws.specs.Roles.{runner}
use Rattle.vq_board_laws.specs.Words.{Words, words_of, place_word, made_of, log_of, payload_of, shown}
use Rattle.vq_board_laws.specs.Jobs.{Jobs, OwnPhases}
use Rattle.vq_board_laws.specs.Log.{Log, Holding}
use Rattle.vq_board_laws.specs.Reached.{IsReached}
use Rattle.vq_board_laws.specs.RunLaws.{RunLaws}
use Rattle.vq_board_laws.specs.Rule.{Rule, Kept}
use Rattle.vq_board_laws.specs.May.{MayEnter}
use Rattle.vq_board_laws.specs.Steps.{Mine, enters, entered}
use Rattle.vq_board_laws.proofs.Columns.{place_set}
use Rattle.vq_board_laws.proofs.Frames.{facts_stay, so_unread, knowledge_stays, ownership_stays, points_stay, references_stay}
use Rattle.vq_board_laws.proofs.JobParts.{RunFields, run_fields, runs_none, OwnRun}
use Rattle.vq_board_laws.proofs.Needs.{needs_reached}
use Rattle.vq_board_laws.proofs.Logs.{filled_put, has_room}
use Rattle.vq_board_laws.proofs.Runs.{end_state, reach_further}
use Rattle.vq_board_laws.proofs.Since.{since_rises}
use Rattle.vq_board_laws.proofs.Taken.{next_at, taken_more, drop_next, dropped_has, later_greater}
use Rattle.vq_board_laws.proofs.TurnSteps.{one_holder}
use Rattle.vq_board_laws.proofs.Views.{each_pass, same_length, other_role}

module _ (p : Plan) (laws : RunLaws p) (s : State LoggedBuffers View) (id c : ℕ) (v : View) (k : Kept p s) (at : get_elem? s.views id ≡ some v) (may : MayEnter p v c) where
  abbrev d : Words
  d = words_of s.words

  abbrev log : List ℕ
  log = log_of p d

  abbrev log' : List ℕ
  log' = log ++ c ∷ []

  abbrev n : ℕ
  n = may.filled

  abbrev j : ℕ
  j = may.job

  own : OwnRun p d.job (made_of d) log (run_fields v)
  own = (k.rule.jobs.own id v at).0

  runs : (runner p j ≡ v.role) × (d.job j ≡ 3) × (j < length p.jobs)
  runs = own.runs_one j may.runs

  count : n ≡ length log
  count = (k.rule.log.holding id v at).counted n may.held

  in_job : has (commands_of p j) c ≡ true
  in_job = get_has (commands_of p j) v.entered c may.next

  new : has log c ≡ false
  new = own.later_commands j c may.runs (subst (λ (cs : List ℕ). has cs c ≡ true) (sym (drop_next (commands_of p j) v.entered c may.next)) (has_here c (drop (suc v.entered) (commands_of p j))))

  pub room : n < length p.commands
  room = let r = has_room p (shown p d) d.job s.views j c (plan_well_formed p k.plan) k.rule.run in_job new in let e = count in omega arith

  abbrev d' : Words
  d' = record d { place = put d.place n (suc c) }

  longer : log_of p d' ≡ log'
  longer = filled_put d.place n c (length p.commands) room (λ i h. k.rule.log.later i (let e = count in omega arith))

  -- the commands of a job that another pass runs are as they were
  own_else : (i : ℕ) (t : RunFields) → t.0 ≢ v.role → OwnRun p d.job (made_of d) log t → OwnRun p d.job (made_of d) log' t
  own_else i t ne o = record {
    begun_all = o.begun_all;
    runs_one = o.runs_one;
    entered_commands = λ a b e h. has-append_left log (c ∷ []) b (o.entered_commands a b e h);
    later_commands = λ a b e h. not_pushed log c b (o.later_commands a b e h) (λ is.
        let same : j ≡ a = (plan_well_formed p k.plan).one_job c j a in_job (subst (λ (z : ℕ). has (commands_of p a) z ≡ true) (sym is) (dropped_has (commands_of p a) t.3 b h)) in
        ne (sym (o.runs_one a e).0 ∙ (ap (runner p) (sym same) ∙ runs.0)));
    made_signals = o.made_signals;
    later_signals = o.later_signals;
  }

  own_next : OwnRun p d.job (made_of d) log' (v.role, v.begun, v.runs, suc v.entered, v.signaled)
  own_next = record {
    begun_all = own.begun_all;
    runs_one = own.runs_one;
    entered_commands = λ a b e h.
        let same : j ≡ a = (let g = may.runs in cc) in
        elim (taken_more (commands_of p j) v.entered c b may.next (subst (λ (z : ℕ). has (take (suc v.entered) (commands_of p z)) b ≡ true) (sym same) h)) [
          | inl m ↦ has-append_left log (c ∷ []) b (own.entered_commands j b may.runs m)
          | inr is ↦ subst (λ (z : ℕ). has log' z ≡ true) is (has-append_right log (c ∷ []) c (has_here c []))
        ];
    later_commands = λ a b e h.
        let same : j ≡ a = (let g = may.runs in cc) in
        let after : has (drop (suc v.entered) (commands_of p j)) b ≡ true = subst (λ (z : ℕ). has (drop (suc v.entered) (commands_of p z)) b ≡ true) (sym same) h in
        let above = later_greater (commands_of p j) v.entered c b ((plan_well_formed p k.plan).commands j) may.next after in
        not_pushed log c b (own.later_commands j b may.runs (subst (λ (cs : List ℕ). has cs b ≡ true) (sym (drop_next (commands_of p j) v.entered c may.next)) (has_there c (drop (suc v.entered) (commands_of p j)) b after)))
        (λ is. omega arith);
    made_signals = own.made_signals;
    later_signals = own.later_signals;
  }

  length_longer : length log' ≡ suc (length log)
  length_longer = omega (arith, length-append log (c ∷ []))

  pub can_apply : CanApply p (shown p d) j c
  can_apply = record {
    started = lt-ltb 2 (d.job j) (let t = runs.1 in omega arith);
    unfinished = le-ltb 3 (d.job j) (let t = runs.1 in omega arith);
    next = next_at (has log) (commands_of p j) v.entered c may.next (λ b h. own.entered_commands j b may.runs h) new;
    ready = needs_reached p d s.views v.known j (stage_of p j c) laws k.rule.run (k.rule.knowledge id v at) may.reached;
  }

  -- the words after the step show what the machine has after it
  pub entered_shows : after_progress p (shown p d) (ApplyStep c) ≡ shown p d'
  entered_shows = λ i. record { payload = payload_of p (made_of d); started = (shown p d).started; finished = (shown p d).finished; made = made_of d; applied = sym longer i }

  -- the machine before the step
  abbrev end : MachineState
  end = end_state p (shown p d) d.job s.views k.rule.run

  module _ (x : LoggedBuffers) (y : Command) (command : command_at p c ≡ Some y) (bytes : x.buffers ≡ effect y v.bytes) where
    abbrev w : View
    w = enters v c n x.buffers

    entered_jobs : Jobs p d.job (made_of d) log' (set s.views id w)
    entered_jobs = record {
      own = each_pass (λ i z. OwnRun p d.job (made_of d) log' (run_fields z) × OwnPhases p d.job z.role z.submitted z.released) s.views id w
          (own_next, (k.rule.jobs.own id v at).1)
          (λ i u ne e. (own_else i (run_fields u) (other_role i id u v (k.rule.ownership.roles i u e) (k.rule.ownership.roles id v at) ne) (k.rule.jobs.own i u e).0, (k.rule.jobs.own i u e).1));
      absent = λ role h. let a = k.rule.jobs.absent role (same_length s.views id role w h) in (runs_none p d.job (made_of d) log' role [] 0 0 a.0.begun_all, a.1);
      waited = k.rule.jobs.waited;
      lane = k.rule.jobs.lane;
      ranged = k.rule.jobs.ranged;
      applied_begun = λ b h. elim (pushed log c b h) [
        | inl m ↦ k.rule.jobs.applied_begun b m
        | inr is ↦ (j, subst (λ (z : ℕ). has (commands_of p j) z ≡ true) is in_job, (let t = runs.1 in omega arith))
      ];
      made_begun = k.rule.jobs.made_begun;
      reached = k.rule.jobs.reached;
    }

    entered_log : Log p d.job d'.place d.turn log' s.homes (set s.views id w)
    entered_log =
        let h = k.rule.log.holding id v at in
        record {
          later = λ i l. put_there d.place n (suc c) i (λ (e : i ≡ n). let a = count in let b = length_longer in omega arith) ∙ k.rule.log.later i (let b = length_longer in omega arith);
          free = λ free. absurd (let t = (h.job n may.held).2 in omega arith);
          taken = k.rule.log.taken;
          holding = each_pass (λ i z. Holding p d.turn log' z.runs z.held z.bytes) s.views id w
              record {
                counted = λ a e. let is : suc n ≡ a = cc in sym is ∙ (let b = count in let g = length_longer in omega arith);
                folded = λ a e. bytes ∙ (ap (effect y) (h.folded n may.held) ∙ sym (bytes_push p log c y command));
                job = λ a e. h.job n may.held;
                own = λ a e named. (suc n, refl);
              }
              (λ i u ne e. record {
                counted = λ a g. absurd (one_holder p s k id i n a v u at e ne may.held g);
                folded = λ a g. absurd (one_holder p s k id i n a v u at e ne may.held g);
                job = λ a g. absurd (one_holder p s k id i n a v u at e ne may.held g);
                own = (k.rule.log.holding i u e).own;
              });
        }

    entered_shown : IsReached p (shown p d') d.job (set s.views id w)
    entered_shown =
        let r = k.rule.run in
        reach_further p (shown p d) (shown p d') (ApplyStep c) d.job d.job s.views id w r
        (j, subst (λ (z : Progress). CanApply p z j c) (sym r.leads) can_apply)
        (ap (λ (z : Progress). after_progress p z (ApplyStep c)) r.leads ∙ entered_shows)
        (λ h. r.answers id v at h)
        (λ i u ne h a same. same)
        (since_rises p end (after_step p end (ApplyStep c)) v.runs v.unmade refl (λ a. omega arith) (r.since id v at))
        (λ i u ne e. since_rises p end (after_step p end (ApplyStep c)) u.runs u.unmade refl (λ a. omega arith))
        (λ h. r.told id v at h)
        (λ i u ne h e o. o)

    entered_kept : Kept p record { words = set s.words (place_word n) (suc c); homes = s.homes; views = set s.views id w }
    entered_kept = record {
      plan = k.plan;
      lawful = k.lawful;
      count = length-set s.words (place_word n) (suc c) ∙ k.count;
      rule = subst (λ (e : Words). Rule p e s.homes (set s.views id w)) (sym (place_set s.words n (suc c) (let a = room in let b = k.count in omega arith))) record {
        knowledge = knowledge_stays d d' s.views id w (so_unread d d'.place d.turn d.count) k.rule.knowledge (facts_stay d d' v.known (so_unread d d'.place d.turn d.count) (k.rule.knowledge id v at));
        run = entered_shown;
        jobs = subst (λ (l : List ℕ). Jobs p d.job (made_of d) l (set s.views id w)) (sym longer) entered_jobs;
        log = subst (λ (l : List ℕ). Log p d.job d'.place d.turn l s.homes (set s.views id w)) (sym longer) entered_log;
        ownership = ownership_stays p d.count s.views id v w k.rule.ownership at refl;
        points = points_stay p d.op d.point d.count s.views id v w k.rule.points at refl;
        references = references_stay d.point s.views id v w k.rule.references at refl;
      };
    }

abbrev in_hand : LoggedBuffers → List (ℕ × LoggedBuffers) → LoggedBuffers
in_hand other [] = other
in_hand other (t ∷ ts) = t.1

enters_held : (p : Plan) (slots id c : ℕ) (v : View) (x : LoggedBuffers) (y : Command) → RunLaws p → (may : MayEnter p v c) → command_at p c ≡ Some y → x.buffers ≡ effect y v.bytes
    → Allows (Kept p) slots id (v, (0, x) ∷ []) (place_word may.filled) (λ _. suc c) (λ _. entered (step slots (place_word may.filled) (suc c) 0 none) (v, (0, x) ∷ []) (suc c))
enters_held p slots id c v x y laws may command bytes s k deep at fits =
    let plan : v.plan ≡ p = k.rule.ownership.plans id v at in
    let n : ℕ = may.filled in (
      enters v c n x.buffers,
      keeps,
      tt,
      entered_kept p laws s id c v k at may x y command bytes,
      λ i e z is is' is''.
          let n_is : n ≡ i = omega arith in
          let c_is : c ≡ e = omega arith in
          let x_is : x ≡ z = ap (in_hand x) is'' in (
            (λ t. (enters v (c_is t) (n_is t) (x_is t).buffers, (0, x) ∷ [])),
            (let a = room p laws s id c v k at may in let same : length v.plan.commands ≡ length p.commands = ap (λ (q : Plan). length q.commands) plan in omega arith),
          ),
    )

-- as the calls write it
pub enters_command : (p : Plan) (slots id c : ℕ) (m : Mine) (x : LoggedBuffers) (y : Command) → RunLaws p → m.1 ≡ (0, x) ∷ [] → (may : MayEnter p m.0 c) → command_at p c ≡ Some y → x.buffers ≡ effect y m.0.bytes
    → Allows (Kept p) slots id m (place_word may.filled) (λ _. c + 1) (λ _. entered (step slots (place_word may.filled) (c + 1) 0 none) m (c + 1))
enters_command p slots id c m x y laws e may command bytes =
    let next : suc c ≡ c + 1 = omega arith in
    let v : View = m.0 in
    let n : ℕ = may.filled in
    let held = enters_held p slots id c v x y laws may command bytes in
    subst (λ (t : ℕ × List (ℕ × LoggedBuffers)). Allows (Kept p) slots id (v, t.1) (place_word n) (λ _. t.0) (λ _. entered (step slots (place_word n) t.0 0 none) (v, t.1) t.0)) (λ i. (next i, sym e i)) held
