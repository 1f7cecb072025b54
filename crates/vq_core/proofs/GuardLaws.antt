-- When events may come, by what the core looks at.
use Rattle.std.proofs.Common.{
  ◌≡◌,
  ℕ,
  suc,
  ◌+◌,
  ◌<◌,
  ◌&&◌,
  ◌||◌,
  ◌==◌,
  not,
  Bool,
  true,
  false,
  length,
  Some,
  None,
  is_some,
  sym,
  ap,
  ◌∙◌,
  subst,
  arith,
}
use Rattle.std.specs.Prelude.{nat_lt, nat_eq, IsTrue, ◌↔◌}
use Rattle.std.specs.List.{slice_get, list_all, list_any, position_or_len}
use Rattle.std.specs.Option.{option_to_list}
use Rattle.std.proofs.lemmas.Bool.{
  eq-eqb,
  eqb-true,
  and_parts,
  and_from,
  cond-true,
  cond-false,
  lt-ltb,
  ltb-true,
  not-true,
}
use Rattle.vq_ground.specs.Lists.{has}
use Rattle.vq_model.specs.declared.script.ActorName.{ActorName}
use Rattle.vq_model.specs.declared.plan.Answer.{Answer}
use Rattle.vq_model.specs.declared.plan.Op.{Op}
use Rattle.vq_model.specs.Edges.{At, stage_of}
use Rattle.vq_model.specs.Machine.{next, are_reached, CanAnswer, CanApply, may_answer}
use Rattle.vq_model.specs.Plan.{
  job_of,
  chain_of,
  is_batch,
  is_host_step,
  commands_of,
  signals_of,
  of_job,
  previous,
  idle_after,
  is_silent,
  question,
  chain,
}
use Rattle.vq_ground.proofs.Searches.{find_member, at_place}
use Rattle.vq_model.specs.Naming.{same_actor}
use Rattle.vq_point_laws.specs.Points.{
  CanSubmit,
  CanTake,
  CanRelease,
  CanBind,
  CanRefer,
  CanLook,
  CanComplete,
  CanStartNow,
  CanSignalNow,
  CanFinishNow,
  next_job,
  needs_resolved,
  needs_now,
  resolves,
  count_of,
  actor_of_lane,
  earlier_in_queue,
  are_needs_pending,
  may_bind,
  smaller_ops,
}
use Rattle.vq_point_laws.specs.Timeline.{Timeline, KeepsLists}
use Rattle.vq_core_laws.specs.Firsts.{AreFirst}
use Rattle.vq_core_laws.specs.TimelineOf.{IsTimelineOf}
use Rattle.vq_core_laws.proofs.Cited.{Facts, Keeps, turn_place, smaller_done, rising_once, next_is}
use Rattle.vq_core.specs.CoreState.{Course, world, IsCourse}
use Rattle.vq_core.specs.GuardParts.{
  ReleaseTurn,
  IsPointInTurn,
  HasCommandsDone,
  may_take,
  may_start,
  are_batches_submitted,
  are_steps_finished,
}
use Rattle.vq_core.proofs.SubmitLaws.{both_before, submit_steps}
use Rattle.vq_core.proofs.Courses.{plan_facts, world_keeps}
use Rattle.vq_core.proofs.Ops.{here, of_chain, of_job as op_job}

module _ (s : Course) (k : IsCourse s) where
  facts : Facts s.plan
  facts = plan_facts s k

  keeps : Keeps s.plan (world s)
  keeps = world_keeps s k

  pub submit_iff : (j : ℕ) (b : Bool) → is_batch s.plan j ≡ true → (world s).submitted j ≡ false →
      are_batches_submitted s.plan (world s) j ≡ true → b ≡ are_steps_finished s.plan (world s) j →
      IsTrue b ↔ CanSubmit s.plan (world s) j
  submit_iff j b batch idle all is = (
    (λ h. record {
      batch = batch;
      waiting = idle;
      in_order = both_before s.plan (world s) j all (sym is ∙ h);
    }),
    (λ g. is ∙ submit_steps s.plan (world s) j g),
  )

  pub release_iff : (j : ℕ) (b : Bool) → is_batch s.plan j ≡ true → ReleaseTurn s.plan (world s) j →
      b ≡ list_all (λ e. is_some ((world s).point_of e)) (signals_of s.plan j) →
      IsTrue b ↔ CanRelease s.plan (world s) j
  release_iff j b batch t is = (
    (λ h. record {
      batch = batch;
      submitted = t.submitted;
      waiting = t.waiting;
      in_order = t.in_order;
      needs =
          t.needs;
      taken = sym is ∙ h;
    }),
    (λ g. is ∙ g.taken),
  )

  -- a batch's turn, as a test
  module _ (j : ℕ) where
    abbrev is_turned : Bool
    is_turned = (world s).submitted j && not ((world s).released j) && list_all (world s).released
        (earlier_in_queue s.plan j) && are_needs_pending s.plan (world s) j

    turned : is_turned ≡ true → ReleaseTurn s.plan (world s) j
    turned h =
        let a = and_parts ((world s).submitted j && not ((world s).released j) && list_all (world s).released
        (earlier_in_queue s.plan j)) (are_needs_pending s.plan (world s) j) h in
        let b = and_parts ((world s).submitted j && not ((world s).released j)) (list_all (world s).released
        (earlier_in_queue s.plan j)) a.0 in
        let c = and_parts ((world s).submitted j) (not ((world s).released j)) b.0 in
        record { submitted = c.0; waiting = not-true ((world s).released j) c.1; in_order = b.1; needs = a.1 }

    turn_test : ReleaseTurn s.plan (world s) j → is_turned ≡ true
    turn_test t =
        and_from ((world s).submitted j && not ((world s).released j) && list_all (world s).released
        (earlier_in_queue s.plan j)) (are_needs_pending s.plan (world s) j)
        (and_from ((world s).submitted j && not ((world s).released j)) (list_all (world s).released
        (earlier_in_queue s.plan j)) (and_from ((world s).submitted j) (not ((world s).released j)) t.submitted (ap
        not t.waiting)) t.in_order) t.needs

    pub step_takes : (b : Bool) → is_host_step s.plan j ≡ true → b ≡ (world s).machine.progress.started j →
        IsTrue b ↔ (may_take s.plan (world s) j ≡ true)
    step_takes b host is =
        let same = cond-true (is_host_step s.plan j) ((world s).machine.progress.started j) is_turned host in (
          (λ h. same ∙ (sym is ∙ h)),
          (λ g. is ∙ (sym same ∙ g)),
        )

    pub batch_takes : (b : Bool) → is_host_step s.plan j ≡ false → IsTrue b ↔ ReleaseTurn s.plan (world s) j →
        IsTrue b ↔ (may_take s.plan (world s) j ≡ true)
    batch_takes b host iff =
        let same = cond-false (is_host_step s.plan j) ((world s).machine.progress.started j) is_turned host in (
          (λ h. same ∙ turn_test (iff.0 h)),
          (λ g. iff.1 (turned (sym same ∙ g))),
        )

  -- Events of one operation

  module _ (e : ℕ) (o : Op) (at : slice_get s.plan.ops e ≡ Some o) where
    own_job : (j : ℕ) → job_of s.plan e ≡ Some j → j ≡ o.job
    own_job j is = let z = sym is ∙ op_job s.plan facts e o at in cc

    own_chain : (t : ℕ) → chain_of s.plan e ≡ Some t → t ≡ o.chain
    own_chain t is = let z = sym is ∙ of_chain s.plan facts e o at in cc

    pub take_turn : (q : ℕ) (fresh : Bool) → CanTake s.plan (world s) e q fresh →
        may_take s.plan (world s) o.job ≡ true
    take_turn q fresh g =
        subst (λ (j : ℕ). may_take s.plan (world s) j ≡ true) (own_job g.job g.of_job) g.in_turn

    pub take_iff : (q : ℕ) (fresh b : Bool) → (world s).point_of e ≡ None →
        may_take s.plan (world s) o.job ≡ true → IsTrue b ↔ IsPointInTurn (world s) o.chain q fresh →
        IsTrue b ↔ CanTake s.plan (world s) e q fresh
    take_iff q fresh b none t iff = (
      (λ h. record {
        job = o.job;
        of_job = op_job s.plan facts e o at;
        chain = o.chain;
        in_chain = of_chain s.plan facts e o at;
        without = none;
        in_turn = t;
        point = iff.0 h;
      }),
      (λ g. iff.1 (subst (λ (t : ℕ). IsPointInTurn (world s) t q fresh) (own_chain g.chain g.in_chain) g.point)),
    )

    pub bind_ready : (q : ℕ) → CanBind s.plan (world s) e q → may_bind s.plan (world s) o.job ≡ true
    bind_ready q g = subst (λ (j : ℕ). may_bind s.plan (world s) j ≡ true) (own_job g.job g.of_job) g.ready

    module _ (l : Timeline) (is : IsTimelineOf s.plan (world s) o.chain l) (kept : KeepsLists l) where
      pub bind_iff : (q : ℕ) → (world s).carried q ≡ Some e → may_bind s.plan (world s) o.job ≡ true →
          IsTrue (nat_eq o.index l.bound) ↔ CanBind s.plan (world s) e q
      bind_iff q c r = (to, from)
        where
          to : IsTrue (nat_eq o.index l.bound) → CanBind s.plan (world s) e q
          to h =
              let same = eqb-true o.index l.bound h in
              record {
                job = o.job;
                of_job = op_job s.plan facts e o at;
                chain = o.chain;
                in_chain = of_chain s.plan facts e o at;
                carries = c;
                unbound = is.bound.after o.index e (here s.plan facts e o at) (omega arith);
                ready = r;
                in_order = smaller_done s.plan facts (world s) keeps o.chain l is kept o.index e (here s.plan facts e
                    o at) (world s).bound (subst (AreFirst (world s).bound (chain s.plan o.chain)) (sym same) is.bound);
              }

          from : CanBind s.plan (world s) e q → IsTrue (nat_eq o.index l.bound)
          from g =
              eq-eqb o.index l.bound
              (turn_place s.plan facts (world s) keeps o.chain l is kept o.index e (here s.plan facts e o at) (world
              s).bound l.bound is.bound g.unbound
              (ap (λ (t : ℕ). list_all (world s).bound (smaller_ops s.plan t e)) (sym (own_chain g.chain g.in_chain))
              ∙ g.in_order))

      pub complete_iff : (world s).bound e ≡ true → (world s).machine.progress.made e ≡ true →
          IsTrue (nat_eq o.index l.completed) ↔ CanComplete s.plan (world s) e
      complete_iff b m = (to, from)
        where
          to : IsTrue (nat_eq o.index l.completed) → CanComplete s.plan (world s) e
          to h =
              let same = eqb-true o.index l.completed h in
              record {
                chain = o.chain;
                in_chain = of_chain s.plan facts e o at;
                pending = and_from ((world s).bound e) (not ((world s).past e)) b (ap not (is.completed.after o.index
                    e (here s.plan facts e o at) (omega arith)));
                in_order = smaller_done s.plan facts (world s) keeps o.chain l is kept o.index e (here s.plan facts e
                    o at) (world s).past (subst (AreFirst (world s).past (chain s.plan o.chain)) (sym same)
                    is.completed);
                signaled = m;
              }

          from : CanComplete s.plan (world s) e → IsTrue (nat_eq o.index l.completed)
          from g =
              eq-eqb o.index l.completed
              (turn_place s.plan facts (world s) keeps o.chain l is kept o.index e (here s.plan facts e o at) (world
              s).past l.completed is.completed
              (not-true ((world s).past e) (and_parts ((world s).bound e) (not ((world s).past e)) g.pending).1)
              (ap (λ (t : ℕ). list_all (world s).past (smaller_ops s.plan t e)) (sym (own_chain g.chain g.in_chain))
              ∙ g.in_order))

    signal_job : (g : CanSignalNow s.plan (world s) e) → g.job ≡ o.job
    signal_job g =
        let member = find_member (λ x. not ((world s).machine.progress.made x)) (signals_of s.plan g.job) e g.next in
        own_job g.job (facts.formed.of_job e g.job member)

    pub signal_running : CanSignalNow s.plan (world s) e → HasCommandsDone s.plan (world s) o.job
    signal_running g =
        subst (HasCommandsDone s.plan (world s)) (signal_job g)
        (record { started = g.started; unfinished = g.unfinished; commands = g.commands; ready = g.ready })

    pub signal_next : CanSignalNow s.plan (world s) e →
        next (world s).machine.progress.made (signals_of s.plan o.job) ≡ Some e
    signal_next g = subst (λ (j : ℕ). next (world s).machine.progress.made (signals_of s.plan j) ≡ Some e)
        (signal_job g) g.next

    pub can_signal : HasCommandsDone s.plan (world s) o.job → (world s).bound e ≡ true →
        next (world s).machine.progress.made (signals_of s.plan o.job) ≡ Some e → CanSignalNow s.plan (world s) e
    can_signal r b n =
        record {
          job = o.job;
          chain = o.chain;
          in_chain = of_chain s.plan facts e o at;
          started = r.started;
          unfinished = r.unfinished;
          commands = r.commands;
          next = n;
          ready = r.ready;
          bound = b;
        }

  -- References

  module _ (a : ActorName) (q e j : ℕ) (is_next : next_job s.plan (world s) a ≡ Some j) where
    refer_job : (g : CanRefer s.plan (world s) a q e) → g.job ≡ j
    refer_job g = let z = sym g.is_next ∙ is_next in cc

    pub refer_let : CanRefer s.plan (world s) a q e →
        (is_host_step s.plan j || (world s).released j) ≡ true
    refer_let g =
        subst (λ (j : ℕ). (is_host_step s.plan j || (world s).released j) ≡ true) (refer_job g) g.released

    pub refer_needed : CanRefer s.plan (world s) a q e → 0 < needs_resolved s.plan j e
    refer_needed g =
        let more : 0 < needs_resolved s.plan g.job e = (let w = g.wanted in omega arith) in
        subst (λ (j : ℕ). 0 < needs_resolved s.plan j e) (refer_job g) more

    pub refer_iff : (r n : ℕ) → (world s).carried q ≡ Some e → (world s).bound e ≡ true →
        (is_host_step s.plan j || (world s).released j) ≡ true →
        list_any (resolves s.plan e) (needs_now s.plan (world s) j) ≡ true →
        r ≡ count_of ((world s).referred j) e → n ≡ needs_resolved s.plan j e →
        IsTrue (nat_lt r n) ↔ CanRefer s.plan (world s) a q e
    refer_iff r n c b rel need ir ineed = (
      (λ h. record {
        job = j;
        is_next = is_next;
        carries = c;
        bound = b;
        released = rel;
        needed = need;
        wanted = (let l = ltb-true r n h in omega arith);
      }),
      (λ g. lt-ltb r n (let l = subst (λ (j : ℕ). count_of ((world s).referred j) e < needs_resolved s.plan j e)
          (refer_job g) g.wanted in omega arith)),
    )

    pub look_needed : CanLook s.plan (world s) a q e → 0 < needs_resolved s.plan j e
    look_needed g =
        let r = keeps.references a q e g.holds in
        let same : r.0 ≡ j = let z = sym r.1 ∙ is_next in cc in
        subst (λ (j : ℕ). 0 < needs_resolved s.plan j e) same r.2

  -- Jobs

  module _ (j : ℕ) (l : j < length s.plan.jobs) where
    pub start_let : CanStartNow s.plan (world s) j → may_start s.plan (world s) j ≡ true
    start_let g = g.released

    pub start_iff : (b : Bool) → (world s).machine.progress.started j ≡ false →
        may_start s.plan (world s) j ≡ true →
        list_all (world s).machine.progress.finished (option_to_list (previous s.plan j)) ≡ true →
        list_all (world s).machine.progress.finished (idle_after s.plan j) ≡ true →
        b ≡ are_reached s.plan (world s).machine.progress.payload j (At (0 + 1)) →
        IsTrue b ↔ CanStartNow s.plan (world s) j
    start_iff b idle rel prev after is =
        let one : 0 + 1 ≡ 1 = omega arith in
        let same = is ∙ ap (λ (k : ℕ). are_reached s.plan (world s).machine.progress.payload j (At k)) one in (
          (λ h. record {
            exists = l;
            waiting = idle;
            lane = prev;
            ready = sym same ∙ h;
            idle = after;
            released = rel;
          }),
          (λ g. same ∙ g.ready),
        )

    -- the place of the next command
    next_stage : (n c : ℕ) → AreFirst (has (world s).machine.progress.applied) (commands_of s.plan j) n →
        next (has (world s).machine.progress.applied) (commands_of s.plan j) ≡ Some c → stage_of s.plan j c ≡ At (n + 1)
    next_stage n c first is =
        let place = sym (next_is (has (world s).machine.progress.applied) (commands_of s.plan j) n first) ∙ is in
        let same = rising_once (commands_of s.plan j) (facts.formed.commands j) (position_or_len (λ d. d == c)
        (commands_of s.plan j)) n c (at_place (commands_of s.plan j) c (find_member (λ x. not (has (world
        s).machine.progress.applied x)) (commands_of s.plan j) c is)) place in
        let e : suc n ≡ n + 1 = omega arith in
        ap (λ (k : ℕ). At (suc k)) same ∙ ap (λ (k : ℕ). At k) e

    pub apply_iff : (c n : ℕ) (b : Bool) → (world s).machine.progress.started j ≡ true →
        (world s).machine.progress.finished j ≡ false →
        next (has (world s).machine.progress.applied) (commands_of s.plan j) ≡ Some c →
        AreFirst (has (world s).machine.progress.applied) (commands_of s.plan j) n →
        b ≡ are_reached s.plan (world s).machine.progress.payload j (At (n + 1)) →
        IsTrue b ↔ CanApply s.plan (world s).machine.progress j c
    apply_iff c n b started open_ is first ready =
        let same = ready ∙ ap (are_reached s.plan (world s).machine.progress.payload j) (sym (next_stage n c first
        is)) in (
          (λ h. record { started = started; unfinished = open_; next = is; ready = sym same ∙ h }),
          (λ g. same ∙ g.ready),
        )

    pub finish_iff : (b : Bool) → HasCommandsDone s.plan (world s) j →
        list_all (world s).machine.progress.made (signals_of s.plan j) ≡ true →
        (is_silent (question s.plan j) || is_some ((world s).machine.answer j)) ≡ true →
        IsTrue b ↔ (list_any (λ r. of_job (λ x. same_actor (actor_of_lane x.lane) r.actor) false s.plan j) (world
        s).held ≡ false) → IsTrue b ↔ CanFinishNow s.plan (world s) j
    finish_iff b r made settled iff = (
      (λ h. record {
        step = record {
          done = record {
            started = r.started;
            unfinished = r.unfinished;
            commands = r.commands;
            signals = made;
            ready = r.ready;
          };
          answered = settled;
        };
        unreferring = iff.0 h;
      }),
      (λ g. iff.1 g.unreferring),
    )

  pub finish_exists : (j : ℕ) → CanFinishNow s.plan (world s) j → j < length s.plan.jobs
  finish_exists j g = keeps.turns.exists j g.step.done.started

  pub answer_exists : (j : ℕ) (a : Answer) → CanAnswer s.plan (world s).machine j a → j < length s.plan.jobs
  answer_exists j a g = keeps.turns.exists j g.started

  pub answer_iff : (j : ℕ) (a : Answer) (b : Bool) → (world s).machine.progress.started j ≡ true →
      is_some ((world s).machine.answer j) ≡ false →
      b ≡ may_answer s.plan (world s).machine j (question s.plan j) a →
      IsTrue b ↔ CanAnswer s.plan (world s).machine j a
  answer_iff j a b started unanswered is = (
    (λ h. record { started = started; unanswered = unanswered; allowed = sym is ∙ h }),
    (λ g. is ∙ g.allowed),
  )
