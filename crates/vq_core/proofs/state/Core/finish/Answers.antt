use Rattle.std.proofs.Common.{
  ◌≡◌,
  ◌<◌,
  ◌+◌,
  ◌∙◌,
  ℕ,
  true,
  false,
  Some,
  length,
  get_or,
  set,
  refl,
  sym,
  ap,
  subst,
  arith,
}
use Rattle.std.specs.List.{slice_get, list_any}
use Rattle.std.specs.Option.{option_map_or}
use Rattle.vq_model.specs.declared.plan.Event.TheVariants.{Finish}
use Rattle.vq_model.specs.declared.plan.PlanJob.{PlanJob}
use Rattle.vq_model.specs.Lanes.{lane_number}
use Rattle.vq_model.specs.Machine.{put}
use Rattle.vq_model.specs.Plan.{Plan}
use Rattle.vq_model.specs.Naming.{same_actor}
use Rattle.vq_point_laws.specs.Points.{Reference, CanFinishNow, after_event, actor_of_lane}
use Rattle.vq_history_laws.specs.Histories.{points_after}
use Rattle.vq_core.specs.CoreState.{Course, world}
use Rattle.vq_tables.specs.Lanes.{AreLanes, no_lane}
use Rattle.vq_tables.specs.Tables.{AreJobs, IsJobState}
use Rattle.vq_tables.proofs.Cited.{lane_within, lane_finished, finished_place}
use Rattle.vq_tables.proofs.Cited.{notes_finished}
use Rattle.vq_core.proofs.EventParts.{small_place}
use Rattle.vq_core.proofs.Pushes.{inside_facts, inside_keeps, more_room, core_next}
use Rattle.vq_core.proofs.Histories.{left_next}
use Rattle.vq_tables.proofs.Cited.{jobs_finished}
use Rattle.vq_tables.proofs.Cited.{timelines_by}
use Rattle.vq_core.proofs.state.Core.finish.Goals as goal

pub put-requires : goal.put-requires
put-requires c =
    let a = c.self.inside in
    let k = c.self.invariant in
    let p = a.ordered in
    let w = points_after p a.history.items in
    let t = k.tells in
    let x = Finish c.args.job in
    let g = subst (λ (s : Course). CanFinishNow s.plan (world s) c.args.job) (sym c.self.view_is) c.requires in
    let exists = (inside_keeps a k).turns.exists c.args.job g.step.done.started in
    let n = t.jobs.count in
    omega arith

pub finish-requires-clause-exists : goal.finish-requires-clause-exists
finish-requires-clause-exists c =
    let a = c.self.inside in
    let k = c.self.invariant in
    let p = a.ordered in
    let w = points_after p a.history.items in
    let t = k.tells in
    let x = Finish c.args.job in
    let g = subst (λ (s : Course). CanFinishNow s.plan (world s) c.args.job) (sym c.self.view_is) c.requires in
    let f = inside_facts a k in
    let keeps = inside_keeps a k in
    let started = g.step.done.started in
    let open_ = g.step.done.unfinished in
    let exists = keeps.turns.exists c.args.job started in
    let job = c.job.result.now in
    let at = subst (λ (q : Plan). slice_get q.jobs c.args.job ≡ Some job) (c.plan.ensures.value
    ∙ ap (λ (s : Course). s.plan) (sym c.self.view_is)) c.job.ensures in
    subst (λ (n : ℕ). n < length a.lanes) (sym c.number-lane.ensures)
    (lane_within p f w.released w.machine.progress.finished w.held a.lanes t.lanes c.args.job job at)

pub finish-requires-clause-small : goal.finish-requires-clause-small
finish-requires-clause-small c =
    let a = c.self.inside in
    let k = c.self.invariant in
    let p = a.ordered in
    let w = points_after p a.history.items in
    let t = k.tells in
    let x = Finish c.args.job in
    let g = subst (λ (s : Course). CanFinishNow s.plan (world s) c.args.job) (sym c.self.view_is) c.requires in
    let f = inside_facts a k in
    let keeps = inside_keeps a k in
    let started = g.step.done.started in
    let open_ = g.step.done.unfinished in
    let exists = keeps.turns.exists c.args.job started in
    let job = c.job.result.now in
    let at = subst (λ (q : Plan). slice_get q.jobs c.args.job ≡ Some job) (c.plan.ensures.value
    ∙ ap (λ (s : Course). s.plan) (sym c.self.view_is)) c.job.ensures in
    let turn = finished_place p f w.released w.machine.progress.finished w.held a.lanes t.lanes c.args.job job at
    open_ (λ i b e. keeps.turns.in_turn i c.args.job started b e) in
    subst (λ (n : ℕ). (get_or a.lanes n no_lane).finished + 1 < 18446744073709551616) (sym c.number-lane.ensures)
    (small_place p w.released w.machine.progress.finished w.held a.lanes t.lanes c.args.job job at (get_or a.lanes
    (lane_number job.lane) no_lane).finished turn c.ranges.job.fits)

pub overflow_sub-self : goal.overflow_sub-self
overflow_sub-self c =
    let a = c.self.inside in
    let k = c.self.invariant in
    let p = a.ordered in
    let w = points_after p a.history.items in
    let t = k.tells in
    let x = Finish c.args.job in
    let g = subst (λ (s : Course). CanFinishNow s.plan (world s) c.args.job) (sym c.self.view_is) c.requires in
    let f = inside_facts a k in
    let keeps = inside_keeps a k in
    let started = g.step.done.started in
    let open_ = g.step.done.unfinished in
    let exists = keeps.turns.exists c.args.job started in
    let job = c.job.result.now in
    let at = subst (λ (q : Plan). slice_get q.jobs c.args.job ≡ Some job) (c.plan.ensures.value
    ∙ ap (λ (s : Course). s.plan) (sym c.self.view_is)) c.job.ensures in
    let less = left_next p w.machine.progress.finished c.args.job exists open_ in
    let left = t.left in
    omega arith

pub push_reserved-requires : goal.push_reserved-requires
push_reserved-requires c =
    let a = c.self.inside in
    let k = c.self.invariant in
    let p = a.ordered in
    let w = points_after p a.history.items in
    let t = k.tells in
    let x = Finish c.args.job in
    let g = subst (λ (s : Course). CanFinishNow s.plan (world s) c.args.job) (sym c.self.view_is) c.requires in
    let size = a.history.ok.0 in
    let room = more_room a k x g in
    omega arith

pub invariant_of-self : goal.invariant_of-self
invariant_of-self c =
    let a = c.self.inside in
    let k = c.self.invariant in
    let p = a.ordered in
    let w = points_after p a.history.items in
    let t = k.tells in
    let x = Finish c.args.job in
    let g = subst (λ (s : Course). CanFinishNow s.plan (world s) c.args.job) (sym c.self.view_is) c.requires in
    let f = inside_facts a k in
    let keeps = inside_keeps a k in
    let started = g.step.done.started in
    let open_ = g.step.done.unfinished in
    let exists = keeps.turns.exists c.args.job started in
    let job = c.job.result.now in
    let at = subst (λ (q : Plan). slice_get q.jobs c.args.job ≡ Some job) (c.plan.ensures.value
    ∙ ap (λ (s : Course). s.plan) (sym c.self.view_is)) c.job.ensures in
    let turn = finished_place p f w.released w.machine.progress.finished w.held a.lanes t.lanes c.args.job job at
    open_ (λ i b e. keeps.turns.in_turn i c.args.job started b e) in
    let less = left_next p w.machine.progress.finished c.args.job exists open_ in
    let left = t.left in
    let is = c.at-state.ensures ∙ ap (get_or a.jobs c.args.job) c.idle.ensures in
    let state = subst (IsJobState p w.released w.machine.progress.started w.machine.progress.finished
    w.machine.progress.made w.machine.progress.applied c.args.job) (sym is) (t.jobs.each c.args.job) in
    let none : list_any (λ (r : Reference). same_actor (actor_of_lane job.lane) r.actor) w.held ≡ false = (λ i.
    list_any (λ (r : Reference). option_map_or (λ (y : PlanJob). same_actor (actor_of_lane y.lane) r.actor) (sym
    at i) false) w.held) ∙ g.unreferring in
    core_next a k x g _ refl c.push_reserved.ensures.items (let e = c.push_reserved.ensures.capacity in omega arith)
    (record {
      earlier = t.earlier;
      submitted = t.submitted;
      jobs = subst (AreJobs p w.released w.machine.progress.started (put w.machine.progress.finished c.args.job true)
          w.machine.progress.made w.machine.progress.applied) (sym c.put.ensures)
          (jobs_finished p w.released w.machine.progress.started w.machine.progress.finished w.machine.progress.made
          w.machine.progress.applied a.jobs t.jobs c.args.job exists c.at-state.result state);
      answers = t.answers;
      made = t.made;
      points = t.points;
      slots = t.slots;
      payloads = t.payloads;
      timelines = timelines_by p w (after_event p w x) a.timelines.items refl refl refl refl refl refl t.timelines;
      lanes = subst (AreLanes p w.released (put w.machine.progress.finished c.args.job true) w.held) (sym
          (c.finish.ensures ∙ ap (λ (n : ℕ). set a.lanes n (record (get_or a.lanes n no_lane) {
            finished = (get_or
                a.lanes n no_lane).finished + 1;
          })) c.number-lane.ensures))
          (lane_finished p f w.released w.machine.progress.finished w.held a.lanes t.lanes c.args.job job at turn);
      notes = notes_finished p w.machine.progress.finished w.held w.referred w.looked a.notes t.notes c.args.job job
          at none;
      buffers = t.buffers;
      sizes = t.sizes;
      left = (omega arith);
    })
