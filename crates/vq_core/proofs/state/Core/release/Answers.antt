use Rattle.std.proofs.Common.{◌≡◌, ◌<◌, ◌+◌, ◌∙◌, ℕ, true, List, Some, length, get_or, set, refl, sym, ap, subst, arith}
use Rattle.std.specs.List.{slice_get}
use Rattle.vq_model.specs.declared.plan.Event.TheVariants.{Release}
use Rattle.vq_model.specs.Lanes.{lane_number}
use Rattle.vq_model.specs.Machine.{put}
use Rattle.vq_model.specs.Plan.{Plan}
use Rattle.vq_model.proofs.Plans.{batch_exists}
use Rattle.vq_point_laws.specs.Points.{CanRelease, after_event}
use Rattle.vq_history_laws.specs.Histories.{points_after}
use Rattle.vq_tables.specs.declared.table.JobRecord.{JobRecord}
use Rattle.vq_core.specs.CoreState.{Course, world}
use Rattle.vq_tables.specs.Lanes.{AreLanes, no_lane}
use Rattle.vq_tables.specs.Tables.{AreJobs, IsJobState}
use Rattle.vq_tables.proofs.Cited.{lane_within, lane_released}
use Rattle.vq_tables.proofs.Cited.{has_turn}
use Rattle.vq_core.proofs.EventParts.{small_place}
use Rattle.vq_core.proofs.Pushes.{inside_facts, more_room, core_next}
use Rattle.vq_tables.proofs.Cited.{jobs_released}
use Rattle.vq_tables.proofs.Cited.{timelines_by}
use Rattle.vq_core.proofs.state.Core.release.Goals as goal

pub release-requires-clause-exists : goal.release-requires-clause-exists
release-requires-clause-exists c =
    let a = c.self.inside in
    let k = c.self.invariant in
    let p = a.ordered in
    let w = points_after p a.history.items in
    let t = k.tells in
    let x = Release c.args.job in
    let g = subst (λ (s : Course). CanRelease s.plan (world s) c.args.job) (sym c.self.view_is) c.requires in
    let job = c.job.result.now in
    let at = subst (λ (q : Plan). slice_get q.jobs c.args.job ≡ Some job) (c.plan.ensures.value
    ∙ ap (λ (s : Course). s.plan) (sym c.self.view_is)) c.job.ensures in
    subst (λ (n : ℕ). n < length a.lanes) (sym c.number-lane.ensures)
    (lane_within p (inside_facts a k) w.released w.machine.progress.finished w.held a.lanes t.lanes c.args.job job at)

pub release-requires-clause-small : goal.release-requires-clause-small
release-requires-clause-small c =
    let a = c.self.inside in
    let k = c.self.invariant in
    let p = a.ordered in
    let w = points_after p a.history.items in
    let t = k.tells in
    let x = Release c.args.job in
    let g = subst (λ (s : Course). CanRelease s.plan (world s) c.args.job) (sym c.self.view_is) c.requires in
    let job = c.job.result.now in
    let at = subst (λ (q : Plan). slice_get q.jobs c.args.job ≡ Some job) (c.plan.ensures.value
    ∙ ap (λ (s : Course). s.plan) (sym c.self.view_is)) c.job.ensures in
    let turn = has_turn p w.released w.machine.progress.finished w.held a.lanes t.lanes c.args.job job at g.waiting
    g.in_order in
    subst (λ (n : ℕ). (get_or a.lanes n no_lane).released + 1 < 18446744073709551616) (sym c.number-lane.ensures)
    (small_place p w.released w.machine.progress.finished w.held a.lanes t.lanes c.args.job job at (get_or a.lanes
    (lane_number job.lane) no_lane).released turn c.ranges.job.fits)

pub put-requires : goal.put-requires
put-requires c =
    let a = c.self.inside in
    let k = c.self.invariant in
    let p = a.ordered in
    let w = points_after p a.history.items in
    let t = k.tells in
    let x = Release c.args.job in
    let g = subst (λ (s : Course). CanRelease s.plan (world s) c.args.job) (sym c.self.view_is) c.requires in
    let n = t.jobs.count in
    let e = batch_exists p c.args.job g.batch in
    omega arith

pub push_reserved-requires : goal.push_reserved-requires
push_reserved-requires c =
    let a = c.self.inside in
    let k = c.self.invariant in
    let p = a.ordered in
    let w = points_after p a.history.items in
    let t = k.tells in
    let x = Release c.args.job in
    let g = subst (λ (s : Course). CanRelease s.plan (world s) c.args.job) (sym c.self.view_is) c.requires in
    let size = a.history.ok.0 in
    let room = more_room a k x g in
    omega arith

pub invariant_of-self : goal.invariant_of-self
invariant_of-self c =
    let a = c.self.inside in
    let k = c.self.invariant in
    let p = a.ordered in
    let w = points_after p a.history.items in
    let t = k.tells in
    let x = Release c.args.job in
    let g = subst (λ (s : Course). CanRelease s.plan (world s) c.args.job) (sym c.self.view_is) c.requires in
    let exists = batch_exists p c.args.job g.batch in
    let is = c.at-state.ensures ∙ ap (get_or a.jobs c.args.job) c.idle.ensures in
    let state = subst (IsJobState p w.released w.machine.progress.started w.machine.progress.finished
    w.machine.progress.made w.machine.progress.applied c.args.job) (sym is) (t.jobs.each c.args.job) in
    let job = c.job.result.now in
    let at = subst (λ (q : Plan). slice_get q.jobs c.args.job ≡ Some job) (c.plan.ensures.value
    ∙ ap (λ (s : Course). s.plan) (sym c.self.view_is)) c.job.ensures in
    let turn = has_turn p w.released w.machine.progress.finished w.held a.lanes t.lanes c.args.job job at g.waiting
    g.in_order in
    core_next a k x g _ refl c.push_reserved.ensures.items (let e = c.push_reserved.ensures.capacity in omega arith)
    (record {
      earlier = t.earlier;
      submitted = t.submitted;
      jobs = subst (λ (xs : List JobRecord). AreJobs p (after_event p w x).released (after_event p w
          x).machine.progress.started (after_event p w x).machine.progress.finished w.machine.progress.made
          w.machine.progress.applied xs) (sym c.put.ensures)
          (jobs_released p w.released w.machine.progress.started w.machine.progress.finished w.machine.progress.made
          w.machine.progress.applied a.jobs t.jobs c.args.job exists c.at-state.result state);
      answers = t.answers;
      made = t.made;
      points = t.points;
      slots = t.slots;
      payloads = t.payloads;
      timelines = timelines_by p w (after_event p w x) a.timelines.items refl refl refl refl refl refl t.timelines;
      lanes = subst (AreLanes p (put w.released c.args.job true) w.machine.progress.finished w.held) (sym
          (c.release.ensures ∙ ap (λ (n : ℕ). set a.lanes n (record (get_or a.lanes n no_lane) {
            released = (get_or
                a.lanes n no_lane).released + 1;
          })) c.number-lane.ensures))
          (lane_released p (inside_facts a k) w.released w.machine.progress.finished w.held a.lanes t.lanes
          c.args.job job at turn);
      notes = t.notes;
      buffers = t.buffers;
      sizes = t.sizes;
      left = t.left;
    })
