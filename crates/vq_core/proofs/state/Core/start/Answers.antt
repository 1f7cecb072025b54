use Rattle.std.proofs.Common.{◌≡◌, ◌∙◌, true, List, get_or, refl, sym, ap, subst, arith}
use Rattle.vq_model.specs.declared.plan.Event.TheVariants.{Start}
use Rattle.vq_model.specs.Machine.{put}
use Rattle.vq_model.specs.Plan.{question, asked}
use Rattle.vq_point_laws.specs.Points.{CanStartNow, after_event}
use Rattle.vq_history_laws.specs.Histories.{points_after}
use Rattle.vq_tables.specs.declared.table.JobRecord.{JobRecord}
use Rattle.vq_core.specs.CoreState.{Course, world}
use Rattle.vq_tables.specs.AnswerStates.{AreAnswerStates, IsAnswerState, is_asked_reached, payload_read}
use Rattle.vq_tables.specs.Tables.{AreJobs, IsJobState}
use Rattle.vq_core.proofs.Pushes.{more_room, core_next}
use Rattle.vq_tables.proofs.Cited.{jobs_started, answers_started}
use Rattle.vq_tables.proofs.Cited.{timelines_by}
use Rattle.vq_core.proofs.state.Core.start.Goals as goal

pub push_reserved-requires : goal.push_reserved-requires
push_reserved-requires c =
    let a = c.self.inside in
    let k = c.self.invariant in
    let p = a.ordered in
    let w = points_after p a.history.items in
    let t = k.tells in
    let x = Start c.args.job in
    let g = subst (λ (s : Course). CanStartNow s.plan (world s) c.args.job) (sym c.self.view_is) c.requires in
    let size = a.history.ok.0 in
    let room = more_room a k x g in
    omega arith

pub invariant_of-self : goal.invariant_of-self
invariant_of-self c =
    let a = c.self.inside in
    let k = c.self.invariant in
    let p = a.ordered in
    let w = points_after p a.history.items in
    let t = k.tells in
    let x = Start c.args.job in
    let g = subst (λ (s : Course). CanStartNow s.plan (world s) c.args.job) (sym c.self.view_is) c.requires in
    let exists = g.exists in
    let is = c.at-state.ensures ∙ ap (get_or a.jobs c.args.job) c.idle.ensures in
    let state = subst (IsJobState p w.released w.machine.progress.started w.machine.progress.finished
    w.machine.progress.made w.machine.progress.applied c.args.job) (sym is) (t.jobs.each c.args.job) in
    let asking_is = c.at-asking.ensures ∙ ap (get_or a.answers c.args.job) c.not_asked.ensures in
    let asking = subst (IsAnswerState p w.machine.progress.started w.machine.answer w.machine.at_start c.args.job)
    (sym asking_is) (t.answers.each c.args.job) in
    let reached = subst (λ (s : Course). c.is_asked_reached-reached.result ≡ is_asked_reached (question s.plan
    c.args.job) (world s).machine.progress.payload (asked s.plan c.args.job)) (sym c.self.view_is)
    c.is_asked_reached-reached.ensures in
    let payload = subst (λ (s : Course). c.payload_read-payload.result ≡ payload_read (question s.plan c.args.job)
    (world s).machine.progress.payload) (sym c.self.view_is) c.payload_read-payload.ensures in
    core_next a k x g _ refl c.push_reserved.ensures.items (let e = c.push_reserved.ensures.capacity in omega arith)
    (record {
      earlier = t.earlier;
      submitted = t.submitted;
      jobs = subst (λ (xs : List JobRecord). AreJobs p (after_event p w x).released (after_event p w
          x).machine.progress.started (after_event p w x).machine.progress.finished w.machine.progress.made
          w.machine.progress.applied xs) (sym c.put-2.ensures)
          (jobs_started p w.released w.machine.progress.started w.machine.progress.finished w.machine.progress.made
          w.machine.progress.applied a.jobs t.jobs c.args.job exists c.at-state.result state);
      answers = subst (AreAnswerStates p (put w.machine.progress.started c.args.job true) w.machine.answer (put
          w.machine.at_start c.args.job w.machine.progress.payload)) (sym c.put.ensures)
          (answers_started p w.machine.progress.started w.machine.answer w.machine.at_start a.answers t.answers
          c.args.job exists c.at-asking.result asking w.machine.progress.payload c.is_asked_reached-reached.result
          c.payload_read-payload.result reached payload);
      made = t.made;
      points = t.points;
      slots = t.slots;
      payloads = t.payloads;
      timelines = timelines_by p w (after_event p w x) a.timelines.items refl refl refl refl refl refl t.timelines;
      lanes = t.lanes;
      notes = t.notes;
      buffers = t.buffers;
      sizes = t.sizes;
      left = t.left;
    })
