use Rattle.std.proofs.Common.{◌∙◌, Some, get_or, refl, sym, ap, subst, arith}
use Rattle.vq_model.specs.declared.plan.Event.TheVariants.{Answer}
use Rattle.vq_model.specs.Machine.{CanAnswer, put}
use Rattle.vq_point_laws.specs.Points.{after_event}
use Rattle.vq_history_laws.specs.Histories.{points_after}
use Rattle.vq_tables.specs.AnswerStates.{AreAnswerStates, IsAnswerState}
use Rattle.vq_core.specs.CoreState.{Course, world}
use Rattle.vq_core.proofs.Pushes.{inside_keeps, more_room, core_next}
use Rattle.vq_tables.proofs.Cited.{answers_given}
use Rattle.vq_tables.proofs.Cited.{timelines_by}
use Rattle.vq_core.proofs.state.Core.answer.Goals as goal

pub push_reserved-requires : goal.push_reserved-requires
push_reserved-requires c =
    let a = c.self.inside in
    let k = c.self.invariant in
    let x = Answer c.args.job c.args.answer in
    let g = subst (λ (s : Course). CanAnswer s.plan (world s).machine c.args.job c.args.answer) (sym c.self.view_is)
    c.requires in
    let size = a.history.ok.0 in
    let room = more_room a k x g in
    omega arith

pub invariant_of-self : goal.invariant_of-self
invariant_of-self c =
    let a = c.self.inside in
    let k = c.self.invariant in
    let p = a.ordered in
    let w = points_after p a.history.items in
    let t = k.tells in
    let x = Answer c.args.job c.args.answer in
    let g = subst (λ (s : Course). CanAnswer s.plan (world s).machine c.args.job c.args.answer) (sym c.self.view_is)
    c.requires in
    let exists = (inside_keeps a k).turns.exists c.args.job g.started in
    let is = c.at-asking.ensures ∙ ap (get_or a.answers c.args.job) c.not_asked.ensures in
    let asking = subst (IsAnswerState p w.machine.progress.started w.machine.answer w.machine.at_start c.args.job) (sym
    is) (t.answers.each c.args.job) in
    core_next a k x g _ refl c.push_reserved.ensures.items (let e = c.push_reserved.ensures.capacity in omega arith)
    (record {
      earlier = t.earlier;
      submitted = t.submitted;
      jobs = t.jobs;
      answers = subst (AreAnswerStates p w.machine.progress.started (put w.machine.answer c.args.job (Some
          c.args.answer)) w.machine.at_start) (sym c.put.ensures)
          (answers_given p w.machine.progress.started w.machine.answer w.machine.at_start a.answers t.answers
          c.args.job exists c.at-asking.result asking c.args.answer);
      made = t.made;
      points = t.points;
      slots = t.slots;
      payloads = t.payloads;
      timelines = timelines_by p w (after_event p w x) a.timelines.items refl refl refl refl refl refl t.timelines;
      lanes = t.lanes;
      notes = t.notes;
      buffers = t.buffers;
      sizes = t.sizes;
      left = t.left;
    })
