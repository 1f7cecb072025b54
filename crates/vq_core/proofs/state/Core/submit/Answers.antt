use Rattle.std.proofs.Common.{refl, sym, subst, arith}
use Rattle.vq_model.specs.declared.plan.Event.TheVariants.{Submit}
use Rattle.vq_model.proofs.Plans.{batch_exists}
use Rattle.vq_point_laws.specs.Points.{CanSubmit, after_event}
use Rattle.vq_history_laws.specs.Histories.{points_after}
use Rattle.vq_core.specs.CoreState.{Course, world}
use Rattle.vq_core.proofs.EventParts.{submit_turn}
use Rattle.vq_core.proofs.Pushes.{inside_facts, more_room, core_next}
use Rattle.vq_core.proofs.SubmitLaws.{submitted_next}
use Rattle.vq_tables.proofs.Cited.{batches_most, timelines_by}
use Rattle.vq_core.proofs.state.Core.submit.Goals as goal

pub overflow_add-self : goal.overflow_add-self
overflow_add-self c =
    let a = c.self.inside in
    let k = c.self.invariant in
    let p = a.ordered in
    let w = points_after p a.history.items in
    let t = k.tells in
    let x = Submit c.args.job in
    let g = subst (λ (s : Course). CanSubmit s.plan (world s) c.args.job) (sym c.self.view_is) c.requires in
    let j = c.args.job in
    let few = (inside_facts a k).lanes.few_jobs in
    let exists = batch_exists p j g.batch in
    let turn = submit_turn a k j g in
    let most = batches_most p j in
    omega arith

pub push_reserved-requires : goal.push_reserved-requires
push_reserved-requires c =
    let a = c.self.inside in
    let k = c.self.invariant in
    let p = a.ordered in
    let w = points_after p a.history.items in
    let t = k.tells in
    let x = Submit c.args.job in
    let g = subst (λ (s : Course). CanSubmit s.plan (world s) c.args.job) (sym c.self.view_is) c.requires in
    let size = a.history.ok.0 in
    let room = more_room a k x g in
    omega arith

pub invariant_of-self : goal.invariant_of-self
invariant_of-self c =
    let a = c.self.inside in
    let k = c.self.invariant in
    let p = a.ordered in
    let w = points_after p a.history.items in
    let t = k.tells in
    let x = Submit c.args.job in
    let g = subst (λ (s : Course). CanSubmit s.plan (world s) c.args.job) (sym c.self.view_is) c.requires in
    let j = c.args.job in
    let few = (inside_facts a k).lanes.few_jobs in
    let exists = batch_exists p j g.batch in
    let turn = submit_turn a k j g in
    core_next a k x g _ refl c.push_reserved.ensures.items (let e = c.push_reserved.ensures.capacity in omega arith)
    (record {
      earlier = t.earlier;
      submitted = submitted_next p w.submitted a.submitted j t.submitted g.batch turn exists;
      jobs = t.jobs;
      answers = t.answers;
      made = t.made;
      points = t.points;
      slots = t.slots;
      payloads = t.payloads;
      timelines = timelines_by p w (after_event p w x) a.timelines.items refl refl refl refl refl refl t.timelines;
      lanes = t.lanes;
      notes = t.notes;
      buffers = t.buffers;
      sizes = t.sizes;
      left = t.left;
    })
