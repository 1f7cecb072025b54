use Rattle.std.proofs.Common.{◌≡◌, ◌<◌, ◌∙◌, false, Some, None, length, get_or, refl, sym, ap, subst, arith}
use Rattle.std.specs.List.{slice_get}
use Rattle.vq_model.specs.declared.plan.Event.TheVariants.{Free}
use Rattle.vq_model.specs.Machine.{put}
use Rattle.vq_model.proofs.Plans.{op_within}
use Rattle.vq_point_laws.specs.Points.{CanFree, after_event}
use Rattle.vq_point_laws.specs.Timeline.{Timeline, MayFree, after_free}
use Rattle.vq_history_laws.specs.Histories.{points_after}
use Rattle.vq_core_laws.specs.TimelineOf.{IsTimelineOf}
use Rattle.vq_core_laws.proofs.Cited.{own_free, other_free}
use Rattle.vq_core.specs.CoreState.{Course, world}
use Rattle.vq_tables.specs.Tables.{ArePoints, IsSlot, no_timeline}
use Rattle.vq_core.proofs.EventParts.{timeline_read, points_few, some_of_option}
use Rattle.vq_core.proofs.Ops.{here, of_chain, chain_exists}
use Rattle.vq_core.proofs.Pushes.{inside_facts, inside_keeps, more_room, core_next}
use Rattle.vq_tables.proofs.Cited.{slot_freed}
use Rattle.vq_tables.proofs.Cited.{timelines_next}
use Rattle.vq_core.proofs.state.Core.free.Goals as goal

pub unwrap-op-requires : goal.unwrap-op-requires
unwrap-op-requires c =
    let a = c.self.inside in
    let k = c.self.invariant in
    let p = a.ordered in
    let w = points_after p a.history.items in
    let t = k.tells in
    let x = Free c.args.point in
    let g = subst (λ (s : Course). CanFree (world s) c.args.point) (sym c.self.view_is) c.requires in
    let waits = (inside_keeps a k).links.waits c.args.point g.waiting in
    let read = c.carried.ensures ∙ sym (ap (λ (s : Course). (world s).carried c.args.point) c.self.view_is)
    ∙ waits.carried in
    some_of_option c.carried.result waits.op read

pub op-chain-requires : goal.op-chain-requires
op-chain-requires c =
    let a = c.self.inside in
    let k = c.self.invariant in
    let p = a.ordered in
    let w = points_after p a.history.items in
    let t = k.tells in
    let x = Free c.args.point in
    let g = subst (λ (s : Course). CanFree (world s) c.args.point) (sym c.self.view_is) c.requires in
    let waits = (inside_keeps a k).links.waits c.args.point g.waiting in
    let read = c.carried.ensures ∙ sym (ap (λ (s : Course). (world s).carried c.args.point) c.self.view_is)
    ∙ waits.carried in
    let carried : w.carried c.args.point ≡ Some c.unwrap-op.result = waits.carried ∙ (sym read ∙ c.unwrap-op.ensures) in
    let f = (inside_keeps a k).points.chain c.args.point c.unwrap-op.result carried in
    subst (λ (s : Course). c.unwrap-op.result < length s.plan.ops) c.self.view_is (op_within p c.unwrap-op.result f.0
    f.1)

pub free-requires : goal.free-requires
free-requires c =
    let a = c.self.inside in
    let k = c.self.invariant in
    let p = a.ordered in
    let w = points_after p a.history.items in
    let t = k.tells in
    let x = Free c.args.point in
    let g = subst (λ (s : Course). CanFree (world s) c.args.point) (sym c.self.view_is) c.requires in
    let waits = (inside_keeps a k).links.waits c.args.point g.waiting in
    let read = c.carried.ensures ∙ sym (ap (λ (s : Course). (world s).carried c.args.point) c.self.view_is)
    ∙ waits.carried in
    let carried : w.carried c.args.point ≡ Some c.unwrap-op.result = waits.carried ∙ (sym read ∙ c.unwrap-op.ensures) in
    let f = inside_facts a k in
    let keeps = inside_keeps a k in
    let o = c.op-chain.result in
    let at = subst (λ (s : Course). slice_get s.plan.ops c.unwrap-op.result ≡ Some o) (sym c.self.view_is)
    c.op-chain.ensures.op in
    let of = of_chain p f c.unwrap-op.result o at in
    let there = chain_exists p f c.unwrap-op.result o at in
    let chains = t.timelines.count in
    let l = get_or a.timelines.items o.chain no_timeline in
    let is = t.timelines.each o.chain (omega arith) in
    let kept = t.timelines.kept o.chain (omega arith) in
    let place = here p f c.unwrap-op.result o at in
    let same = timeline_read a.timelines.items o.chain c.index_mut-timeline.result.now (omega arith)
    c.index_mut-timeline.ensures.value in
    let whole = own_free p f w keeps o.chain l is kept c.unwrap-op.result c.args.point g.waiting carried of in
    let below = keeps.points.made c.unwrap-op.result c.args.point (keeps.points.carries c.args.point
    c.unwrap-op.result carried) in
    let few = points_few a k in
    subst (λ (m : Timeline). MayFree m c.args.point) (sym same) whole.0

pub put-requires : goal.put-requires
put-requires c =
    let a = c.self.inside in
    let k = c.self.invariant in
    let p = a.ordered in
    let w = points_after p a.history.items in
    let t = k.tells in
    let x = Free c.args.point in
    let g = subst (λ (s : Course). CanFree (world s) c.args.point) (sym c.self.view_is) c.requires in
    let waits = (inside_keeps a k).links.waits c.args.point g.waiting in
    let read = c.carried.ensures ∙ sym (ap (λ (s : Course). (world s).carried c.args.point) c.self.view_is)
    ∙ waits.carried in
    let carried : w.carried c.args.point ≡ Some c.unwrap-op.result = waits.carried ∙ (sym read ∙ c.unwrap-op.ensures) in
    let f = inside_facts a k in
    let keeps = inside_keeps a k in
    let o = c.op-chain.result in
    let at = subst (λ (s : Course). slice_get s.plan.ops c.unwrap-op.result ≡ Some o) (sym c.self.view_is)
    c.op-chain.ensures.op in
    let of = of_chain p f c.unwrap-op.result o at in
    let there = chain_exists p f c.unwrap-op.result o at in
    let chains = t.timelines.count in
    let l = get_or a.timelines.items o.chain no_timeline in
    let is = t.timelines.each o.chain (omega arith) in
    let kept = t.timelines.kept o.chain (omega arith) in
    let place = here p f c.unwrap-op.result o at in
    let same = timeline_read a.timelines.items o.chain c.index_mut-timeline.result.now (omega arith)
    c.index_mut-timeline.ensures.value in
    let whole = own_free p f w keeps o.chain l is kept c.unwrap-op.result c.args.point g.waiting carried of in
    let below = keeps.points.made c.unwrap-op.result c.args.point (keeps.points.carries c.args.point
    c.unwrap-op.result carried) in
    let few = points_few a k in
    let n = t.slots.count in
    omega arith

pub push_reserved-requires : goal.push_reserved-requires
push_reserved-requires c =
    let a = c.self.inside in
    let k = c.self.invariant in
    let p = a.ordered in
    let w = points_after p a.history.items in
    let t = k.tells in
    let x = Free c.args.point in
    let g = subst (λ (s : Course). CanFree (world s) c.args.point) (sym c.self.view_is) c.requires in
    let size = a.history.ok.0 in
    let room = more_room a k x g in
    omega arith

pub invariant_of-self : goal.invariant_of-self
invariant_of-self c =
    let a = c.self.inside in
    let k = c.self.invariant in
    let p = a.ordered in
    let w = points_after p a.history.items in
    let t = k.tells in
    let x = Free c.args.point in
    let g = subst (λ (s : Course). CanFree (world s) c.args.point) (sym c.self.view_is) c.requires in
    let waits = (inside_keeps a k).links.waits c.args.point g.waiting in
    let read = c.carried.ensures ∙ sym (ap (λ (s : Course). (world s).carried c.args.point) c.self.view_is)
    ∙ waits.carried in
    let carried : w.carried c.args.point ≡ Some c.unwrap-op.result = waits.carried ∙ (sym read ∙ c.unwrap-op.ensures) in
    let f = inside_facts a k in
    let keeps = inside_keeps a k in
    let o = c.op-chain.result in
    let at = subst (λ (s : Course). slice_get s.plan.ops c.unwrap-op.result ≡ Some o) (sym c.self.view_is)
    c.op-chain.ensures.op in
    let of = of_chain p f c.unwrap-op.result o at in
    let there = chain_exists p f c.unwrap-op.result o at in
    let chains = t.timelines.count in
    let l = get_or a.timelines.items o.chain no_timeline in
    let is = t.timelines.each o.chain (omega arith) in
    let kept = t.timelines.kept o.chain (omega arith) in
    let place = here p f c.unwrap-op.result o at in
    let same = timeline_read a.timelines.items o.chain c.index_mut-timeline.result.now (omega arith)
    c.index_mut-timeline.ensures.value in
    let whole = own_free p f w keeps o.chain l is kept c.unwrap-op.result c.args.point g.waiting carried of in
    let below = keeps.points.made c.unwrap-op.result c.args.point (keeps.points.carries c.args.point
    c.unwrap-op.result carried) in
    let few = points_few a k in
    let after : c.free.new.self ≡ after_free l c.args.point = c.free.ensures.after
    ∙ ap (λ (m : Timeline). after_free m c.args.point) same in
    let slot_is = c.at-slot.ensures ∙ ap (get_or a.slots c.args.point) c.empty.ensures in
    let slot = subst (IsSlot w.carried w.waiting w.held c.args.point) (sym slot_is) (t.slots.each c.args.point) in
    let point_exists : c.args.point < length p.ops = omega arith in
    core_next a k x g _ refl c.push_reserved.ensures.items (let e = c.push_reserved.ensures.capacity in omega arith)
    (record {
      earlier = t.earlier;
      submitted = t.submitted;
      jobs = t.jobs;
      answers = t.answers;
      made = t.made;
      points = t.points;
      slots = subst (ArePoints (length p.ops) (put w.carried c.args.point None) (put w.waiting c.args.point false)
          w.held) (sym c.put.ensures)
          (slot_freed (length p.ops) w.carried w.waiting w.held a.slots t.slots c.args.point point_exists
          c.at-slot.result slot);
      payloads = t.payloads;
      timelines = timelines_next p w (after_event p w x) a.timelines.items o.chain c.free.new.self t.timelines (omega
          arith)
          (subst (IsTimelineOf p (after_event p w x) o.chain) (sym after) whole.1) c.free.ensures.kept
          (λ s d m km im. other_free p f w keeps s m im km o.chain c.unwrap-op.result c.args.point g.waiting carried
          of d);
      lanes = t.lanes;
      notes = t.notes;
      buffers = t.buffers;
      sizes = t.sizes;
      left = t.left;
    })
