use Rattle.std.proofs.Common.{◌≡◌, ◌<◌, ◌+◌, ◌∙◌, ℕ, true, Some, length, get_or, refl, sym, ap, subst, arith}
use Rattle.std.specs.List.{slice_get}
use Rattle.vq_model.specs.declared.plan.Event.TheVariants.{Take}
use Rattle.vq_model.specs.Machine.{put}
use Rattle.vq_model.proofs.Plans.{op_within}
use Rattle.vq_point_laws.specs.Points.{CanTake, after_event}
use Rattle.vq_point_laws.specs.Timeline.{Timeline, MayTake, after_take}
use Rattle.vq_history_laws.specs.Histories.{points_after}
use Rattle.vq_core_laws.specs.TimelineOf.{IsTimelineOf}
use Rattle.vq_core_laws.proofs.Cited.{fresh_take, other_take, may_take}
use Rattle.vq_core.specs.CoreState.{Course, world}
use Rattle.vq_tables.specs.Tables.{ArePoints, IsSlot, no_timeline}
use Rattle.vq_core.proofs.EventParts.{timeline_read, points_room}
use Rattle.vq_core.proofs.Ops.{here, of_chain, chain_exists}
use Rattle.vq_core.proofs.Pushes.{inside_facts, inside_keeps, more_room, core_next}
use Rattle.vq_tables.proofs.Cited.{slot_taken}
use Rattle.vq_tables.proofs.Cited.{timelines_next}
use Rattle.vq_core.proofs.state.Core.take_new.Goals as goal

pub take-requires : goal.take-requires
take-requires c =
    let a = c.self.inside in
    let k = c.self.invariant in
    let p = a.ordered in
    let w = points_after p a.history.items in
    let t = k.tells in
    let x = Take c.args.op c.args.point true in
    let g = subst (λ (s : Course). CanTake s.plan (world s) c.args.op c.args.point true) (sym c.self.view_is)
    c.requires in
    let f = inside_facts a k in
    let keeps = inside_keeps a k in
    let o = c.op-chain.result in
    let at = subst (λ (s : Course). slice_get s.plan.ops c.args.op ≡ Some o) (sym c.self.view_is)
    c.op-chain.ensures.op in
    let of = of_chain p f c.args.op o at in
    let there = chain_exists p f c.args.op o at in
    let chains = t.timelines.count in
    let l = get_or a.timelines.items o.chain no_timeline in
    let is = t.timelines.each o.chain (omega arith) in
    let kept = t.timelines.kept o.chain (omega arith) in
    let place = here p f c.args.op o at in
    let made = t.points in
    let may = subst (MayTake l o.index) (sym made) (may_take p f w keeps o.chain l is kept o.index c.args.op place
    g.without) in
    subst (λ (m : Timeline). MayTake m o.index a.points) (sym (timeline_read a.timelines.items o.chain
    c.index_mut-timeline.result.now (omega arith) c.index_mut-timeline.ensures.value)) may

pub overflow_add-self : goal.overflow_add-self
overflow_add-self c =
    let a = c.self.inside in
    let k = c.self.invariant in
    let p = a.ordered in
    let w = points_after p a.history.items in
    let t = k.tells in
    let x = Take c.args.op c.args.point true in
    let g = subst (λ (s : Course). CanTake s.plan (world s) c.args.op c.args.point true) (sym c.self.view_is)
    c.requires in
    let f = inside_facts a k in
    let keeps = inside_keeps a k in
    let o = c.op-chain.result in
    let at = subst (λ (s : Course). slice_get s.plan.ops c.args.op ≡ Some o) (sym c.self.view_is)
    c.op-chain.ensures.op in
    let of = of_chain p f c.args.op o at in
    let there = chain_exists p f c.args.op o at in
    let chains = t.timelines.count in
    let l = get_or a.timelines.items o.chain no_timeline in
    let is = t.timelines.each o.chain (omega arith) in
    let kept = t.timelines.kept o.chain (omega arith) in
    let place = here p f c.args.op o at in
    let made = t.points in
    let may = subst (MayTake l o.index) (sym made) (may_take p f w keeps o.chain l is kept o.index c.args.op place
    g.without) in
    let q = g.point.1 in
    let below = points_room a k c.args.op g.without (op_within p c.args.op o.chain of) in
    let few = f.lanes.few_ops in
    omega arith

pub put-requires : goal.put-requires
put-requires c =
    let a = c.self.inside in
    let k = c.self.invariant in
    let p = a.ordered in
    let w = points_after p a.history.items in
    let t = k.tells in
    let x = Take c.args.op c.args.point true in
    let g = subst (λ (s : Course). CanTake s.plan (world s) c.args.op c.args.point true) (sym c.self.view_is)
    c.requires in
    let f = inside_facts a k in
    let keeps = inside_keeps a k in
    let o = c.op-chain.result in
    let at = subst (λ (s : Course). slice_get s.plan.ops c.args.op ≡ Some o) (sym c.self.view_is)
    c.op-chain.ensures.op in
    let of = of_chain p f c.args.op o at in
    let there = chain_exists p f c.args.op o at in
    let chains = t.timelines.count in
    let l = get_or a.timelines.items o.chain no_timeline in
    let is = t.timelines.each o.chain (omega arith) in
    let kept = t.timelines.kept o.chain (omega arith) in
    let place = here p f c.args.op o at in
    let made = t.points in
    let may = subst (MayTake l o.index) (sym made) (may_take p f w keeps o.chain l is kept o.index c.args.op place
    g.without) in
    let q = g.point.1 in
    let below = points_room a k c.args.op g.without (op_within p c.args.op o.chain of) in
    let n = t.slots.count in
    omega arith

pub push_reserved-requires : goal.push_reserved-requires
push_reserved-requires c =
    let a = c.self.inside in
    let k = c.self.invariant in
    let p = a.ordered in
    let w = points_after p a.history.items in
    let t = k.tells in
    let x = Take c.args.op c.args.point true in
    let g = subst (λ (s : Course). CanTake s.plan (world s) c.args.op c.args.point true) (sym c.self.view_is)
    c.requires in
    let size = a.history.ok.0 in
    let room = more_room a k x g in
    omega arith

pub invariant_of-self : goal.invariant_of-self
invariant_of-self c =
    let a = c.self.inside in
    let k = c.self.invariant in
    let p = a.ordered in
    let w = points_after p a.history.items in
    let t = k.tells in
    let x = Take c.args.op c.args.point true in
    let g = subst (λ (s : Course). CanTake s.plan (world s) c.args.op c.args.point true) (sym c.self.view_is)
    c.requires in
    let f = inside_facts a k in
    let keeps = inside_keeps a k in
    let o = c.op-chain.result in
    let at = subst (λ (s : Course). slice_get s.plan.ops c.args.op ≡ Some o) (sym c.self.view_is)
    c.op-chain.ensures.op in
    let of = of_chain p f c.args.op o at in
    let there = chain_exists p f c.args.op o at in
    let chains = t.timelines.count in
    let l = get_or a.timelines.items o.chain no_timeline in
    let is = t.timelines.each o.chain (omega arith) in
    let kept = t.timelines.kept o.chain (omega arith) in
    let place = here p f c.args.op o at in
    let made = t.points in
    let may = subst (MayTake l o.index) (sym made) (may_take p f w keeps o.chain l is kept o.index c.args.op place
    g.without) in
    let q = g.point.1 in
    let below = points_room a k c.args.op g.without (op_within p c.args.op o.chain of) in
    let slot_is = c.at-slot.ensures ∙ ap (get_or a.slots c.args.point) c.empty.ensures in
    let slot = subst (IsSlot w.carried w.waiting w.held c.args.point) (sym slot_is) (t.slots.each c.args.point) in
    let point_exists : c.args.point < length p.ops = (let n = t.slots.count in omega arith) in
    let same = timeline_read a.timelines.items o.chain c.index_mut-timeline.result.now (omega arith)
    c.index_mut-timeline.ensures.value in
    let after : c.take.new.self ≡ after_take l o.index w.points = c.take.ensures.after
    ∙ (λ i. after_take (same i) o.index (made i)) in
    core_next a k x g _ refl c.push_reserved.ensures.items (let e = c.push_reserved.ensures.capacity in omega arith)
    (record {
      earlier = t.earlier;
      submitted = t.submitted;
      jobs = t.jobs;
      answers = t.answers;
      made = t.made;
      points = ap (λ (n : ℕ). n + 1) t.points;
      slots = subst (ArePoints (length p.ops) (put w.carried c.args.point (Some c.args.op)) w.waiting w.held) (sym
          c.put.ensures)
          (slot_taken (length p.ops) w.carried w.waiting w.held a.slots t.slots c.args.point point_exists
          c.at-slot.result slot c.args.op);
      payloads = t.payloads;
      timelines = timelines_next p w (after_event p w x) a.timelines.items o.chain c.take.new.self t.timelines (omega
          arith)
          (subst (IsTimelineOf p (after_event p w x) o.chain) (sym after) (fresh_take p f w keeps o.chain l is kept
          o.index c.args.op place c.args.point g of)) c.take.ensures.kept
          (λ s d m km im. other_take p f w keeps s m im km o.chain c.args.op c.args.point true g of d);
      lanes = t.lanes;
      notes = t.notes;
      buffers = t.buffers;
      sizes = t.sizes;
      left = t.left;
    })
