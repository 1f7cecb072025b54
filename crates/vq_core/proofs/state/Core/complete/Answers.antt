use Rattle.std.proofs.Common.{◌≡◌, ◌<◌, ◌∙◌, ℕ, Bool, true, Option, Some, length, get_or, refl, sym, ap, subst, arith}
use Rattle.std.specs.List.{slice_get, list_all}
use Rattle.std.proofs.Common.{not}
use Rattle.std.proofs.lemmas.Bool.{and_parts, not-true}
use Rattle.vq_model.specs.declared.plan.Event.TheVariants.{Complete}
use Rattle.vq_model.specs.Machine.{put}
use Rattle.vq_point_laws.specs.Points.{CanComplete, after_event, smaller_ops, at_option}
use Rattle.vq_point_laws.specs.Timeline.{Timeline, after_complete}
use Rattle.vq_history_laws.specs.Histories.{points_after}
use Rattle.vq_core_laws.specs.TimelineOf.{IsTimelineOf}
use Rattle.vq_core_laws.proofs.Cited.{turn_place, own_complete, other_complete}
use Rattle.vq_core.specs.CoreState.{Course, world}
use Rattle.vq_tables.specs.Tables.{ArePoints, IsSlot, no_timeline}
use Rattle.vq_core.proofs.EventParts.{timeline_read, points_few, bound_point, some_of_option}
use Rattle.vq_core.proofs.Ops.{here, of_chain, chain_exists}
use Rattle.vq_core.proofs.Pushes.{inside_facts, inside_keeps, more_room, core_next}
use Rattle.vq_tables.proofs.Cited.{slot_completed}
use Rattle.vq_tables.proofs.Cited.{timelines_next}
use Rattle.vq_core.proofs.state.Core.complete.Goals as goal

pub unwrap-point-requires : goal.unwrap-point-requires
unwrap-point-requires c =
    let a = c.self.inside in
    let k = c.self.invariant in
    let p = a.ordered in
    let w = points_after p a.history.items in
    let t = k.tells in
    let x = Complete c.args.op in
    let g = subst (λ (s : Course). CanComplete s.plan (world s) c.args.op) (sym c.self.view_is) c.requires in
    let f = inside_facts a k in
    let keeps = inside_keeps a k in
    let o = c.op-chain.result in
    let at = subst (λ (s : Course). slice_get s.plan.ops c.args.op ≡ Some o) (sym c.self.view_is)
    c.op-chain.ensures.op in
    let of = of_chain p f c.args.op o at in
    let there = chain_exists p f c.args.op o at in
    let chains = t.timelines.count in
    let l = get_or a.timelines.items o.chain no_timeline in
    let is = t.timelines.each o.chain (omega arith) in
    let kept = t.timelines.kept o.chain (omega arith) in
    let place = here p f c.args.op o at in
    let bound = (and_parts (w.bound c.args.op) (not (w.past c.args.op)) g.pending).0 in
    let unpast = not-true (w.past c.args.op) (and_parts (w.bound c.args.op) (not (w.past c.args.op)) g.pending).1 in
    let had = bound_point p w o.chain o.index c.args.op l is kept place bound in
    let read = c.point_of.ensures ∙ sym (ap (λ (s : Course). (world s).point_of c.args.op) c.self.view_is) ∙ had.1 in
    some_of_option c.point_of.result had.0 read

pub complete_first-requires : goal.complete_first-requires
complete_first-requires c =
    let a = c.self.inside in
    let k = c.self.invariant in
    let p = a.ordered in
    let w = points_after p a.history.items in
    let t = k.tells in
    let x = Complete c.args.op in
    let g = subst (λ (s : Course). CanComplete s.plan (world s) c.args.op) (sym c.self.view_is) c.requires in
    let f = inside_facts a k in
    let keeps = inside_keeps a k in
    let o = c.op-chain.result in
    let at = subst (λ (s : Course). slice_get s.plan.ops c.args.op ≡ Some o) (sym c.self.view_is)
    c.op-chain.ensures.op in
    let of = of_chain p f c.args.op o at in
    let there = chain_exists p f c.args.op o at in
    let chains = t.timelines.count in
    let l = get_or a.timelines.items o.chain no_timeline in
    let is = t.timelines.each o.chain (omega arith) in
    let kept = t.timelines.kept o.chain (omega arith) in
    let place = here p f c.args.op o at in
    let same = timeline_read a.timelines.items o.chain c.index_mut-timeline.result.now (omega arith)
    c.index_mut-timeline.ensures.value in
    let bound = (and_parts (w.bound c.args.op) (not (w.past c.args.op)) g.pending).0 in
    let unpast = not-true (w.past c.args.op) (and_parts (w.bound c.args.op) (not (w.past c.args.op)) g.pending).1 in
    let had = bound_point p w o.chain o.index c.args.op l is kept place bound in
    let read = c.point_of.ensures ∙ sym (ap (λ (s : Course). (world s).point_of c.args.op) c.self.view_is) ∙ had.1 in
    let chain_is : g.chain ≡ o.chain = (let z = sym g.in_chain ∙ of in cc) in
    let next = turn_place p f w keeps o.chain l is kept o.index c.args.op place w.past l.completed is.completed
    unpast (ap (λ (n : ℕ). list_all w.past (smaller_ops p n c.args.op)) (sym chain_is) ∙ g.in_order) in
    let whole = own_complete p f w keeps o.chain l is kept o.index c.args.op place next bound unpast in
    subst (λ (m : Timeline). m.completed < m.bound) (sym same) whole.0

pub put-requires : goal.put-requires
put-requires c =
    let a = c.self.inside in
    let k = c.self.invariant in
    let p = a.ordered in
    let w = points_after p a.history.items in
    let t = k.tells in
    let x = Complete c.args.op in
    let g = subst (λ (s : Course). CanComplete s.plan (world s) c.args.op) (sym c.self.view_is) c.requires in
    let f = inside_facts a k in
    let keeps = inside_keeps a k in
    let o = c.op-chain.result in
    let at = subst (λ (s : Course). slice_get s.plan.ops c.args.op ≡ Some o) (sym c.self.view_is)
    c.op-chain.ensures.op in
    let of = of_chain p f c.args.op o at in
    let there = chain_exists p f c.args.op o at in
    let chains = t.timelines.count in
    let l = get_or a.timelines.items o.chain no_timeline in
    let is = t.timelines.each o.chain (omega arith) in
    let kept = t.timelines.kept o.chain (omega arith) in
    let place = here p f c.args.op o at in
    let bound = (and_parts (w.bound c.args.op) (not (w.past c.args.op)) g.pending).0 in
    let unpast = not-true (w.past c.args.op) (and_parts (w.bound c.args.op) (not (w.past c.args.op)) g.pending).1 in
    let had = bound_point p w o.chain o.index c.args.op l is kept place bound in
    let read = c.point_of.ensures ∙ sym (ap (λ (s : Course). (world s).point_of c.args.op) c.self.view_is) ∙ had.1 in
    let point : w.point_of c.args.op ≡ Some c.unwrap-point.result = had.1 ∙ (sym read ∙ c.unwrap-point.ensures) in
    let below = keeps.points.made c.args.op c.unwrap-point.result point in
    let few = points_few a k in
    let n = t.slots.count in
    omega arith

pub push_reserved-requires : goal.push_reserved-requires
push_reserved-requires c =
    let a = c.self.inside in
    let k = c.self.invariant in
    let p = a.ordered in
    let w = points_after p a.history.items in
    let t = k.tells in
    let x = Complete c.args.op in
    let g = subst (λ (s : Course). CanComplete s.plan (world s) c.args.op) (sym c.self.view_is) c.requires in
    let size = a.history.ok.0 in
    let room = more_room a k x g in
    omega arith

pub invariant_of-self : goal.invariant_of-self
invariant_of-self c =
    let a = c.self.inside in
    let k = c.self.invariant in
    let p = a.ordered in
    let w = points_after p a.history.items in
    let t = k.tells in
    let x = Complete c.args.op in
    let g = subst (λ (s : Course). CanComplete s.plan (world s) c.args.op) (sym c.self.view_is) c.requires in
    let f = inside_facts a k in
    let keeps = inside_keeps a k in
    let o = c.op-chain.result in
    let at = subst (λ (s : Course). slice_get s.plan.ops c.args.op ≡ Some o) (sym c.self.view_is)
    c.op-chain.ensures.op in
    let of = of_chain p f c.args.op o at in
    let there = chain_exists p f c.args.op o at in
    let chains = t.timelines.count in
    let l = get_or a.timelines.items o.chain no_timeline in
    let is = t.timelines.each o.chain (omega arith) in
    let kept = t.timelines.kept o.chain (omega arith) in
    let place = here p f c.args.op o at in
    let same = timeline_read a.timelines.items o.chain c.index_mut-timeline.result.now (omega arith)
    c.index_mut-timeline.ensures.value in
    let bound = (and_parts (w.bound c.args.op) (not (w.past c.args.op)) g.pending).0 in
    let unpast = not-true (w.past c.args.op) (and_parts (w.bound c.args.op) (not (w.past c.args.op)) g.pending).1 in
    let had = bound_point p w o.chain o.index c.args.op l is kept place bound in
    let read = c.point_of.ensures ∙ sym (ap (λ (s : Course). (world s).point_of c.args.op) c.self.view_is) ∙ had.1 in
    let chain_is : g.chain ≡ o.chain = (let z = sym g.in_chain ∙ of in cc) in
    let next = turn_place p f w keeps o.chain l is kept o.index c.args.op place w.past l.completed is.completed
    unpast (ap (λ (n : ℕ). list_all w.past (smaller_ops p n c.args.op)) (sym chain_is) ∙ g.in_order) in
    let whole = own_complete p f w keeps o.chain l is kept o.index c.args.op place next bound unpast in
    let point : w.point_of c.args.op ≡ Some c.unwrap-point.result = had.1 ∙ (sym read ∙ c.unwrap-point.ensures) in
    let below = keeps.points.made c.args.op c.unwrap-point.result point in
    let few = points_few a k in
    let after : c.complete_first.new.self ≡ after_complete l = c.complete_first.ensures.after
    ∙ ap after_complete same in
    let slot_is = c.at-slot.ensures ∙ ap (get_or a.slots c.unwrap-point.result) c.empty.ensures in
    let slot = subst (IsSlot w.carried w.waiting w.held c.unwrap-point.result) (sym slot_is) (t.slots.each
    c.unwrap-point.result) in
    let point_exists : c.unwrap-point.result < length p.ops = omega arith in
    core_next a k x g _ refl c.push_reserved.ensures.items (let e = c.push_reserved.ensures.capacity in omega arith)
    (record {
      earlier = t.earlier;
      submitted = t.submitted;
      jobs = t.jobs;
      answers = t.answers;
      made = t.made;
      points = t.points;
      slots = subst (λ (o : Option ℕ). ArePoints (length p.ops) w.carried (at_option {A = ℕ →
          Bool} (λ q f. put f q true) o w.waiting) w.held c.put.new.self) (sym point)
          (subst (ArePoints (length p.ops) w.carried (put w.waiting c.unwrap-point.result true) w.held) (sym
          c.put.ensures)
          (slot_completed (length p.ops) w.carried w.waiting w.held a.slots t.slots c.unwrap-point.result
          point_exists c.at-slot.result slot));
      payloads = t.payloads;
      timelines = timelines_next p w (after_event p w x) a.timelines.items o.chain c.complete_first.new.self
          t.timelines (omega arith)
          (subst (IsTimelineOf p (after_event p w x) o.chain) (sym after) whole.1) c.complete_first.ensures.kept
          (λ s d m km im. other_complete p f w keeps s m im km o.chain c.args.op unpast of d);
      lanes = t.lanes;
      notes = t.notes;
      buffers = t.buffers;
      sizes = t.sizes;
      left = t.left;
    })
