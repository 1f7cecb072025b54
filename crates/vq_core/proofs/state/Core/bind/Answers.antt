use Rattle.std.proofs.Common.{◌≡◌, ◌∙◌, ℕ, Some, get_or, refl, sym, ap, subst, arith}
use Rattle.std.specs.List.{slice_get, list_all}
use Rattle.vq_model.specs.declared.plan.Event.TheVariants.{Bind}
use Rattle.vq_point_laws.specs.Points.{CanBind, after_event, smaller_ops}
use Rattle.vq_point_laws.specs.Timeline.{Timeline, MayBind, after_bind}
use Rattle.vq_history_laws.specs.Histories.{points_after}
use Rattle.vq_core_laws.specs.TimelineOf.{IsTimelineOf}
use Rattle.vq_core_laws.proofs.Cited.{turn_place, own_bind, may_bind, other_bind}
use Rattle.vq_core.specs.CoreState.{Course, world}
use Rattle.vq_tables.specs.Tables.{no_timeline}
use Rattle.vq_core.proofs.EventParts.{timeline_read, is_ok, on_ok}
use Rattle.vq_core.proofs.Ops.{here, of_chain, chain_exists}
use Rattle.vq_core.proofs.Pushes.{inside_facts, inside_keeps, more_room, core_next}
use Rattle.vq_tables.proofs.Cited.{timelines_next}
use Rattle.vq_core.proofs.state.Core.bind.Goals as goal

pub bind-requires : goal.bind-requires
bind-requires c =
    let a = c.self.inside in
    let k = c.self.invariant in
    let p = a.ordered in
    let w = points_after p a.history.items in
    let t = k.tells in
    let x = Bind c.args.op c.args.point in
    let g = subst (λ (s : Course). CanBind s.plan (world s) c.args.op c.args.point) (sym c.self.view_is) c.requires in
    let f = inside_facts a k in
    let keeps = inside_keeps a k in
    let o = c.op-chain.result in
    let at = subst (λ (s : Course). slice_get s.plan.ops c.args.op ≡ Some o) (sym c.self.view_is)
    c.op-chain.ensures.op in
    let of = of_chain p f c.args.op o at in
    let there = chain_exists p f c.args.op o at in
    let chains = t.timelines.count in
    let l = get_or a.timelines.items o.chain no_timeline in
    let is = t.timelines.each o.chain (omega arith) in
    let kept = t.timelines.kept o.chain (omega arith) in
    let place = here p f c.args.op o at in
    let same = timeline_read a.timelines.items o.chain c.index_mut-timeline.result.now (omega arith)
    c.index_mut-timeline.ensures.value in
    let chain_is : g.chain ≡ o.chain = (let z = sym g.in_chain ∙ of in cc) in
    let next = turn_place p f w keeps o.chain l is kept o.index c.args.op place w.bound l.bound is.bound g.unbound
    (ap (λ (n : ℕ). list_all w.bound (smaller_ops p n c.args.op)) (sym chain_is) ∙ g.in_order) in
    subst (λ (m : Timeline). MayBind m o.index c.args.point) (sym same) (may_bind p f w keeps o.chain l is kept
    o.index c.args.op place c.args.point g.carries next)

pub unwrap-requires : goal.unwrap-requires
unwrap-requires c =
    let a = c.self.inside in
    let k = c.self.invariant in
    let p = a.ordered in
    let w = points_after p a.history.items in
    let t = k.tells in
    let x = Bind c.args.op c.args.point in
    let g = subst (λ (s : Course). CanBind s.plan (world s) c.args.op c.args.point) (sym c.self.view_is) c.requires in
    let f = inside_facts a k in
    let keeps = inside_keeps a k in
    let o = c.op-chain.result in
    let at = subst (λ (s : Course). slice_get s.plan.ops c.args.op ≡ Some o) (sym c.self.view_is)
    c.op-chain.ensures.op in
    let of = of_chain p f c.args.op o at in
    let there = chain_exists p f c.args.op o at in
    let chains = t.timelines.count in
    let l = get_or a.timelines.items o.chain no_timeline in
    let is = t.timelines.each o.chain (omega arith) in
    let kept = t.timelines.kept o.chain (omega arith) in
    let place = here p f c.args.op o at in
    let same = timeline_read a.timelines.items o.chain c.index_mut-timeline.result.now (omega arith)
    c.index_mut-timeline.ensures.value in
    let chain_is : g.chain ≡ o.chain = (let z = sym g.in_chain ∙ of in cc) in
    let next = turn_place p f w keeps o.chain l is kept o.index c.args.op place w.bound l.bound is.bound g.unbound
    (ap (λ (n : ℕ). list_all w.bound (smaller_ops p n c.args.op)) (sym chain_is) ∙ g.in_order) in
    let now = ap (λ (m : Timeline). m.bound) same in
    let ok = is_ok c.bind.result (λ h. let less = c.bind.ensures.refused.0 h in omega arith) in
    ok

pub push_reserved-requires : goal.push_reserved-requires
push_reserved-requires c =
    let a = c.self.inside in
    let k = c.self.invariant in
    let p = a.ordered in
    let w = points_after p a.history.items in
    let t = k.tells in
    let x = Bind c.args.op c.args.point in
    let g = subst (λ (s : Course). CanBind s.plan (world s) c.args.op c.args.point) (sym c.self.view_is) c.requires in
    let size = a.history.ok.0 in
    let room = more_room a k x g in
    omega arith

pub invariant_of-self : goal.invariant_of-self
invariant_of-self c =
    let a = c.self.inside in
    let k = c.self.invariant in
    let p = a.ordered in
    let w = points_after p a.history.items in
    let t = k.tells in
    let x = Bind c.args.op c.args.point in
    let g = subst (λ (s : Course). CanBind s.plan (world s) c.args.op c.args.point) (sym c.self.view_is) c.requires in
    let f = inside_facts a k in
    let keeps = inside_keeps a k in
    let o = c.op-chain.result in
    let at = subst (λ (s : Course). slice_get s.plan.ops c.args.op ≡ Some o) (sym c.self.view_is)
    c.op-chain.ensures.op in
    let of = of_chain p f c.args.op o at in
    let there = chain_exists p f c.args.op o at in
    let chains = t.timelines.count in
    let l = get_or a.timelines.items o.chain no_timeline in
    let is = t.timelines.each o.chain (omega arith) in
    let kept = t.timelines.kept o.chain (omega arith) in
    let place = here p f c.args.op o at in
    let same = timeline_read a.timelines.items o.chain c.index_mut-timeline.result.now (omega arith)
    c.index_mut-timeline.ensures.value in
    let chain_is : g.chain ≡ o.chain = (let z = sym g.in_chain ∙ of in cc) in
    let next = turn_place p f w keeps o.chain l is kept o.index c.args.op place w.bound l.bound is.bound g.unbound
    (ap (λ (n : ℕ). list_all w.bound (smaller_ops p n c.args.op)) (sym chain_is) ∙ g.in_order) in
    let now = ap (λ (m : Timeline). m.bound) same in
    let ok = is_ok c.bind.result (λ h. let less = c.bind.ensures.refused.0 h in omega arith) in
    let after : c.bind.new.self ≡ after_bind l = on_ok c.bind.result ok c.bind.ensures.ok ∙ ap after_bind same in
    core_next a k x g _ refl c.push_reserved.ensures.items (let e = c.push_reserved.ensures.capacity in omega arith)
    (record {
      earlier = t.earlier;
      submitted = t.submitted;
      jobs = t.jobs;
      answers = t.answers;
      made = t.made;
      points = t.points;
      slots = t.slots;
      payloads = t.payloads;
      timelines = timelines_next p w (after_event p w x) a.timelines.items o.chain c.bind.new.self t.timelines (omega
          arith)
          (subst (IsTimelineOf p (after_event p w x) o.chain) (sym after) (own_bind p f w keeps o.chain l is kept
          o.index c.args.op place c.args.point next)) c.bind.ensures.kept
          (λ s d m km im. other_bind p f w keeps s m im km o.chain c.args.op c.args.point of d);
      lanes = t.lanes;
      notes = t.notes;
      buffers = t.buffers;
      sizes = t.sizes;
      left = t.left;
    })
