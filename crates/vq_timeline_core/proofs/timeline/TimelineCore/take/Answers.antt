use Rattle.std.proofs.Common.{◌∷◌, [], reverse, refl, sym, ◌∙◌, ap, subst, arith}
use Rattle.std.proofs.lemmas.List.{reverse-append, nil_from_length}
use Rattle.vq_point_laws.specs.Timeline.{Timeline, MayTake}
use Rattle.vq_timeline_core.specs.Lists.{lists_of}
use Rattle.vq_timeline_core.proofs.Steps.{reused_keeps, fresh_keeps}
use Rattle.vq_timeline_core.proofs.timeline.TimelineCore.take.Goals as goal

pub invariant_of-self : goal.invariant_of-self
invariant_of-self c =
    let can = subst (λ (t : Timeline). MayTake t c.args.index c.args.fresh) (sym c.self.view_is) c.requires in
    let free = ap reverse c.in-Some.ensures.items ∙ reverse-append c.pop.new.self.items (c.in-Some.point ∷ []) in
    let capacity = c.in-Some.ensures.capacity in
    let room = c.self.invariant.free_room in
    record {
      kept = reused_keeps (lists_of c.self.inside) c.args.index c.args.fresh c.in-Some.point (reverse c.pop.new.self.items) c.self.invariant.kept can free;
      few = c.self.invariant.few;
      waiting_room = c.self.invariant.waiting_room;
      free_room = omega arith;
    }

pub overflow_add-self : goal.overflow_add-self
overflow_add-self c =
    let can = subst (λ (t : Timeline). MayTake t c.args.index c.args.fresh) (sym c.self.view_is) c.requires in
    let none = ap reverse (nil_from_length c.self.inside.free.items (sym c.self.inside.free.ok.0 ∙ c.in-None.ensures.cases.0)) in
    let kept = fresh_keeps (lists_of c.self.inside) c.args.index c.args.fresh [] c.self.invariant.kept can none refl in
    let few = kept.few in
    let fits = c.self.invariant.few in
    omega arith

pub invariant_of-self-in-None : goal.invariant_of-self-in-None
invariant_of-self-in-None c =
    let can = subst (λ (t : Timeline). MayTake t c.args.index c.args.fresh) (sym c.self.view_is) c.requires in
    let none = ap reverse (nil_from_length c.self.inside.free.items (sym c.self.inside.free.ok.0 ∙ c.in-None.ensures.cases.0)) in
    let left = ap reverse (nil_from_length c.pop.new.self.items (sym c.pop.new.self.ok.0 ∙ c.in-None.ensures.cases.1)) in
    let capacity = c.in-None.ensures.capacity in
    let room = c.self.invariant.free_room in
    record {
      kept = fresh_keeps (lists_of c.self.inside) c.args.index c.args.fresh (reverse c.pop.new.self.items) c.self.invariant.kept can none left;
      few = c.self.invariant.few;
      waiting_room = c.self.invariant.waiting_room;
      free_room = omega arith;
    }

pub returns-in-Some-clause-kept : goal.returns-in-Some-clause-kept
returns-in-Some-clause-kept c = (invariant_of-self c).kept

pub returns-in-None-clause-kept : goal.returns-in-None-clause-kept
returns-in-None-clause-kept c = (invariant_of-self-in-None c).kept
