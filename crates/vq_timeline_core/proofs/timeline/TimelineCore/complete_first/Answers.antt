use Rattle.std.proofs.Common.{◌≡◌, ◌<◌, ◌+◌, sym, ◌∙◌, subst, arith}
use Rattle.vq_point_laws.specs.Timeline.{Timeline, after_complete}
use Rattle.vq_point_laws.proofs.Cited.{waiting_count}
use Rattle.vq_timeline_core.specs.Lists.{lists_of}
use Rattle.vq_timeline_core.proofs.Points.{read_point, pending_is_some}
use Rattle.vq_timeline_core.proofs.Steps.{completed_keeps, completed_is}
use Rattle.vq_timeline_core.proofs.timeline.TimelineCore.complete_first.Goals as goal

pub unwrap-point-requires : goal.unwrap-point-requires
unwrap-point-requires c =
    let some = subst (λ (t : Timeline). t.completed < t.bound) (sym c.self.view_is) c.requires in
    pending_is_some (lists_of c.self.inside) c.self.inside.completed c.index.result.now c.self.invariant.kept (omega arith) some c.index.ensures

pub push_reserved-requires : goal.push_reserved-requires
push_reserved-requires c =
    let some = subst (λ (t : Timeline). t.completed < t.bound) (sym c.self.view_is) c.requires in
    let within = c.self.invariant.kept.within in
    let few = waiting_count (lists_of c.self.inside) c.self.invariant.kept in
    let size = c.self.inside.waiting.ok.0 in
    let room = c.self.invariant.waiting_room in
    omega arith

pub invariant_of-self : goal.invariant_of-self
invariant_of-self c =
    let t = lists_of c.self.inside in
    let k = c.self.invariant.kept in
    let some = subst (λ (t : Timeline). t.completed < t.bound) (sym c.self.view_is) c.requires in
    let within = k.within in
    let point = sym (read_point t t.completed c.index.result.now k (omega arith) c.index.ensures) ∙ c.unwrap-point.ensures in
    let capacity = c.push_reserved.ensures.capacity in
    let room = c.self.invariant.waiting_room in
    record {
      kept = completed_keeps t c.unwrap-point.result c.push_reserved.new.self.items k some point c.push_reserved.ensures.items;
      few = c.self.invariant.few;
      waiting_room = omega arith;
      free_room = c.self.invariant.free_room;
    }

pub returns-clause-after : goal.returns-clause-after
returns-clause-after c =
    let t = lists_of c.self.inside in
    let k = c.self.invariant.kept in
    let some = subst (λ (t : Timeline). t.completed < t.bound) (sym c.self.view_is) c.requires in
    let within = k.within in
    let point = sym (read_point t t.completed c.index.result.now k (omega arith) c.index.ensures) ∙ c.unwrap-point.ensures in
    subst (λ (u : Timeline). record t { completed = t.completed + 1; waiting = c.push_reserved.new.self.items } ≡ after_complete u) c.self.view_is
    (completed_is t c.unwrap-point.result c.push_reserved.new.self.items k some point c.push_reserved.ensures.items)

pub returns-clause-kept : goal.returns-clause-kept
returns-clause-kept c = (invariant_of-self c).kept
