use Rattle.std.proofs.Common.{rules, ◌≡◌, ◌∷◌, [], not, reverse, sym, ◌∙◌, ap, subst, arith}
use Rattle.std.specs.Prelude.{◌==◌}
use Rattle.std.proofs.lemmas.List.{reverse-append}
use Rattle.std.proofs.lemmas.Fn.{filter_same}
use Rattle.vq_point_laws.specs.Timeline.{Timeline, MayFree, after_free}
use Rattle.vq_timeline_core.specs.Lists.{lists_of}
use Rattle.vq_timeline_core.proofs.Steps.{freed_keeps, freed_is}
use Rattle.vq_timeline_core.proofs.timeline.TimelineCore.free.Goals as goal

pub invariant_of-self : goal.invariant_of-self
invariant_of-self c =
    let t = lists_of c.self.inside in
    let can = subst (λ (t : Timeline). MayFree t c.args.point) (sym c.self.view_is) c.requires in
    let left = filter_same _ (λ x. not (x == c.args.point)) _ (λ x b f k. search rules) _ _ c.retain.ensures.filtered in
    let free = ap reverse c.push_reserved.ensures.items ∙ reverse-append c.self.inside.free.items (c.args.point ∷ []) in
    let waiting_room = c.retain.ensures.capacity in
    let free_room = c.push_reserved.ensures.capacity in
    let first = c.self.invariant.waiting_room in
    let second = c.self.invariant.free_room in
    record {
      kept = freed_keeps t c.args.point c.retain.new.self.items (reverse c.push_reserved.new.self.items) c.self.invariant.kept can left free;
      few = c.self.invariant.few;
      waiting_room = omega arith;
      free_room = omega arith;
    }

pub returns-clause-after : goal.returns-clause-after
returns-clause-after c =
    let t = lists_of c.self.inside in
    let left = filter_same _ (λ x. not (x == c.args.point)) _ (λ x b f k. search rules) _ _ c.retain.ensures.filtered in
    let free = ap reverse c.push_reserved.ensures.items ∙ reverse-append c.self.inside.free.items (c.args.point ∷ []) in
    subst (λ (u : Timeline). record t { waiting = c.retain.new.self.items; free = reverse c.push_reserved.new.self.items } ≡ after_free u c.args.point) c.self.view_is
    (freed_is t c.args.point c.retain.new.self.items (reverse c.push_reserved.new.self.items) left free)

pub returns-clause-kept : goal.returns-clause-kept
returns-clause-kept c = (invariant_of-self c).kept
