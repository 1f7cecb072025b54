use Rattle.std.proofs.Common.{rules, reverse, length, ap, arith}
use Rattle.vq_timeline_core.proofs.Steps.{opened_keeps}
use Rattle.vq_timeline_core.proofs.timeline.TimelineCore.new.Goals as goal

pub invariant_of-result : goal.invariant_of-result
invariant_of-result c =
    let items = c.in_ok-from_slice.ensures.items in
    let size = ap length items in
    let few = c.requires.few in
    let waiting_room = c.in_ok-with_capacity.ensures.capacity in
    let free_room = c.in_ok-with_capacity-2.ensures.capacity in
    record {
      kept =
          opened_keeps c.args.initial c.args.values.now c.in_ok-from_slice.field-0.items c.in_ok-with_capacity.field-0.items (reverse c.in_ok-with_capacity-2.field-0.items) c.in_ok-vec.field-0.items
          c.requires.rising items (c.in_ok-vec.ensures.items_if_clones_equal (λ y h. search rules)) c.in_ok-with_capacity.ensures.items
          (ap reverse c.in_ok-with_capacity-2.ensures.items);
      few = omega arith;
      waiting_room = omega arith;
      free_room = omega arith;
    }

pub returns-clause-kept : goal.returns-clause-kept
returns-clause-kept c = (invariant_of-result c).kept
