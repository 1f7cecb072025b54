use Rattle.std.proofs.Common.{◌<◌, length, ◌-◌, refl, sym, ◌∙◌, ap, subst, arith}
use Rattle.vq_live.specs.Live.{KeepsLive, slot_at}
use Rattle.vq_live.specs.Fields.{live_of}
use Rattle.vq_live.specs.declared.answers.Slot.{Slot}
use Rattle.std.proofs.lemmas.List.{length-set}
use Rattle.vq_live.proofs.Completing.{room_left, held_keeps, put_is}
use Rattle.vq_live.proofs.Slots.{held_busy, slot_found}
use Rattle.vq_live.proofs.live.LiveTimeline.unref.Goals as goal

pub put-requires-clause-room : goal.put-requires-clause-room
put-requires-clause-room c =
    let t = live_of c.self.inside in
    let s = c.in-Some.slot.now in
    let at = slot_found t.slots c.deref.result.now c.args.held.point s c.deref.ensures.value c.in-Some.ensures.lookup.0 c.in-Some.ensures.lookup.1 in
    let busy = held_busy (slot_at t.slots c.args.held.point) (subst (λ (x : Slot). 0 < x.refs) at.1 c.if-slot-gt0.true) in
    let left = room_left t.slots c.self.inside.free.items c.args.held.point c.self.invariant.kept.points at.0 busy in
    let size = c.self.inside.free.ok.0 in
    let room = c.self.invariant.room in
    λ _. omega arith

pub invariant_of-self : goal.invariant_of-self
invariant_of-self c =
    let t = live_of c.self.inside in
    let s = c.in-Some.slot.now in
    let at = slot_found t.slots c.deref.result.now c.args.held.point s c.deref.ensures.value c.in-Some.ensures.lookup.0 c.in-Some.ensures.lookup.1 in
    let busy = held_busy (slot_at t.slots c.args.held.point) (subst (λ (x : Slot). 0 < x.refs) at.1 c.if-slot-gt0.true) in
    let left : Slot = record { refs = s.refs - 1; out = s.out } in
    let is = put_is t c.args.held.point left c.put.new.slots.items c.self.inside.free.items c.put.new.free.items c.put.ensures.slots c.put.ensures.free refl in
    let kept = held_keeps t c.args.held.point left c.self.invariant.kept at.0 busy (ap (λ (x : Slot). x.out) at.1) in
    let size = ap length c.put.ensures.slots ∙ length-set t.slots c.args.held.point left in
    let capacity = c.put.ensures.capacity in
    let few = c.self.invariant.few in
    let room = c.self.invariant.room in
    let in_ops = c.self.invariant.in_ops in
    let numbers = c.self.invariant.numbers in
    let in_slots = c.self.invariant.in_slots in
    let in_free = c.self.invariant.in_free in
    let more_free = c.put.ensures.more in
    let slots_capacity = c.put.ensures.slots_capacity in
    record { kept = subst KeepsLive (sym is) kept; few = omega arith; room = omega arith; in_ops = omega arith; numbers = omega arith; in_slots = omega arith; in_free = omega arith }

pub returns-in-Some-clause-kept : goal.returns-in-Some-clause-kept
returns-in-Some-clause-kept c = (invariant_of-self c).kept
