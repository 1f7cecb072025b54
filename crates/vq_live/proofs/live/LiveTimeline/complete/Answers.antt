use Rattle.std.proofs.Common.{◌≡◌, ℕ, ◌<◌, length, ◌-◌, false, refl, sym, ◌∙◌, ap, subst, arith}
use Rattle.vq_live.specs.Live.{KeepsLive, AreOut, slot_at, no_slot}
use Rattle.vq_live.specs.Calls.{first_pending, put_slot, after_complete}
use Rattle.vq_live.specs.Fields.{live_of}
use Rattle.vq_live.specs.declared.answers.Slot.{Slot}
use Rattle.std.proofs.lemmas.List.{get_or_read, length-set}
use Rattle.vq_live.proofs.Completing.{first_taken, room_left, complete_keeps, completed_is, put_is}
use Rattle.vq_live.proofs.Slots.{out_busy}
use Rattle.vq_live.proofs.live.LiveTimeline.complete.Goals as goal

pub put-requires-clause-room : goal.put-requires-clause-room
put-requires-clause-room c =
    let t = live_of c.self.inside in
    let out = subst (AreOut t.slots) c.in-Some.ensures.items c.self.invariant.kept.out in
    let left = room_left t.slots c.self.inside.free.items c.in-Some.first.point c.self.invariant.kept.points out.0 (out_busy (slot_at t.slots c.in-Some.first.point) out.1.0) in
    let size = c.self.inside.free.ok.0 in
    let room = c.self.invariant.room in
    λ _. omega arith

pub invariant_of-self-in-Some : goal.invariant_of-self-in-Some
invariant_of-self-in-Some c =
    let t = live_of c.self.inside in
    let x = c.in-Some.first in
    let out = subst (AreOut t.slots) c.in-Some.ensures.items c.self.invariant.kept.out in
    let slot = get_or_read t.slots x.point c.index.result.now out.0 c.index.ensures no_slot in
    let test = c.if-self-eq0.false in
    let some : 0 < t.installed = omega arith in
    let refs : c.index.result.now.refs ≡ (slot_at t.slots x.point).refs = ap (λ (s : Slot). s.refs) slot in
    let is = put_is (record t { payload = x.value; ops = c.pop_front.new.self.items; installed = t.installed - 1 }) x.point (record { refs = c.index.result.now.refs; out = false }) c.put.new.slots.items c.self.inside.free.items c.put.new.free.items c.put.ensures.slots c.put.ensures.free refl in
    let kept = subst (λ (n : ℕ). KeepsLive (put_slot (record t { payload = x.value; ops = c.pop_front.new.self.items; installed = t.installed - 1 }) x.point (record { refs = n; out = false }))) (sym refs)
    (complete_keeps t x c.pop_front.new.self.items c.self.invariant.kept c.in-Some.ensures.items some) in
    let size = ap length c.put.ensures.slots ∙ length-set t.slots x.point (record { refs = c.index.result.now.refs; out = false }) in
    let capacity = c.put.ensures.capacity in
    let few = c.self.invariant.few in
    let room = c.self.invariant.room in
    let in_ops = c.self.invariant.in_ops in
    let numbers = c.self.invariant.numbers in
    let in_slots = c.self.invariant.in_slots in
    let in_free = c.self.invariant.in_free in
    let more_free = c.put.ensures.more in
    let slots_capacity = c.put.ensures.slots_capacity in
    let ops_capacity = c.pop_front.ensures.capacity in
    let ops_items = ap length c.in-Some.ensures.items in
    record { kept = subst KeepsLive (sym is) kept; few = omega arith; room = omega arith; in_ops = omega arith; numbers = omega arith; in_slots = omega arith; in_free = omega arith }

pub returns-in-Some-clause-after : goal.returns-in-Some-clause-after
returns-in-Some-clause-after c =
    let t = live_of c.self.inside in
    let x = c.in-Some.first in
    let out = subst (AreOut t.slots) c.in-Some.ensures.items c.self.invariant.kept.out in
    let slot = get_or_read t.slots x.point c.index.result.now out.0 c.index.ensures no_slot in
    let test = c.if-self-eq0.false in
    let some : 0 < t.installed = omega arith in
    let refs : c.index.result.now.refs ≡ (slot_at t.slots x.point).refs = ap (λ (s : Slot). s.refs) slot in
    let is = put_is (record t { payload = x.value; ops = c.pop_front.new.self.items; installed = t.installed - 1 }) x.point (record { refs = c.index.result.now.refs; out = false }) c.put.new.slots.items c.self.inside.free.items c.put.new.free.items c.put.ensures.slots c.put.ensures.free refl in
    is
    ∙ ap (λ (n : ℕ). put_slot (record t { payload = x.value; ops = c.pop_front.new.self.items; installed = t.installed - 1 }) x.point (record { refs = n; out = false })) refs
    ∙ completed_is t x c.pop_front.new.self.items c.in-Some.ensures.items some
    ∙ ap after_complete c.self.view_is

pub returns-in-Some-clause-kept : goal.returns-in-Some-clause-kept
returns-in-Some-clause-kept c = (invariant_of-self-in-Some c).kept

pub returns-in-Some-clause-came : goal.returns-in-Some-clause-came
returns-in-Some-clause-came c =
    let t = live_of c.self.inside in
    let test = c.if-self-eq0.false in
    let some : 0 < t.installed = omega arith in
    record {
      may = sym (ap first_pending c.self.view_is) ∙ first_taken t.installed t.ops c.pop_front.new.self.items c.in-Some.first some c.in-Some.ensures.items;
      leaves = returns-in-Some-clause-after c;
    }
