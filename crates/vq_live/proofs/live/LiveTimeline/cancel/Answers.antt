use Rattle.std.proofs.Common.{◌≡◌, ℕ, length, List, Option, false, refl, sym, ◌∙◌, ap, subst, arith}
use Rattle.std.specs.List.{remove}
use Rattle.std.specs.Prelude.{OnSome}
use Rattle.vq_live.specs.Live.{Live, KeepsLive, slot_at, no_slot}
use Rattle.vq_live.specs.Calls.{put_slot, done_slot, after_cancel}
use Rattle.vq_live.specs.Places.{IsTakenAt}
use Rattle.vq_live.specs.Fields.{live_of}
use Rattle.vq_live.specs.declared.answers.Given.{Given}
use Rattle.vq_live.specs.declared.answers.Slot.{Slot}
use Rattle.std.proofs.lemmas.List.{get_or_read, length-set}
use Rattle.std.proofs.lemmas.List.Edits.{length-remove}
use Rattle.vq_live.proofs.Slots.{out_busy}
use Rattle.vq_live.proofs.Completing.{room_left, put_is}
use Rattle.vq_live.proofs.Removing.{at_out, cancel_keeps}
use Rattle.vq_live.proofs.live.LiveTimeline.cancel.Goals as goal

pub index-requires : goal.index-requires
index-requires c =
    let t = live_of c.self.inside in
    let at = subst (λ (u : Live). IsTakenAt u c.args.given c.in_ok-place.place) (sym c.self.view_is) c.in_ok-place.ensures.ok in
    let out = at_out t.slots c.in_ok-place.place t.ops c.args.given c.self.invariant.kept.out at.there in
    let exists = out.0 in
    let size = c.self.inside.slots.ok.0 in
    omega arith

pub put-requires-clause-exists : goal.put-requires-clause-exists
put-requires-clause-exists c =
    let t = live_of c.self.inside in
    let at = subst (λ (u : Live). IsTakenAt u c.args.given c.in_ok-place.place) (sym c.self.view_is) c.in_ok-place.ensures.ok in
    (at_out t.slots c.in_ok-place.place t.ops c.args.given c.self.invariant.kept.out at.there).0

pub put-requires-clause-room : goal.put-requires-clause-room
put-requires-clause-room c =
    let t = live_of c.self.inside in
    let at = subst (λ (u : Live). IsTakenAt u c.args.given c.in_ok-place.place) (sym c.self.view_is) c.in_ok-place.ensures.ok in
    let out = at_out t.slots c.in_ok-place.place t.ops c.args.given c.self.invariant.kept.out at.there in
    let left = room_left t.slots c.self.inside.free.items c.args.given.point c.self.invariant.kept.points out.0 (out_busy (slot_at t.slots c.args.given.point) out.1) in
    let size = c.self.inside.free.ok.0 in
    let room = c.self.invariant.room in
    λ _. omega arith

pub invariant_of-self : goal.invariant_of-self
invariant_of-self c =
    let t = live_of c.self.inside in
    let y = c.args.given in
    let k = c.in_ok-place.place in
    let at = subst (λ (u : Live). IsTakenAt u y k) (sym c.self.view_is) c.in_ok-place.ensures.ok in
    let out = at_out t.slots k t.ops y c.self.invariant.kept.out at.there in
    let slot = get_or_read t.slots y.point c.index.result.now out.0 c.index.ensures no_slot in
    let refs : c.index.result.now.refs ≡ (slot_at t.slots y.point).refs = ap (λ (s : Slot). s.refs) slot in
    let is = put_is (record t { ops = c.remove.new.self.items }) y.point (record { refs = c.index.result.now.refs; out = false }) c.put.new.slots.items c.self.inside.free.items c.put.new.free.items c.put.ensures.slots c.put.ensures.free refl in
    let removed : c.remove.new.self.items ≡ remove t.ops k =
    (let size = c.self.inside.ops.ok.0 in let bound = at.bound in subst (λ (r : Option Given). OnSome r (c.remove.new.self.items ≡ remove t.ops k)) (c.remove.ensures.succeeds y (omega arith)) c.remove.ensures.items) in
    let kept = subst (λ (n : ℕ). KeepsLive (put_slot (record t { ops = remove t.ops k }) y.point (record { refs = n; out = false }))) (sym refs)
    (cancel_keeps t y k c.self.invariant.kept at) in
    let kept_now = subst (λ (ops : List Given). KeepsLive (put_slot (record t { ops = ops }) y.point (record { refs = c.index.result.now.refs; out = false }))) (sym removed) kept in
    let size = ap length c.put.ensures.slots ∙ length-set t.slots y.point (record { refs = c.index.result.now.refs; out = false }) in
    let capacity = c.put.ensures.capacity in
    let few = c.self.invariant.few in
    let room = c.self.invariant.room in
    let in_ops = c.self.invariant.in_ops in
    let numbers = c.self.invariant.numbers in
    let in_slots = c.self.invariant.in_slots in
    let in_free = c.self.invariant.in_free in
    let more_free = c.put.ensures.more in
    let slots_capacity = c.put.ensures.slots_capacity in
    let ops_capacity = c.remove.ensures.capacity in
    let ops_bound = at.bound in
    let ops_now = ap length removed in
    let ops_less = length-remove t.ops k at.bound in
    record { kept = subst KeepsLive (sym is) kept_now; few = omega arith; room = omega arith; in_ops = omega arith; numbers = omega arith; in_slots = omega arith; in_free = omega arith }

pub returns-clause-after : goal.returns-clause-after
returns-clause-after c =
    let t = live_of c.self.inside in
    let y = c.args.given in
    let k = c.in_ok-place.place in
    let at = subst (λ (u : Live). IsTakenAt u y k) (sym c.self.view_is) c.in_ok-place.ensures.ok in
    let out = at_out t.slots k t.ops y c.self.invariant.kept.out at.there in
    let slot = get_or_read t.slots y.point c.index.result.now out.0 c.index.ensures no_slot in
    let refs : c.index.result.now.refs ≡ (slot_at t.slots y.point).refs = ap (λ (s : Slot). s.refs) slot in
    let is = put_is (record t { ops = c.remove.new.self.items }) y.point (record { refs = c.index.result.now.refs; out = false }) c.put.new.slots.items c.self.inside.free.items c.put.new.free.items c.put.ensures.slots c.put.ensures.free refl in
    let removed : c.remove.new.self.items ≡ remove t.ops k =
    (let size = c.self.inside.ops.ok.0 in let bound = at.bound in subst (λ (r : Option Given). OnSome r (c.remove.new.self.items ≡ remove t.ops k)) (c.remove.ensures.succeeds y (omega arith)) c.remove.ensures.items) in
    is
    ∙ ap (λ (n : ℕ). put_slot (record t { ops = c.remove.new.self.items }) y.point (record { refs = n; out = false })) refs
    ∙ ap (λ (ops : List Given). put_slot (record t { ops = ops }) y.point (done_slot t y.point)) (removed ∙ at.removed)
    ∙ ap (λ (u : Live). after_cancel u y) c.self.view_is

pub returns-clause-kept : goal.returns-clause-kept
returns-clause-kept c = (invariant_of-self c).kept

pub returns-clause-came : goal.returns-clause-came
returns-clause-came c = record { may = c.in_ok-place.ensures.ok.fine; leaves = returns-clause-after c }
