use Rattle.std.proofs.Common.{set, ◌≡◌, ◌+◌, Bool, true, false, ◌∷◌, refl, sym, ◌∙◌, ap, subst, arith}
use Rattle.vq_live.specs.Live.{KeepsLive, slot_at, is_idle}
use Rattle.vq_live.specs.Fields.{live_of}
use Rattle.vq_live.specs.declared.answers.Slot.{Slot}
use Rattle.std.specs.Prelude.{if◌then◌else◌}
use Rattle.std.proofs.lemmas.List.{length-set}
use Rattle.vq_live.proofs.Completing.{held_keeps}
use Rattle.vq_live.proofs.Slots.{slot_same, out_busy, slot_found}
use Rattle.vq_live.proofs.live.LiveTimeline.refer.Goals as goal

pub invariant_of-self : goal.invariant_of-self
invariant_of-self c =
    let t = live_of c.self.inside in
    let s = c.in-Some.slot.now in
    let at = slot_found t.slots c.deref.result.now c.args.point s c.deref.ensures.value c.in-Some.ensures.lookup.0 c.in-Some.ensures.lookup.1 in
    let out = ap (λ (x : Slot). x.out) (sym at.1) ∙ c.if-slot.true in
    let more : Slot = record { refs = s.refs + 1; out = true } in
    let kept = held_keeps t c.args.point more c.self.invariant.kept at.0 (out_busy (slot_at t.slots c.args.point) out) (sym out) in
    let idle : is_idle more ≡ false = out_busy more refl in
    let size = length-set t.slots c.args.point more in
    let few = c.self.invariant.few in
    let room = c.self.invariant.room in
    let in_ops = c.self.invariant.in_ops in
    let numbers = c.self.invariant.numbers in
    let in_slots = c.self.invariant.in_slots in
    let in_free = c.self.invariant.in_free in
    record {
      kept = subst (λ (b : Bool). KeepsLive (record t { slots = set t.slots c.args.point more; free = if b then c.args.point ∷ t.free else t.free })) idle kept;
      few = omega arith;
      room = omega arith;
      in_ops = omega arith;
      numbers = omega arith;
      in_slots = omega arith;
      in_free = omega arith;
    }

pub returns-else-refs-clause-kept : goal.returns-else-refs-clause-kept
returns-else-refs-clause-kept c = (invariant_of-self c).kept

pub returns-else-refs-clause-held : goal.returns-else-refs-clause-held
returns-else-refs-clause-held c =
    let t = live_of c.self.inside in
    let s = c.in-Some.slot.now in
    let at = slot_found t.slots c.deref.result.now c.args.point s c.deref.ensures.value c.in-Some.ensures.lookup.0 c.in-Some.ensures.lookup.1 in
    let more : Slot = record { refs = s.refs + 1; out = true } in
    let now : (slot_at (set t.slots c.args.point more) c.args.point).refs ≡ s.refs + 1 = ap (λ (x : Slot). x.refs) (slot_same t.slots c.args.point more at.0) in
    omega arith
