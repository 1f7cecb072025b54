use Rattle.std.proofs.Common.{set, take, ◌≡◌, ℕ, length, ◌-◌, sym, ◌∙◌, ap, subst, arith, reverse}
use Rattle.vq_live.specs.Live.{KeepsFree, IsUnused, pending, Live, KeepsLive}
use Rattle.vq_live.specs.Calls.{busy}
use Rattle.vq_live.specs.Places.{IsPlace}
use Rattle.vq_live.specs.Fields.{live_of}
use Rattle.std.proofs.lemmas.List.{length-set, length-reverse}
use Rattle.vq_live.proofs.Slots.{idle_unused}
use Rattle.vq_live.proofs.Taking.{reuse_keeps, last_free, placed_count}
use Rattle.vq_live.proofs.live.LiveTimeline.take.Goals as goal

pub insert-requires : goal.insert-requires
insert-requires c =
    let bound = (subst (λ (u : Live). IsPlace u c.args.value c.in_ok-place.place) (sym c.self.view_is) c.in_ok-place.ensures.ok).bound in
    let size = c.self.inside.ops.ok.0 in
    omega arith

pub invariant_of-self-in-Ok : goal.invariant_of-self-in-Ok
invariant_of-self-in-Ok c =
    let t = live_of c.self.inside in
    let v = c.args.value in
    let xs = c.self.inside.free.items in
    let x = c.in-Some.last.now in
    let place = subst (λ (u : Live). IsPlace u v c.in_ok-place.place) (sym c.self.view_is) c.in_ok-place.ensures.ok in
    let first = last_free xs c.deref.result.now x c.deref.ensures.value c.in-Some.ensures.item.0 c.in-Some.ensures.item.1 in
    let count : c.len-rest.result ≡ length xs = c.len-rest.ensures ∙ c.self.inside.free.ok.0 in
    let rest : c.truncate.new.self.items ≡ take (length xs - 1) xs = c.truncate.ensures.items ∙ ap (λ (n : ℕ). take (n - 1) xs) count in
    let kept = reuse_keeps t v x (reverse (take (length xs - 1) xs)) c.self.invariant.kept place.fine first in
    let size = length-set t.slots x busy in
    let capacity = c.truncate.ensures.capacity in
    let few = c.self.invariant.few in
    let room = c.self.invariant.room in
    let in_ops = c.self.invariant.in_ops in
    let numbers = c.self.invariant.numbers in
    let in_slots = c.self.invariant.in_slots in
    let in_free = c.self.invariant.in_free in
    let less : c.saturating_sub-self-inside.result ≡ t.reserved - 1 = c.saturating_sub-self-inside.ensures in
    let ops_len = c.in-Ok.ensures.len in
    let ops_capacity = c.in-Ok.ensures.capacity in
    let ops_full = c.self.inside.ops.ok.0 in
    let ops_now = ap length (c.in-Ok.ensures.items ∙ place.inserted x) ∙ placed_count (record { value = v; point = x }) t.ops in
    let free_now = ap length rest in
    let free_first = ap length first in
    let free_size = length-reverse xs in
    record {
      kept = subst KeepsLive (λ i. record t { ops = sym (c.in-Ok.ensures.items ∙ place.inserted x) i; slots = set t.slots x busy; free = reverse (sym rest i); reserved = sym less i }) kept;
      few = omega arith;
      room = omega arith;
      in_ops = omega arith;
      numbers = omega arith;
      in_slots = omega arith;
      in_free = omega arith;
    }

pub returns-in-Ok-clause-kept : goal.returns-in-Ok-clause-kept
returns-in-Ok-clause-kept c = (invariant_of-self-in-Ok c).kept

pub returns-in-Ok-clause-unused : goal.returns-in-Ok-clause-unused
returns-in-Ok-clause-unused c =
    let t = live_of c.self.inside in
    let v = c.args.value in
    let xs = c.self.inside.free.items in
    let x = c.in-Some.last.now in
    let place = subst (λ (u : Live). IsPlace u v c.in_ok-place.place) (sym c.self.view_is) c.in_ok-place.ensures.ok in
    let first = last_free xs c.deref.result.now x c.deref.ensures.value c.in-Some.ensures.item.0 c.in-Some.ensures.item.1 in
    let points = subst (KeepsFree t.slots) first c.self.invariant.kept.points in
    subst (λ (u : Live). IsUnused x u.ops) c.self.view_is (idle_unused t.slots t.ops x c.self.invariant.kept.out points.idle.1.0)

pub returns-in-Ok-clause-pending : goal.returns-in-Ok-clause-pending
returns-in-Ok-clause-pending c =
    let t = live_of c.self.inside in
    let v = c.args.value in
    let xs = c.self.inside.free.items in
    let x = c.in-Some.last.now in
    let place = subst (λ (u : Live). IsPlace u v c.in_ok-place.place) (sym c.self.view_is) c.in_ok-place.ensures.ok in
    ap (take t.installed) (c.in-Ok.ensures.items ∙ place.inserted x) ∙ place.before x ∙ ap pending c.self.view_is
