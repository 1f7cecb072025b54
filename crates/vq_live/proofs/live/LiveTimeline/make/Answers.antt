use Rattle.std.proofs.Common.{take, ◌-◌, ◌≡◌, ℕ, length, List, [], ◌∷◌, ◌++◌, sym, ◌∙◌, ap, subst, arith, reverse}
use Rattle.vq_live.specs.Live.{IsUnused, pending, Live, KeepsLive}
use Rattle.vq_live.specs.Calls.{placed, busy}
use Rattle.vq_live.specs.Places.{IsPlace}
use Rattle.std.specs.List.{insert}
use Rattle.vq_live.specs.Fields.{live_of}
use Rattle.vq_live.specs.declared.answers.Slot.{Slot}
use Rattle.std.proofs.lemmas.List.{length-append}
use Rattle.vq_live.proofs.Slots.{fresh_unused}
use Rattle.vq_live.proofs.Taking.{fresh_keeps, placed_count}
use Rattle.vq_live.proofs.live.LiveTimeline.make.Goals as goal

pub insert-requires : goal.insert-requires
insert-requires c =
    let bound = (subst (λ (u : Live). IsPlace u c.args.value c.args.place) (sym c.self.view_is) c.requires.place).bound in
    let size = c.self.inside.ops.ok.0 in
    omega arith

pub invariant_of-self-in-Ok-insert : goal.invariant_of-self-in-Ok-insert
invariant_of-self-in-Ok-insert c =
    let t = live_of c.self.inside in
    let v = c.args.value in
    let place = subst (λ (u : Live). IsPlace u v c.args.place) (sym c.self.view_is) c.requires.place in
    let none : t.free ≡ [] = subst (λ (u : Live). u.free ≡ []) (sym c.self.view_is) c.requires.none in
    let count : c.len-count.result ≡ length t.slots = c.len-count.ensures ∙ c.self.inside.slots.ok.0 in
    let kept = fresh_keeps t v c.self.invariant.kept place.fine none in
    let ops : c.insert.new.self.items ≡ placed (record { value = v; point = length t.slots }) t.ops =
    c.in-Ok-insert.ensures.items ∙ ap (λ (p : ℕ). insert t.ops c.args.place (record { value = v; point = p })) count ∙ place.inserted (length t.slots) in
    let slots : c.push_reserved.new.self.items ≡ t.slots ++ busy ∷ [] =
    c.push_reserved.ensures.items ∙ ap (λ (xs : List Slot). xs ++ busy ∷ []) c.in-Ok.ensures.items in
    let free : reverse c.reserve-in-Ok.new.self.items ≡ [] = ap reverse c.in-Ok-reserve.ensures.items ∙ none in
    let more = ap length slots ∙ length-append t.slots (busy ∷ []) in
    let few = c.if-count.false in
    let room = c.in-Ok-reserve.ensures.ok in
    let in_ops = c.self.invariant.in_ops in
    let numbers = c.self.invariant.numbers in
    let in_slots = c.self.invariant.in_slots in
    let in_free = c.self.invariant.in_free in
    let less : c.saturating_sub-self-inside.result ≡ t.reserved - 1 = c.saturating_sub-self-inside.ensures in
    let ops_now = ap length ops ∙ placed_count (record { value = v; point = length t.slots }) t.ops in
    let ops_capacity = c.in-Ok-insert.ensures.capacity in
    let ops_full = c.self.inside.ops.ok.0 in
    record {
      kept = subst KeepsLive (λ i. record t { ops = sym ops i; slots = sym slots i; free = sym free i; reserved = sym less i }) kept;
      few = omega arith;
      room = omega arith;
      in_ops = omega arith;
      numbers = omega arith;
      in_slots = omega arith;
      in_free = omega arith;
    }

pub returns-in-Ok-insert-clause-kept : goal.returns-in-Ok-insert-clause-kept
returns-in-Ok-insert-clause-kept c = (invariant_of-self-in-Ok-insert c).kept

pub returns-in-Ok-insert-clause-unused : goal.returns-in-Ok-insert-clause-unused
returns-in-Ok-insert-clause-unused c =
    let t = live_of c.self.inside in
    let v = c.args.value in
    let place = subst (λ (u : Live). IsPlace u v c.args.place) (sym c.self.view_is) c.requires.place in
    let count : c.len-count.result ≡ length t.slots = c.len-count.ensures ∙ c.self.inside.slots.ok.0 in
    subst (λ (u : Live). IsUnused c.len-count.result u.ops) c.self.view_is
    (subst (λ (p : ℕ). IsUnused p t.ops) (sym count) (fresh_unused t.slots t.ops c.self.invariant.kept.out))

pub returns-in-Ok-insert-clause-pending : goal.returns-in-Ok-insert-clause-pending
returns-in-Ok-insert-clause-pending c =
    let t = live_of c.self.inside in
    let v = c.args.value in
    let place = subst (λ (u : Live). IsPlace u v c.args.place) (sym c.self.view_is) c.requires.place in
    let count : c.len-count.result ≡ length t.slots = c.len-count.ensures ∙ c.self.inside.slots.ok.0 in
    ap (take t.installed) (c.in-Ok-insert.ensures.items ∙ place.inserted c.len-count.result) ∙ place.before c.len-count.result ∙ ap pending c.self.view_is
