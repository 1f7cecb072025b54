use Rattle.std.proofs.Common.{ℕ, ◌<◌, ◌≤◌, length, sym, ◌∙◌, ap, subst, arith}
use Rattle.vq_live.specs.Live.{Live, pending_value}
use Rattle.vq_live.specs.Calls.{take_fault}
use Rattle.vq_live.specs.Places.{IsPlace}
use Rattle.std.specs.List.Sorted.{IsPartitionPoint}
use Rattle.vq_live.specs.Fields.{live_of}
use Rattle.vq_live.specs.declared.answers.Given.{Given}
use Rattle.std.proofs.lemmas.List.{get_or_read}
use Rattle.vq_live.proofs.Taking.{twice, is_place}
use Rattle.vq_live.proofs.live.LiveTimeline.place_for.Goals as goal

pub returns-then-place-len-clause-ok : goal.returns-then-place-len-clause-ok
returns-then-place-len-clause-ok c =
    let v = c.args.value in
    let k = c.place_of-place.result in
    let t = live_of c.self.inside in
    let p = subst (λ (u : Live). IsPartitionPoint (λ x. x.value < v) (λ x. v ≤ x.value) u.ops k) (sym c.self.view_is) c.place_of-place.ensures.parted in
    let bound = subst (λ (u : Live). k ≤ length u.ops) (sym c.self.view_is) c.place_of-place.ensures.bound in
    let early = subst (λ (u : Live). pending_value u < v) (sym c.self.view_is) (subst (λ (n : ℕ). n < v) c.pending_value-pending.ensures c.if-value-pending.false) in
    let size = c.self.inside.ops.ok.0 in
    let count = c.len.ensures in
    let at = c.if-place-len.true in
    subst (λ (u : Live). IsPlace u v k) c.self.view_is
    (is_place t v k c.self.invariant.kept early bound p (λ l d e. absurd (omega arith)))

pub returns-then-index-value-clause-err : goal.returns-then-index-value-clause-err
returns-then-index-value-clause-err c =
    let v = c.args.value in
    let k = c.place_of-place.result in
    let t = live_of c.self.inside in
    let p = subst (λ (u : Live). IsPartitionPoint (λ x. x.value < v) (λ x. v ≤ x.value) u.ops k) (sym c.self.view_is) c.place_of-place.ensures.parted in
    let bound = subst (λ (u : Live). k ≤ length u.ops) (sym c.self.view_is) c.place_of-place.ensures.bound in
    let early = subst (λ (u : Live). pending_value u < v) (sym c.self.view_is) (subst (λ (n : ℕ). n < v) c.pending_value-pending.ensures c.if-value-pending.false) in
    let size = c.self.inside.ops.ok.0 in
    let count = c.len.ensures in
    let at = c.if-place-len.false in
    sym (ap (λ (u : Live). take_fault u v) c.self.view_is)
    ∙ twice t v k c.self.invariant.kept early bound p c.index.result.now (omega arith) c.index.ensures c.if-index-value.true

pub returns-clause-ok : goal.returns-clause-ok
returns-clause-ok c =
    let v = c.args.value in
    let k = c.place_of-place.result in
    let t = live_of c.self.inside in
    let p = subst (λ (u : Live). IsPartitionPoint (λ x. x.value < v) (λ x. v ≤ x.value) u.ops k) (sym c.self.view_is) c.place_of-place.ensures.parted in
    let bound = subst (λ (u : Live). k ≤ length u.ops) (sym c.self.view_is) c.place_of-place.ensures.bound in
    let early = subst (λ (u : Live). pending_value u < v) (sym c.self.view_is) (subst (λ (n : ℕ). n < v) c.pending_value-pending.ensures c.if-value-pending.false) in
    let size = c.self.inside.ops.ok.0 in
    let count = c.len.ensures in
    let at = c.if-place-len.false in
    subst (λ (u : Live). IsPlace u v k) c.self.view_is
    (is_place t v k c.self.invariant.kept early bound p (λ l d e. c.if-index-value.false (ap (λ (x : Given). x.value) (get_or_read t.ops k c.index.result.now l c.index.ensures d) ∙ e)))
