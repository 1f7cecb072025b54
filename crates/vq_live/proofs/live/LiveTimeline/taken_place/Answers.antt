use Rattle.std.proofs.Common.{◌≡◌, ℕ, ◌<◌, ◌≤◌, true, false, sym, ◌∙◌, ap, subst, refl, arith}
use Rattle.std.specs.List.Sorted.{IsPartitionPoint}
use Rattle.vq_live.specs.Live.{Live, pending_value}
use Rattle.vq_live.specs.Calls.{cancel_fault}
use Rattle.vq_live.specs.Places.{IsTakenAt}
use Rattle.vq_live.specs.Fields.{live_of}
use Rattle.vq_live.proofs.Removing.{not_taken, taken_at, other_value_at, other_point_at, read_at}
use Rattle.vq_live.proofs.live.LiveTimeline.taken_place.Goals as goal
use Rattle.vq_live.proofs.live.LiveTimeline.taken_place.Goals.{then-found-given-via-then-found-given, then-found-given-via-else-found-given+then-found-given-2}

pub returns-then-found-given-clause-err : goal.returns-then-found-given-clause-err
returns-then-found-given-clause-err c =
    let y = c.args.given in
    let k = c.place_of-place.result in
    let t = live_of c.self.inside in
    let p = subst (λ (u : Live). IsPartitionPoint (λ x. x.value < y.value) (λ x. y.value ≤ x.value) u.ops k) (sym c.self.view_is) c.place_of-place.ensures.parted in
    let late = subst (λ (u : Live). pending_value u < y.value) (sym c.self.view_is) (subst (λ (n : ℕ). n < y.value) c.pending_value.ensures c.if-given-pending_value.false) in
    sym (ap (λ (u : Live). cancel_fault u y) c.self.view_is)
    ∙ not_taken t y k c.self.invariant.kept late p
    (λ l d. elim c.then-found-given.branch [
      | then-found-given-via-then-found-given w ↦ other_value_at t.ops k c.in-Some.found.now y d l c.in-Some.ensures.lookup w.if-found-given.true
      | then-found-given-via-else-found-given+then-found-given-2 w ↦ other_point_at t.ops k c.in-Some.found.now y d l c.in-Some.ensures.lookup w.if-found-given-2.true
    ])

pub returns-in-None-clause-err : goal.returns-in-None-clause-err
returns-in-None-clause-err c =
    let y = c.args.given in
    let k = c.place_of-place.result in
    let t = live_of c.self.inside in
    let p = subst (λ (u : Live). IsPartitionPoint (λ x. x.value < y.value) (λ x. y.value ≤ x.value) u.ops k) (sym c.self.view_is) c.place_of-place.ensures.parted in
    let late = subst (λ (u : Live). pending_value u < y.value) (sym c.self.view_is) (subst (λ (n : ℕ). n < y.value) c.pending_value.ensures c.if-given-pending_value.false) in
    sym (ap (λ (u : Live). cancel_fault u y) c.self.view_is)
    ∙ not_taken t y k c.self.invariant.kept late p
    (λ l d. let size = c.self.inside.ops.ok.0 in let none : false ≡ true = c.in-None.ensures.variant.1 (omega arith) in absurd (cc))

pub returns-else-found-given-2-clause-ok : goal.returns-else-found-given-2-clause-ok
returns-else-found-given-2-clause-ok c =
    let y = c.args.given in
    let k = c.place_of-place.result in
    let t = live_of c.self.inside in
    let size = c.self.inside.ops.ok.0 in
    let within = c.in-Some.ensures.variant.0 refl in
    let late = subst (λ (u : Live). pending_value u < y.value) (sym c.self.view_is) (subst (λ (n : ℕ). n < y.value) c.pending_value.ensures c.if-given-pending_value.false) in
    subst (λ (u : Live). IsTakenAt u y k) c.self.view_is
    (taken_at t y k c.self.invariant.kept late (read_at t.ops k c.in-Some.found.now y (omega arith) c.in-Some.ensures.lookup c.if-found-given.false c.if-found-given-2.false))
