use Rattle.std.proofs.Common.{◌≡◌, ◌<◌, ◌≤◌, ◌↔◌, ℕ, IsTrue, List, suc, length, get_or, ltb, sym, ap, ◌∙◌, subst, arith}
use Rattle.std.specs.List.Sorted.{IsNonDecreasing}
use Rattle.vq_model.specs.Edges.{At, stage_of}
use Rattle.vq_model.specs.HappensBefore.{HappensBeforeCommand}
use Rattle.vq_model.specs.Lanes.{lane_at}
use Rattle.vq_model.specs.Plan.{Plan}
use Rattle.vq_clocks.specs.PartClocks.{AreParts}
use Rattle.vq_clocks.specs.VectorClocks.{row_at}
use Rattle.vq_plan_laws.proofs.Cited.{owner_exists}
use Rattle.vq_clocks.proofs.PartLaws.{both_then, last_exact, part_exact}
use Rattle.vq_clocks.proofs.clocked.Clocked.before_place.Goals as goal

pub ends_before-part-requires : goal.ends_before-part-requires
ends_before-part-requires c = subst (λ (xs : List ℕ). IsNonDecreasing xs) (sym c.as_slice.ensures.value) c.requires.parts.ends.rise

pub before-requires-clause-second : goal.before-requires-clause-second
before-requires-clause-second c = owner_exists c.args.self.now c.args.j c.args.d c.requires.second

pub returns-then-part-len : goal.returns-then-part-len
returns-then-part-len c =
    let parts = c.args.parts.now in
    let below = subst (λ (xs : List ℕ). (k : ℕ) → k < c.ends_before-part.result → get_or xs k 0 ≤ c.ahead.result) c.as_slice.ensures.value c.ends_before-part.ensures.below in
    let last : c.ends_before-part.result ≡ length parts.ends.items = (let e = c.if-part-len.true in let n = c.len.ensures in let w = parts.ends.ok in omega arith) in
    both_then c.before-then-part-len.ensures
    (last_exact c.args.self.now c.args.i c.args.j c.args.d parts c.requires.parts c.ahead.result c.ends_before-part.result c.ahead.ensures below last)

pub at-requires-clause-row : goal.at-requires-clause-row
at-requires-clause-row c =
    let parts = c.args.parts.now in
    let are = subst (λ (p : Plan). AreParts p c.args.j c.args.parts.now) (sym c.self.view_is) c.requires.parts in
    let n = are.rows.count in
    let w = c.ends_before-part.ensures.within in
    let s = ap length c.as_slice.ensures.value in
    let d = c.if-part-len.false in
    let k = c.len.ensures in
    grind arith

pub at-requires-clause-lane : goal.at-requires-clause-lane
at-requires-clause-lane c =
    let parts = c.args.parts.now in
    let are = subst (λ (p : Plan). AreParts p c.args.j c.args.parts.now) (sym c.self.view_is) c.requires.parts in
    let within : c.ends_before-part.result < length parts.ends.items = (
    let w = c.ends_before-part.ensures.within in
    let s = ap length c.as_slice.ensures.value in
    let d = c.if-part-len.false in
    let k = c.len.ensures in
    grind arith) in
    let n = are.rows.width c.ends_before-part.result within in
    let l = c.lane.ensures.exists in
    omega arith

pub returns : goal.returns
returns c =
    let q = c.self.inside.run in
    let parts = c.args.parts.now in
    let part = c.ends_before-part.result in
    let are = subst (λ (p : Plan). AreParts p c.args.j c.args.parts.now) (sym c.self.view_is) c.requires.parts in
    let at = subst (λ (p : Plan). stage_of p c.args.j c.args.d ≡ At (suc c.ahead.result)) (sym c.self.view_is) c.ahead.ensures in
    let below = subst (λ (xs : List ℕ). (k : ℕ) → k < part → get_or xs k 0 ≤ c.ahead.result) c.as_slice.ensures.value c.ends_before-part.ensures.below in
    let within : part < length parts.ends.items = (
    let w = c.ends_before-part.ensures.within in
    let s = ap length c.as_slice.ensures.value in
    let d = c.if-part-len.false in
    let k = c.len.ensures in
    grind arith) in
    let late = subst (λ (xs : List ℕ). (k : ℕ) → part ≤ k → k < length xs → c.ahead.result < get_or xs k 0) c.as_slice.ensures.value c.ends_before-part.ensures.above part (omega arith) within in
    let number : c.at.result ≡ row_at parts.rows part (lane_at q c.args.i) = c.at.ensures ∙ ap (row_at parts.rows part) c.lane.ensures.value in
    subst (λ (p : Plan). IsTrue (ltb c.args.i c.at.result) ↔ HappensBeforeCommand p c.args.i c.args.j c.args.d) c.self.view_is
    (part_exact q c.args.i c.args.j c.args.d parts are c.ahead.result part at below within late c.at.result number)
