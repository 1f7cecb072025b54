use Rattle.std.proofs.Common.{◌≤◌, ◌/◌, ℕ, List, get_or, subst, sym}
use Rattle.vq_capture_touched.proofs.Listings.{between_ends}
use Rattle.vq_capture_touched.proofs.kind.Kind.add_edges.Goals as goal

pub returns-clause-near : goal.returns-clause-near
returns-clause-near c = λ s t l e none.
    let inner : (p d : ℕ) → c.in-Some.low / c.args.self.now.width ≤ p → p ≤ c.in-Some.high / c.args.self.now.width → get_or c.args.self.now.lines.items p d ≤ c.in-Some-greatest.line =
    λ p d i j. subst (λ (xs : List ℕ). get_or xs p d ≤ c.in-Some-greatest.line) c.deref.ensures.value
    (c.in-Some-greatest.ensures p d (subst (λ (n : ℕ). n ≤ p) (sym c.part_of.ensures) i) (subst (λ (n : ℕ). p ≤ n) (sym c.part_of-2.ensures) j)) in
    between_ends c.args.self.now s t l c.args.b.now e c.range_of-range.result c.in-Some.low c.in-Some.high c.saturating_sub-start.result c.end_of.result
    c.args.stamps.now.items c.add_within.new.stamps.items c.add_within-2.new.stamps.items c.in-Some-greatest.line
    c.range_of-range.ensures c.saturating_sub-start.ensures c.end_of.ensures c.in_ok-add_within.ensures c.in_ok-add_within-2.ensures inner none
