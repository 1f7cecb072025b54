use Rattle.std.proofs.Common.{◌≡◌, false, rules}
use Rattle.vq_capture_touched.specs.Kinds.{writes}
use Rattle.vq_capture_touched.specs.Places.{stamps_up_to}
use Rattle.vq_capture_touched.proofs.Listings.{near_put, none_near, stamp_kept}
use Rattle.vq_capture_touched.proofs.kind.Kind.add_near.Goals as goal

pub returns-then-not-writes-2-clause-near : goal.returns-then-not-writes-2-clause-near
returns-then-not-writes-2-clause-near c = λ s t l e.
    let f : writes c.args.self.now.latest.step.statement ≡ false = search rules in
    let g : writes c.args.b.now.statement ≡ false = search rules in
    absurd (none_near c.args.self.now s t c.args.b.now f g l e)

pub returns-clause-kept : goal.returns-clause-kept
returns-clause-kept c = λ s h.
    stamp_kept s c.args.stamps.now.items
    (stamps_up_to c.saturating_sub-first.result c.end_of-end.result c.args.self.now.places.keys)
    c.add_within.new.stamps.items c.in_ok-add_within.ensures h

pub returns-clause-near : goal.returns-clause-near
returns-clause-near c = λ s t l e.
    near_put c.args.self.now s t l c.range_of-range.result c.args.stamps.now.items c.add_within.new.stamps.items c.args.b.now
    c.saturating_sub-first.result c.end_of-end.result c.range_of-range.ensures c.saturating_sub-first.ensures c.end_of-end.ensures
    c.in_ok-add_within.ensures e
