use Rattle.std.proofs.Common.{◌≡◌, ◌∙◌, false, rules, sym}
use Rattle.vq_ground.proofs.Bools.{never}
use Rattle.vq_capture_touched.specs.Kinds.{may_stand}
use Rattle.vq_capture_touched.specs.Places.{stamps_up_to}
use Rattle.vq_capture_touched.proofs.Listings.{covered_put, may_cover, stamp_kept}
use Rattle.vq_capture_touched.proofs.kind.Kind.add_covered.Goals as goal

pub returns-then-not-may_stand-clause-covered : goal.returns-then-not-may_stand-clause-covered
returns-then-not-may_stand-clause-covered c = λ s t l e.
    let f : may_stand c.args.w.now c.args.self.now.latest.step ≡ false = search rules in
    never (sym f ∙ may_cover c.args.self.now s t c.args.w.now l e)

pub returns-clause-kept : goal.returns-clause-kept
returns-clause-kept c = λ s h.
    stamp_kept s c.args.stamps.now.items
    (stamps_up_to c.range_of-range.result.offset c.end_of-end.result c.args.self.now.places.keys)
    c.add_within.new.stamps.items c.in_ok-add_within.ensures h

pub returns-clause-covered : goal.returns-clause-covered
returns-clause-covered c = λ s t l e.
    covered_put c.args.self.now s t l c.range_of-range.result c.args.stamps.now.items c.add_within.new.stamps.items c.args.w.now
    c.end_of-end.result c.range_of-range.ensures c.end_of-end.ensures c.in_ok-add_within.ensures e
