use Rattle.std.proofs.Common.{ℕ, List, map, subst, sym}
use Rattle.vq_capture_touched.specs.declared.kind.Kind.{Kind}
use Rattle.vq_capture_touched.specs.Indexed.{touches_of}
use Rattle.vq_capture_check.specs.Searches.{AreFast, AreFound}
use Rattle.vq_capture_check.specs.Watching.{is_loose}
use Rattle.vq_capture_check.specs.Watches.{clocking_of}
use Rattle.vq_capture_check.proofs.LooseFound.{all_fast, last_none}
use Rattle.vq_capture_check.proofs.loose.last_indexed.Goals as goal

pub returns-then-none_loose : goal.returns-then-none_loose
returns-then-none_loose c =
    let found = subst (λ (ks : List Kind). AreFound c.args.cut (map clocking_of c.args.points.now) c.args.b.now ks c.in_ok-stamps.stamps.items)
    c.kinds.ensures.kinds c.in_ok-stamps.ensures in
    let fast = subst (λ (xs : List ℕ). AreFast c.args.cut (map clocking_of c.args.points.now) c.args.b.now c.args.index.now.touches xs)
    c.deref.ensures.value (c.none_loose.ensures c.if-none_loose.true) in
    sym (last_none c.args.cut (map clocking_of c.args.points.now) c.args.b.now (touches_of c.args.index.now)
    (c.kinds.ensures.none (is_loose c.args.cut (map clocking_of c.args.points.now) c.args.b.now)
    (all_fast c.args.cut (map clocking_of c.args.points.now) c.args.b.now c.args.index.now.touches c.args.index.now.kinds.items
    c.in_ok-stamps.stamps.items c.args.index.now.listed found fast)))
