use Rattle.std.proofs.Common.{map, rules}
use Rattle.vq_capture_check.specs.Watches.{clocking_of}
use Rattle.vq_capture_check.proofs.LooseFound.{found_all, found_more}
use Rattle.vq_capture_check.proofs.loose.near.Goals as goal

pub loop-kind-preserved : goal.loop-kind-preserved
loop-kind-preserved c =
    found_more c.args.cut (map clocking_of c.args.points.now) c.args.b.now c.args.kinds.now c.loop-kind.kind-index c.kind-item.result
    c.loop-kind.stamps.items c.add_kind.new.stamps.items (search rules) (search rules) c.loop-kind.invariant
    c.in_ok-add_kind.ensures.kept c.in_ok-add_kind.ensures.near

pub returns : goal.returns
returns c =
    found_all c.args.cut (map clocking_of c.args.points.now) c.args.b.now c.args.kinds.now c.loop-kind.kind-index c.loop-kind.stamps.items
    (search rules) c.loop-kind.invariant
