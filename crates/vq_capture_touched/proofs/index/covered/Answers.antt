use Rattle.std.proofs.Common.{rules}
use Rattle.vq_capture_touched.proofs.IndexLists.{covered_more, covered_whole}
use Rattle.vq_capture_touched.proofs.index.covered.Goals as goal

pub loop-kind-preserved : goal.loop-kind-preserved
loop-kind-preserved c =
    covered_more c.args.w.now c.args.kinds.now c.loop-kind.kind-index c.kind-item.result c.loop-kind.stamps.items c.add_covered.new.stamps.items
    (search rules) (search rules) c.loop-kind.invariant c.in_ok-add_covered.ensures.kept c.in_ok-add_covered.ensures.covered

pub returns : goal.returns
returns c =
    covered_whole c.args.w.now c.args.kinds.now c.loop-kind.kind-index c.loop-kind.stamps.items (search rules) c.loop-kind.invariant
