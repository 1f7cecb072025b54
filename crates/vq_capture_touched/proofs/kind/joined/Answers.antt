use Rattle.std.proofs.Common.{rules}
use Rattle.vq_capture_touched.proofs.PartLines.{joined_more}
use Rattle.vq_capture_touched.proofs.kind.joined.Goals as goal

pub loop-part-preserved : goal.loop-part-preserved
loop-part-preserved c = (
  search rules,
  joined_more c.args.lines.now c.loop-part.all.items c.push.new.self.items c.args.times c.loop-part.part c.args.latest c.joined_line.result
      c.loop-part.invariant.0 c.in_ok-push.ensures.items c.loop-part.invariant.1 c.joined_line.ensures,
)
