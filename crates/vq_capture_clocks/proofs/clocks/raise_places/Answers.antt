use Rattle.std.proofs.Common.{◌∙◌, arith}
use Rattle.vq_capture_clocks.specs.Blocks.{line_at}
use Rattle.vq_capture_clocks.proofs.RaisedLines.{raised_step}
use Rattle.vq_capture_clocks.proofs.clocks.raise_places.Goals as goal

pub loop-place-preserved : goal.loop-place-preserved
loop-place-preserved c =
    let v = c.loop-place.invariant in
    let w = c.raise_if.ensures.wide in
    let l = c.loop-place-test.true in (
      omega arith,
      w ∙ v.1,
      raised_step (line_at c.args.lines.now) c.args.set c.args.line c.loop-place.place c.has_lane.result c.has_lane.ensures
          (line_at c.loop-place.lines) (line_at c.raise_if.new.lines) v.2 c.raise_if.ensures.raised,
    )
