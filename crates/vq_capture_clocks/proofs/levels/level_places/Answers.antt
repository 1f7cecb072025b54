use Rattle.std.proofs.Common.{◌∙◌}
use Rattle.vq_capture_clocks.specs.Blocks.{line_at}
use Rattle.vq_capture_clocks.proofs.Leveled.{tells_of_twice}
use Rattle.vq_capture_clocks.proofs.levels.level_places.Goals as goal

pub loop-place-preserved : goal.loop-place-preserved
loop-place-preserved c =
    let v = c.loop-place.invariant in (
      c.level_at.ensures.wide ∙ v.0,
      tells_of_twice c.args.lines.now c.args.next (line_at c.level_at.new.places) (line_at c.loop-place.places) (line_at c.args.places.now) c.level_at.ensures.same v.1,
    )
