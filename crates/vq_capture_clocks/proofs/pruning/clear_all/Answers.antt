use Rattle.std.proofs.Common.{◌∙◌, refl}
use Rattle.vq_capture_clocks.specs.Blocks.{line_at}
use Rattle.vq_capture_clocks.proofs.Cleared.{tells_twice}
use Rattle.vq_capture_clocks.proofs.pruning.clear_all.Goals as goal

pub loop-place-preserved : goal.loop-place-preserved
loop-place-preserved c =
    let v = c.loop-place.invariant in (
      c.clear_at.ensures.wide ∙ v.0,
      tells_twice (λ p. c.args.next) (line_at c.clear_at.new.lines) (line_at c.loop-place.lines) (line_at c.args.lines.now) (c.clear_at.ensures.same (λ p. c.args.next) refl) v.1,
    )
