use Rattle.std.proofs.Common.{◌∙◌, get_or, arith}
use Rattle.std.proofs.lemmas.List.{get_or_default}
use Rattle.vq_capture_clocks.specs.Blocks.{line_at}
use Rattle.vq_capture_clocks.proofs.Cleared.{tells_twice}
use Rattle.vq_capture_clocks.proofs.pruning.clear_lines.Goals as goal

pub loop-place-preserved : goal.loop-place-preserved
loop-place-preserved c =
    let v = c.loop-place.invariant in
    let r = c.requires in
    let l = c.loop-place-test.true in (
      c.clear_at.ensures.wide ∙ v.0,
      λ next. tells_twice (λ p. get_or c.args.least.now p next) (line_at c.clear_at.new.lines) (line_at c.loop-place.lines) (line_at c.args.lines.now)
          (c.clear_at.ensures.same (λ p. get_or c.args.least.now p next) (get_or_default c.args.least.now c.loop-place.place _ next (omega (arith, v.0)))) (v.1 next),
    )
