use Rattle.std.proofs.Common.{sym}
use Rattle.vq_capture_clocks.specs.Blocks.{block_says, says}
use Rattle.vq_capture_clocks.proofs.BlockLists.{below_at, below_on}
use Rattle.vq_capture_clocks.proofs.RaisedLines.{block_below}
use Rattle.vq_capture_clocks.proofs.clocks.block_within.Goals as goal

pub returns-then-there-block : goal.returns-then-there-block
returns-then-there-block c = λ t.
    below_on (block_says c.args.block.now) (block_says _) (says c.args.clock.now)
    (block_below c.args.block.now _ (sym c.if-there-block.true) (c.lines_within.ensures t))
    (below_at c.args.clock.now c.place_from-place.result _ c.if-place-clock.true)
