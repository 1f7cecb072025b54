use Rattle.std.proofs.Common.{◌∙◌, []}
use Rattle.vq_capture_clocks.proofs.BlockLists.{said_on}
use Rattle.vq_capture_clocks.proofs.clocks.said_in.Goals as goal

pub loop-block-preserved : goal.loop-block-preserved
loop-block-preserved c = λ lane n p.
    c.later-line.ensures
    ∙ said_on lane c.args.number c.args.place c.loop-block.line c.line_of.result c.args.clock.now c.loop-block.block-index (record { number = 0; lines = [] }) n p c.line_of.ensures
    c.loop-block-test.true (c.loop-block.invariant lane n p)
