use Rattle.std.proofs.Common.{◌∙◌, sym}
use Rattle.vq_capture_clocks.specs.Blocks.{says}
use Rattle.vq_capture_clocks.specs.Cells.{cells_of}
use Rattle.vq_capture_clocks.proofs.NumberLanes.{given_lanes}
use Rattle.vq_capture_clocks.proofs.cells.bring_all.Goals as goal

pub returns : goal.returns
returns c =
    (λ i k. c.in_ok-bring_in.ensures k i)
    ∙ sym (given_lanes (cells_of c.args.cells.now) c.args.number c.args.set (says c.args.clock.now))
