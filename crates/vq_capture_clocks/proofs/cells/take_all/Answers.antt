use Rattle.std.proofs.Common.{◌∙◌}
use Rattle.vq_capture_clocks.specs.Blocks.{says}
use Rattle.vq_capture_clocks.specs.Cells.{cells_of}
use Rattle.vq_capture_clocks.proofs.NumberLanes.{taken_lanes}
use Rattle.vq_capture_clocks.proofs.cells.take_all.Goals as goal

pub returns : goal.returns
returns c =
    c.in_ok-raise.ensures
    ∙ taken_lanes (cells_of c.args.cells.now) c.args.line c.args.number c.args.set (says c.args.clock.now.items) (says c.take_in.new.clock.items) c.in_ok-take_in.ensures c.requires
