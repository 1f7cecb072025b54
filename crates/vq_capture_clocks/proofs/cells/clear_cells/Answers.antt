use Rattle.vq_capture_clocks.specs.Cells.{cells_of}
use Rattle.vq_capture_clocks.specs.Least.{least_in}
use Rattle.vq_capture_clocks.proofs.Cleared.{tells_twice}
use Rattle.vq_capture_clocks.proofs.cells.clear_cells.Goals as goal

pub loop-number-2-preserved : goal.loop-number-2-preserved
loop-number-2-preserved c = λ k g.
    tells_twice (least_in c.args.least.now) (cells_of c.clear_site.new.cells k) (cells_of c.loop-number-2.cells k) (cells_of c.args.cells.now k) (c.in_ok-clear_site.ensures k g) (c.loop-number-2.invariant k g)
