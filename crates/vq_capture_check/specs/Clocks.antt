-- Clocks, and what is kept of them: those of another crate, whose definitions are brought in here.
pub use Rattle.vq_capture_clocks.specs.Clocks.{no_clock, later, join, raise, knows, with_cell, take_lanes, give_lanes, with_line, take_lines}
pub use Rattle.vq_capture_clocks.specs.Blocks.{says}
pub use Rattle.vq_capture_clocks.specs.Cells.{cells_of}
