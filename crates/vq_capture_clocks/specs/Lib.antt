pub mod Clocks
pub mod LaneSets
pub mod Blocks
pub mod Cells
pub mod Least
pub mod Levels
pub mod Gone
