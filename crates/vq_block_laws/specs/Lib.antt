pub mod WithoutBlocks
pub mod Renumbered
