pub mod TwoBatches
pub mod Acting
pub mod Locked
pub mod Scenes
