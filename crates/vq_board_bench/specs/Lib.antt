pub mod Bare
pub mod Idle
pub mod Making
pub mod Rows
