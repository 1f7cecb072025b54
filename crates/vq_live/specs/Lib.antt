pub mod Live
pub mod Calls
pub mod Places
pub mod Fields
pub mod Runs
