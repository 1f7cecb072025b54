pub mod Synced
pub mod Calls
