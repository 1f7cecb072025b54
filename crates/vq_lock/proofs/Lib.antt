pub mod Cited
mod Guards
mod Locks
