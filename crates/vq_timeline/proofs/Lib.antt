pub mod Cited
mod Bound
mod Completion
mod Crossing
mod Freed
mod Given
mod Locking
mod Opened
mod Retiring
mod Shared
