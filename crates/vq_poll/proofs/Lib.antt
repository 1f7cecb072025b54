pub mod Cited
mod Arrived
mod Coming
mod Crossing
mod Ended
mod Learned
mod Loaned
mod Looked
mod Missed
mod Places
mod Polled
mod Waited
