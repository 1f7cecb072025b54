mod Cuts
mod Differences
mod Judging
mod OneVerdict
mod SmallLines
mod WrongEvents
pub mod Cited
