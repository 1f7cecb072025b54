pub mod Cited
mod ClosedEnds
mod Copied
mod Dealt
mod Firsts
mod Hands
mod OpNumbers
mod Placed
mod Shared
mod StepAt
