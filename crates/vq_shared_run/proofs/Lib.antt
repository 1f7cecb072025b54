pub mod Cited
mod Crossing
