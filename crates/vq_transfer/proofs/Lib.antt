pub mod Cited
mod Parts
mod Sizes
