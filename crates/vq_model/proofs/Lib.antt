pub mod Actors
pub mod Plans
pub mod Puts
pub mod Sizes
