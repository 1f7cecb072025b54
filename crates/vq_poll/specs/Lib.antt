pub mod Hearing
pub mod Watching
pub mod Looks
pub mod Missing
pub mod Seeing
pub mod Waiting
pub mod Arriving
pub mod Owning
