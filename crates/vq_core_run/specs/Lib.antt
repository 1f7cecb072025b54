pub mod Casts
pub mod CoreAccesses
pub mod Driven
pub mod Seats
