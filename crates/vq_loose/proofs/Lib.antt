pub mod Values
pub mod Slots
pub mod Handles
