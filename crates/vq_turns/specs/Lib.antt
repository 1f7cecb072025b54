pub mod KeptNeeds
pub mod Programs
pub mod Turns
pub mod Wants
