mod Apart
mod Bare
pub mod Cited
mod Ground
mod Left
mod Lookups
mod Reserving
