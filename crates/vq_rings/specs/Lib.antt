pub mod Berths
pub mod Openings
