pub mod Refused
pub mod Mends
