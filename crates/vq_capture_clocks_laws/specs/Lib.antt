pub mod Tidy
pub mod Finding
