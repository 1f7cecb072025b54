pub mod Tales
pub mod Scripts
