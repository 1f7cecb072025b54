pub mod Endings
pub mod Feeding
pub mod Judges
pub mod Judging
