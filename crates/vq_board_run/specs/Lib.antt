pub mod Answered
pub mod Crewed
pub mod Crews
pub mod Rooming
pub mod Unused
