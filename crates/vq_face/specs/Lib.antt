pub mod Endings
pub mod Codes
pub mod Verdicts
pub mod Explanations
pub mod Kinds
pub mod Turns
pub mod Rows
