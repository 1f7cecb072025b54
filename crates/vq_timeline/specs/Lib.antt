pub mod Answers
pub mod Named
