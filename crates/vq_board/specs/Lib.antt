pub mod Copied
pub mod Firsts
pub mod Hands
pub mod Named
pub mod Answers
