pub mod Facts
pub mod Keeping
pub mod Lookups
pub mod PastLists
pub mod Steps
