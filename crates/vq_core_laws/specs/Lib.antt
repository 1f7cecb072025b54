pub mod Firsts
pub mod TimelineOf
