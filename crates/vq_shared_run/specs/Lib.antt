pub mod Players
pub mod Shares
pub mod Shown
pub mod Stands
