pub mod ChainOps
pub mod Shelves
pub mod Waiting
pub mod Calls
