pub mod Batches
pub mod Lines
pub mod NameLists
pub mod NameMaps
pub mod Said
pub mod Slots
pub mod Things
