pub mod MemoryLanes
pub mod Delivery
