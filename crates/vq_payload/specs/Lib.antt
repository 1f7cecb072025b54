pub mod Chains
pub mod Fields
pub mod Learning
pub mod Finding
pub mod Tests
pub mod Reading
