pub mod Tests
pub mod TrueTasks
pub mod TruePasses
pub mod Premises
pub mod Causes
pub mod AccessMeanings
