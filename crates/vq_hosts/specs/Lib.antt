pub mod Batches
pub mod BlockTests
pub mod BlockWords
pub mod HasThreads
pub mod HasTold
pub mod Outcomes
pub mod Pairs
pub mod StepBatches
