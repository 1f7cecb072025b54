pub mod ToldSteps
pub mod MemoryJudging
pub mod MemoryEndings
