pub mod Cited
mod MemoryLaws
