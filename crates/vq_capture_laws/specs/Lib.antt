pub mod Closure
pub mod Edges
