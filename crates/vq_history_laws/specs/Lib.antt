pub mod Histories
pub mod Measure
pub mod KeptFacts
