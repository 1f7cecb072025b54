pub mod Cited
mod Counts
mod HistoryProofs
mod Kept
mod Longer
mod Measure
