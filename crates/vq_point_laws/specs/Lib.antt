pub mod Points
pub mod HistoryLaws
pub mod Timeline
pub mod PointWord
