pub mod Lanes
pub mod Notes
pub mod Tables
pub mod AnswerStates
pub mod Opening
pub mod Opened
