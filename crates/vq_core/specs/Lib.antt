pub mod Tables
pub mod CoreState
pub mod Kept
pub mod GuardParts
pub mod Answered
