pub mod Runs
pub mod Lived
pub mod Ledger
pub mod Tied
pub mod Stuck
pub mod Referred
pub mod Standing
