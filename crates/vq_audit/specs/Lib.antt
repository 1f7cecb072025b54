pub mod Verdicts
pub mod Audits
pub mod Comparing
