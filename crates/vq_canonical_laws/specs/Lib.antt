pub mod FormatRules
pub mod AddedJobs
pub mod CanonicalStatements
