pub mod FillAndCopy
pub mod Holders
