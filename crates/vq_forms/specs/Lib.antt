pub mod Few
pub mod OpenWords
pub mod Table
