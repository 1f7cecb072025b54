pub mod Handles
pub mod Lending
pub mod Codes
pub mod Told
pub mod Answered
pub mod Asked
pub mod Read
