pub mod Uniform
pub mod Standing
pub mod Kinds
pub mod Places
pub mod Forgetting
pub mod Indexed
