pub mod Limits
pub mod Windows
