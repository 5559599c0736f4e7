pub mod Fixes
pub mod Least
