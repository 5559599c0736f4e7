pub mod Adds
pub mod Rows
pub mod Sums
