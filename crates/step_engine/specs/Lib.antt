pub mod Engine
pub mod Ranges
pub mod Reach
pub mod Rows
pub mod Turns
