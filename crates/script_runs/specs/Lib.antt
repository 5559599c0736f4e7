pub mod Engines
pub mod Judged
pub mod Line
pub mod Parts
