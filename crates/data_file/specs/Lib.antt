pub mod Data
pub mod Fields
pub mod Header
pub mod Rows
pub mod Sections
pub mod Sound
pub mod Tables
pub mod Words
