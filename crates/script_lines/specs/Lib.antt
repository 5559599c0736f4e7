pub mod Joining
pub mod Modes
pub mod Physical
pub mod Reading
pub mod Script
pub mod Substitution
pub mod Table
pub mod Words
