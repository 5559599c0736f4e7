pub mod Groups
pub mod Ids
pub mod Kept
pub mod Regions
