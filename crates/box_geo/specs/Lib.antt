pub mod Fault
pub mod Ids
pub mod Limits
pub mod Sides
pub mod Terms
pub mod Wrap
