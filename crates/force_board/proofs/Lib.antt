pub mod Known
pub mod Allowed
