pub mod Fetching
pub mod Sending
