pub mod Memory
pub mod Sent
pub mod Stock
