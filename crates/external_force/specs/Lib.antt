pub mod Callbacks
pub mod Trap
pub mod Views
