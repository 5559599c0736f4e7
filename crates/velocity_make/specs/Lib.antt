pub mod Change
pub mod Draw
pub mod Group
pub mod Make
