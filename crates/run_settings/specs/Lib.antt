pub mod Members
pub mod Scaling
pub mod Velocity
