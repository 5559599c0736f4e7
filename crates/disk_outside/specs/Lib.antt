pub mod Disk
pub mod Memory
pub mod Moments
pub mod Recorded
pub mod Tearing
