pub mod Forces
pub mod Pairs
pub mod Rebuild
pub mod Room
pub mod Step
pub mod Work
