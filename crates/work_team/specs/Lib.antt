pub mod Tallies
pub mod Effects
