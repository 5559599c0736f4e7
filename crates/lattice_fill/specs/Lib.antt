pub mod Lattice
pub mod Points
