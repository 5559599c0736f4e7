pub mod Angles
pub mod Bonds
pub mod Lengths
pub mod Paths
pub mod Rows
pub mod Tables
