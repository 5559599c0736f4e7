pub mod Around
pub mod Bins
pub mod Cells
pub mod Near
