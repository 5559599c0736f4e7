pub mod CellLemmas
pub mod OnceLemmas
pub mod PassLemmas
pub mod PlaceLemmas
pub mod PointLemmas
pub mod SpacingLemmas
mod Worked
