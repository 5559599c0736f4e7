pub mod Bounds
mod Worked
mod WorkedPairs
pub mod ForceLemmas
pub mod LeastLemmas
pub mod PlaceLemmas
