pub mod StyleLemmas
pub mod PlaceLemmas
