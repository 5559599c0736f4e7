pub mod GroupLemmas
pub mod IdLemmas
pub mod OrderLemmas
pub mod PlaceLemmas
pub mod SideLemmas
