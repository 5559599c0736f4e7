pub mod BuildLemmas
pub mod LengthLemmas
pub mod PairLemmas
pub mod SkinLemmas
pub mod MovedLemmas
