pub mod LeastLemmas
pub mod NameLemmas
pub mod SearchLemmas
