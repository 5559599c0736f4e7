pub mod TallyLemmas
pub mod Workers
pub mod Phase
