pub mod MemberLemmas
pub mod SumLemmas
pub mod CastLemmas
pub mod DrawLemmas
pub mod FastLemmas
pub mod ListLemmas
pub mod OrderLemmas
pub mod StillLemmas
mod Worked
